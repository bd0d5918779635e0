-- The marked places of a list.
use Rattle.std.proofs.Common.{◌≡◌, ℕ, ◌≤◌, Bool, List, ◌++◌, length, drop, sym, ◌∙◌, ap, append-nil}
use Rattle.std.proofs.lemmas.List.{drop_all}
use Rattle.qs_clean.proofs.Places.{places}

-- all places have been looked at
pub places_all : (marks : List Bool) (i : ℕ) (made all : List ℕ) → length marks ≤ i → made ++ places i (drop i marks) ≡ all → made ≡ all
places_all marks i made all l e = sym (append-nil made) ∙ ap (λ ms. made ++ places i ms) (sym (drop_all i marks l)) ∙ e
