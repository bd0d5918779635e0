-- Sorted firings, and each of them once.
use Rattle.std.proofs.Common.{◌≡◌, ℕ, suc, ◌<◌, ◌≤◌, Bool, true, false, List, [], ◌∷◌, length, get_or, Some, sym, ap, ◌∙◌, arith}
use Rattle.std.specs.Ordering.{is_lt}
use Rattle.std.specs.List.{Contains}
use Rattle.std.specs.List.Sorted.{IsPermutation, IsSortedBy}
use Rattle.std.proofs.lemmas.List.MinMax.{ranks_by}
use Rattle.std.proofs.lemmas.List.Sorted.{sorted_far, Contains-permutation, IsPermutation-sym}
use Rattle.std.proofs.lemmas.Option.{slice_get-get_or, slice_get_within, get_or_from_slice_get}
use Rattle.qs_tree.specs.Lists.{◌∈◌}
use Rattle.qs_tree.proofs.Members.{in_at}
use Rattle.qs_graph.proofs.Paths.{place_of}
use Rattle.qs_firing.specs.Firings.{Firing, order}
use Rattle.qs_firing.proofs.Orders.{order_total}
use Rattle.qs_join.specs.working.Sorting.{NeverFalls}

-- ---- members of a list in another order

to_contains : (xs : List Firing) (x : Firing) → x ∈ xs → Contains xs x
to_contains xs x i = let (k, at) = place_of xs x i in (k, slice_get_within xs k x at, get_or_from_slice_get xs k x x at)

from_contains : (xs : List Firing) (x : Firing) → Contains xs x → x ∈ xs
from_contains xs x (k, h, e) = in_at xs k x (slice_get-get_or xs k x h ∙ ap (λ y. Some y) e)

pub same_members : (xs ys : List Firing) → IsPermutation xs ys → (f : Firing) → (f ∈ ys → f ∈ xs) × (f ∈ xs → f ∈ ys)
same_members xs ys p f = (
  λ i. from_contains xs f (Contains-permutation ys xs f (IsPermutation-sym xs ys p) (to_contains ys f i)),
  λ i. from_contains ys f (Contains-permutation xs ys f p (to_contains xs f i)),
)

-- ---- sorted lists

abbrev pub is_before : Firing → Firing → Bool
is_before f g = is_lt (order f g)

-- no later one comes before an earlier one
never_falls : (xs : List Firing) → ((i j : ℕ) (d : Firing) → i ≤ j → j < length xs → is_before (get_or xs j d) (get_or xs i d) ≡ false) → NeverFalls xs
never_falls [] far = tt
never_falls (x ∷ xs) far = (
  λ g i b. let (k, at) = place_of xs g i in
      let h = slice_get_within xs k g at in
      let here : get_or xs k g ≡ g = get_or_from_slice_get xs k g g at in
      let no : is_before (get_or xs k g) x ≡ false = far 0 (suc k) g (omega arith) (omega arith) in
      let yes : is_before (get_or xs k g) x ≡ true = ap (λ y. is_before y x) here ∙ ap is_lt b in
      let clash : true ≡ false = sym yes ∙ no in
      absurd cc,
  never_falls xs (λ i j d l h. far (suc i) (suc j) d (omega arith) (omega arith)),
)

pub from_sorted : (xs : List Firing) → IsSortedBy is_before xs → NeverFalls xs
from_sorted xs up = never_falls xs (sorted_far is_before (ranks_by order_total (λ (f : Firing). f)) xs up)
