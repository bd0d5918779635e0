-- A text that is added to the names: what the names had stands where it stood, and each text can be added.
use Rattle.std.proofs.Common.{◌≡◌, ℕ, zero, suc, inl, inr, refl, sym, ◌∙◌, ap, subst, List, [], ◌∷◌, ◌++◌, length, Some, slice_get, Contains}
use Rattle.std.proofs.lemmas.Option.{slice_get-get_or}
use Rattle.qs_tree.specs.Lists.{◌∈◌}
use Rattle.qs_tree.proofs.Members.{in_at}
use Rattle.qs_tree.proofs.Decisions.{decide_number, decide_list, decide_member}
use Rattle.qs_tree.proofs.NamesLemmas.{Contains-slice_get, slice_get-last}
use Rattle.qs_reader.specs.Names.{KeepsNames, AddsName}

place_in_longer : (names more : List (List ℕ)) (k : ℕ) (text : List ℕ) → slice_get names k ≡ Some text → slice_get (names ++ more) k ≡ Some text
place_in_longer [] more k text e = absurd cc
place_in_longer (n ∷ names) more zero text e = e
place_in_longer (n ∷ names) more (suc k) text e = place_in_longer names more k text e

pub addition_keeps : (old new : List (List ℕ)) (label : List ℕ) → AddsName old label new → KeepsNames old new
addition_keeps old new label (inl a) k text e = subst (λ ns. slice_get ns k ≡ Some text) (sym a.1) e
addition_keeps old new label (inr a) k text e = subst (λ ns. slice_get ns k ≡ Some text) (sym a.1) (place_in_longer old (label ∷ []) k text e)

-- a text among the names stands at a place
member_place : (names : List (List ℕ)) (label : List ℕ) → label ∈ names → (k : ℕ) × (slice_get names k ≡ Some label)
member_place [] label i = absurd i
member_place (n ∷ names) label (inl e) = (0, ap (λ text. Some text) (sym e))
member_place (n ∷ names) label (inr i) = let p = member_place names label i in (suc p.0, p.1)

pub contained_place : (names : List (List ℕ)) (label : List ℕ) → Contains names label → (k : ℕ) × (slice_get names k ≡ Some label)
contained_place names label c = (c.0, slice_get-get_or names c.0 label c.1 ∙ ap (λ text. Some text) c.2)

-- each text can be added, and then stands at a place
pub name_added : (old : List (List ℕ)) (label : List ℕ) → (new : List (List ℕ)) × AddsName old label new × (k : ℕ) × (slice_get new k ≡ Some label)
name_added old label = by (decide_member (decide_list decide_number) label old)
  where
    by : Dec (label ∈ old) → (new : List (List ℕ)) × AddsName old label new × (k : ℕ) × (slice_get new k ≡ Some label)
    by (yes i) = let p = member_place old label i in (old, inl (Contains-slice_get old label p.0 p.1, refl), p.0, p.1)
    by (no n) = (old ++ label ∷ [], inr (λ c. let p = contained_place old label c in n (in_at old p.0 label p.1), refl), length old, slice_get-last old label (length old) refl)
