-- Names none of which has the end of a line, in the place of names some of which may have one: the others stay, at their places,
-- and those that have one are replaced by texts that are longer than all of them, each by another.
use Rattle.std.proofs.Common.{◌≡◌, ℕ, zero, suc, ◌+◌, ◌<◌, ◌≤◌, ◌&&◌, ◌⊎◌, Bool, true, false, cond, not, refl, sym, ap, ◌∙◌, subst, inl, inr, ⊎_elim, List, [], ◌∷◌, length, Some, slice_get, arith}
use Rattle.std.specs.Prelude.{unwrap_or}
use Rattle.std.specs.List.{list_all}
use Rattle.qs_lex.specs.Characters.{ends_line, Each}
use Rattle.qs_lex.proofs.Choices.{each_from_all}
use Rattle.qs_tree.specs.Names.{AreDistinct}
use Rattle.qs_ruletext.specs.Written.{AreOnOneLine}
use Rattle.qs_pieces.proofs.RenamedGrammars.{Carries}
use Rattle.qs_pieces.proofs.PassingRules.{KeepsLines}

-- how many bytes these texts have
abbrev pub total : List (List ℕ) → ℕ
total [] = 0
total (text ∷ texts) = length text + total texts

pub within_total : (texts : List (List ℕ)) (k : ℕ) (text : List ℕ) → slice_get texts k ≡ Some text → length text ≤ total texts
within_total [] k text is = absurd cc
within_total (first ∷ texts) zero text is = let same : first ≡ text = cc in omega (arith, ap length same)
within_total (first ∷ texts) (suc k) text is = omega (arith, within_total texts k text is)

-- so many letters
abbrev letters : ℕ → List ℕ
letters zero = []
letters (suc n) = 65 ∷ letters n

letters_many : (n : ℕ) → length (letters n) ≡ n
letters_many zero = refl
letters_many (suc n) = omega (arith, letters_many n)

letters_line : (n : ℕ) → Each (λ b. not (ends_line b)) (letters n)
letters_line zero = tt
letters_line (suc n) = (refl, letters_line n)

-- a text has no end of a line
abbrev on_one_line : List ℕ → Bool
on_one_line text = list_all (λ b. not (ends_line b)) text

all_from_each : (text : List ℕ) → Each (λ b. not (ends_line b)) text → on_one_line text ≡ true
all_from_each [] each = refl
all_from_each (b ∷ text) each = ap (λ x. x && on_one_line text) each.0 ∙ all_from_each text each.1

module _ (big : ℕ) where
  -- the name, or so many letters and some more
  abbrev one_name : List ℕ → ℕ → Bool → List ℕ
  one_name name n b = cond b name (letters (big + n))

  abbrev pub one_line_names : List (List ℕ) → List (List ℕ)
  one_line_names [] = []
  one_line_names (name ∷ names) = one_name name (length names) (on_one_line name) ∷ one_line_names names

  pub as_many : (names : List (List ℕ)) → length (one_line_names names) ≡ length names
  as_many [] = refl
  as_many (name ∷ names) = omega (arith, as_many names)

  -- each has no end of a line
  one_is : (name : List ℕ) (n : ℕ) (b : Bool) → on_one_line name ≡ b → Each (λ b. not (ends_line b)) (one_name name n b)
  one_is name n true is = each_from_all (λ b. not (ends_line b)) name is
  one_is name n false is = letters_line (big + n)

  pub are_on_one_line : (names : List (List ℕ)) → AreOnOneLine (one_line_names names)
  are_on_one_line [] k text is = absurd cc
  are_on_one_line (name ∷ names) zero text is =
      let same : one_name name (length names) (on_one_line name) ≡ text = cc in
      subst (λ (t : List ℕ). Each (λ b. not (ends_line b)) t) same (one_is name (length names) (on_one_line name) refl)
  are_on_one_line (name ∷ names) (suc k) text is = are_on_one_line names k text is

  -- a name without one stays
  stays : (names : List (List ℕ)) (k : ℕ) → Each (λ b. not (ends_line b)) (unwrap_or (slice_get names k) []) → unwrap_or (slice_get names k) [] ≡ unwrap_or (slice_get (one_line_names names) k) []
  stays [] k line = refl
  stays (name ∷ names) zero line = ap (one_name name (length names)) (sym (all_from_each name line))
  stays (name ∷ names) (suc k) line = stays names k line

  pub keeps_lines : (names : List (List ℕ)) → KeepsLines names (one_line_names names)
  keeps_lines names l line = stays names l.0 line

  -- each of them is the name, or one of the longer texts
  abbrev IsOther : List (List ℕ) → ℕ → List ℕ → Type 0
  IsOther names k text = (j : ℕ) × (suc (k + j) ≡ length names) × (length text ≡ big + j)

  which : (names : List (List ℕ)) (k : ℕ) (text : List ℕ) → slice_get (one_line_names names) k ≡ Some text → (slice_get names k ≡ Some text) ⊎ IsOther names k text
  which [] k text is = absurd cc
  which (name ∷ names) zero text is = by (on_one_line name) (let same : one_name name (length names) (on_one_line name) ≡ text = cc in same)
    where
      by : (b : Bool) → one_name name (length names) b ≡ text → (Some name ≡ Some text) ⊎ IsOther (name ∷ names) 0 text
      by true same = inl (ap (λ (t : List ℕ). Some t) same)
      by false same = inr (length names, omega arith, ap length (sym same) ∙ letters_many (big + length names))
  which (name ∷ names) (suc k) text is =
      ⊎_elim inl (λ other. inr (other.0, omega (arith, other.1), other.2)) (which names k text is)

  -- so they differ, where the names do and are shorter
  module _ (names : List (List ℕ)) (distinct : AreDistinct names) (shorter : total names < big) where
    pub still_distinct : AreDistinct (one_line_names names)
    still_distinct i j text is also = by (which names i text is) (which names j text also)
      where
        by : (slice_get names i ≡ Some text) ⊎ IsOther names i text → (slice_get names j ≡ Some text) ⊎ IsOther names j text → i ≡ j
        by (inl here) (inl there) = distinct i j text here there
        by (inl here) (inr there) = absurd (omega (arith, within_total names i text here, there.2))
        by (inr here) (inl there) = absurd (omega (arith, within_total names j text there, here.2))
        by (inr here) (inr there) = omega (arith, here.1, here.2, there.1, there.2)

  -- shorter texts that are among them are so among the names
  pub carries_back : (g : ℕ → ℕ) (others names : List (List ℕ)) → total others < big → Carries g others (one_line_names names) → Carries g others names
  carries_back g others names shorter carries k text is =
      ⊎_elim (λ there. there) (λ other. absurd (omega (arith, within_total others k text is, other.2))) (which names (g k) text (carries k text is))
