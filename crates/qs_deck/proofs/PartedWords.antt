-- Words that are parted into lines by their ends.
use Rattle.std.proofs.Common.{◌≡◌, ℕ, zero, suc, ◌+◌, ◌-◌, ◌<◌, ◌≤◌, refl, sym, ◌∙◌, ap, List, [], ◌∷◌, length, take, drop, get_or, Some, slice_get, arith, length-drop}
use Rattle.std.proofs.lemmas.List.{drop-drop, length-take-le, get_or_read}
use Rattle.qs_deck.specs.Limits.{most_words}
use Rattle.qs_deck.specs.LinesOfWords.{parted, AreEnds}

pub as_many_lines : {X : Type 0} (from : ℕ) (words : List X) (ends : List ℕ) → length (parted from words ends) ≡ length ends
as_many_lines from words [] = refl
as_many_lines from words (end ∷ ends) = ap suc (as_many_lines end (drop (end - from) words) ends)

-- where the line with an index starts
abbrev pub start_at : ℕ → List ℕ → ℕ → ℕ
start_at from ends zero = from
start_at from [] (suc k) = from
start_at from (end ∷ ends) (suc k) = start_at end ends k

pub start_is : (from : ℕ) (ends : List ℕ) (k : ℕ) → suc k ≤ length ends → start_at from ends (suc k) ≡ get_or ends k 0
start_is from [] k l = absurd (omega (arith, l))
start_is from (end ∷ ends) zero l = refl
start_is from (end ∷ ends) (suc k) l = start_is end ends k (omega (arith, l))

pub record IsParted (from count start end : ℕ) : Type 0 where
  pub behind : from ≤ start
  pub some : start < end
  pub few : end ≤ start + most_words
  pub within : end ≤ count

pub end_within : (from : ℕ) (ends : List ℕ) (count : ℕ) → AreEnds from ends count → from ≤ count
end_within from [] count h = h
end_within from (end ∷ ends) count h = let more = end_within end ends count h.2 in omega (arith, more, h.0)

pub parted_at : (from : ℕ) (ends : List ℕ) (count k : ℕ) → AreEnds from ends count → k < length ends → IsParted from count (start_at from ends k) (get_or ends k 0)
parted_at from [] count k h l = absurd (omega (arith, l))
parted_at from (end ∷ ends) count zero h l = record { behind = omega arith; some = h.0; few = h.1; within = end_within end ends count h.2 }
parted_at from (end ∷ ends) count (suc k) h l =
    let p = parted_at end ends count k h.2 (omega (arith, l)) in
    record { behind = omega (arith, p.behind, h.0); some = p.some; few = p.few; within = p.within }

-- the line with an index
pub line_at : {X : Type 0} (from : ℕ) (words : List X) (ends : List ℕ) (count k : ℕ) → AreEnds from ends count → k < length ends
    → slice_get (parted from words ends) k ≡ Some (take (get_or ends k 0 - start_at from ends k) (drop (start_at from ends k - from) words))
line_at from words [] count k h l = absurd (omega (arith, l))
line_at from words (end ∷ ends) count zero h l = let none : 0 ≡ from - from = omega arith in ap (λ n. Some (take (end - from) (drop n words))) none
line_at from words (end ∷ ends) count (suc k) h l =
    let p = parted_at end ends count k h.2 (omega (arith, l)) in
    let behind = p.behind in
    let first = h.0 in
    let far : end - from + (start_at end ends k - end) ≡ start_at end ends k - from = omega (arith, behind, first) in
    line_at end (drop (end - from) words) ends count k h.2 (omega (arith, l))
    ∙ ap (λ ws. Some (take (get_or ends k 0 - start_at end ends k) ws)) (drop-drop (start_at end ends k - end) (end - from) words ∙ ap (λ n. drop n words) far)

-- where the code finds its start and its length
pub start_first : (ends : List ℕ) (index start : ℕ) → index ≡ 0 → start ≡ 0 → start ≡ start_at 0 ends index
start_first ends index start e f = f ∙ ap (start_at 0 ends) (sym e)

pub start_later : (ends : List ℕ) (index start : ℕ) → (index ≡ 0 → ⊥) → index < length ends → start ≡ get_or ends (index - 1) start → start ≡ start_at 0 ends index
start_later ends zero start n l r = absurd (n refl)
start_later ends (suc k) start n l r =
    get_or_read ends k start (omega (arith, l)) (r ∙ ap (λ m. get_or ends m start) (omega arith)) 0 ∙ sym (start_is 0 ends k (omega (arith, l)))

pub part_long : {X : Type 0} (xs : List X) (start end : ℕ) → end ≤ length xs → length (take (end - start) (drop start xs)) ≡ end - start
part_long xs start end l = length-take-le (end - start) (drop start xs) (omega (arith, l, length-drop start xs))
