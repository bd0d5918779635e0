-- How a text is cut: from one segment to the next.
use Rattle.std.proofs.Common.{◌≡◌, ℕ, suc, ◌+◌, ◌-◌, ◌<◌, ◌≤◌, Bool, true, false, cond, not, refl, sym, ◌∙◌, ap, subst, ⊎_elim, List, [], ◌∷◌, length, take, drop, get_or, arith, length-drop}
use Rattle.std.specs.Prelude.{IsCharBoundary}
use Rattle.std.specs.Str.{IsUtf8}
use Rattle.std.specs.List.{prefix_len, slice_split, onto_first}
use Rattle.std.proofs.lemmas.Bool.{cases_lt, le-leb, lt-leb}
use Rattle.std.proofs.lemmas.List.{take_rest, length-take-le, take_all, drop-drop, drop-take, get_or-drop}
use Rattle.std.proofs.lemmas.List.Splits.{slice_split-cons_no, slice_split_first}
use Rattle.std.proofs.lemmas.List.Sums.{passes_at_first}
use Rattle.std.proofs.lemmas.Str.{IsCharBoundary-after_ascii, IsCharBoundary-before_ascii}
use Rattle.qs_deck.specs.Segments.{segments, cut, segments_from}

-- bytes that have none of the class are one segment
whole : (p : ℕ → Bool) (bs : List ℕ) → length bs ≤ prefix_len (λ b. not (p b)) bs → slice_split p bs ≡ bs ∷ []
whole p [] l = refl
whole p (b ∷ bs) l = by (p b) refl (λ m. whole p bs m)
  where
    by : (x : Bool) → p b ≡ x → (length bs ≤ prefix_len (λ c. not (p c)) bs → slice_split p bs ≡ bs ∷ []) → slice_split p (b ∷ bs) ≡ (b ∷ bs) ∷ []
    by true e rest =
        let none : prefix_len (λ c. not (p c)) (b ∷ bs) ≡ 0 = ap (λ x. cond (not x) (1 + prefix_len (λ c. not (p c)) bs) 0) e in
        absurd (omega (arith, l, none))
    by false e rest =
        let more : prefix_len (λ c. not (p c)) (b ∷ bs) ≡ 1 + prefix_len (λ c. not (p c)) bs = ap (λ x. cond (not x) (1 + prefix_len (λ c. not (p c)) bs) 0) e in
        slice_split-cons_no p b bs e ∙ ap (onto_first b) (rest (omega (arith, l, more)))

-- no segment begins behind the end
pub nothing_behind : (p : ℕ → Bool) (text : List ℕ) (at : ℕ) → length text < at → segments_from p text at ≡ []
nothing_behind p text at l = ap (λ b. cond b (cut p at (drop at text)) []) (lt-leb at (length text) l)

pub something_within : (p : ℕ → Bool) (text : List ℕ) (at : ℕ) → at ≤ length text → segments_from p text at ≡ cut p at (drop at text)
something_within p text at l = ap (λ b. cond b (cut p at (drop at text)) []) (le-leb at (length text) l)

-- the segment at a place, and those behind it
pub next_segment : (p : ℕ → Bool) (text : List ℕ) (at n : ℕ) → at ≤ length text → n ≡ prefix_len (λ b. not (p b)) (drop at text) → n ≤ length (drop at text)
    → segments_from p text at ≡ record { at = at; bytes = take n (drop at text) } ∷ segments_from p text (at + n + 1)
next_segment p text at n within is bound = something_within p text at within ∙ ⊎_elim inside at_end (cases_lt n (length (drop at text)))
  where
    long : length (drop at text) ≡ length text - at
    long = length-drop at text

    inside : n < length (drop at text) → cut p at (drop at text) ≡ record { at = at; bytes = take n (drop at text) } ∷ segments_from p text (at + n + 1)
    inside l =
        let first : slice_split p (drop at text) ≡ take n (drop at text) ∷ slice_split p (drop (n + 1) (drop at text)) =
        subst (λ k. slice_split p (drop at text) ≡ take k (drop at text) ∷ slice_split p (drop (k + 1) (drop at text))) (sym is) (slice_split_first p (drop at text) 0 (subst (λ k. k < length (drop at text)) is l))
        in
        let size : length (take n (drop at text)) ≡ n = length-take-le n (drop at text) bound in
        let far : drop (n + 1) (drop at text) ≡ drop (at + n + 1) text = drop-drop (n + 1) at text ∙ ap (λ k. drop k text) (omega arith) in
        ap (segments at) first
        ∙ ap (λ k. record { at = at; bytes = take n (drop at text) } ∷ segments (at + k + 1) (slice_split p (drop (n + 1) (drop at text)))) size
        ∙ ap (λ bs. record { at = at; bytes = take n (drop at text) } ∷ segments (at + n + 1) (slice_split p bs)) far
        ∙ ap (λ ss. record { at = at; bytes = take n (drop at text) } ∷ ss) (sym (something_within p text (at + n + 1) (omega (arith, l, long, within))))

    at_end : length (drop at text) ≤ n → cut p at (drop at text) ≡ record { at = at; bytes = take n (drop at text) } ∷ segments_from p text (at + n + 1)
    at_end l =
        ap (segments at) (whole p (drop at text) (subst (λ k. length (drop at text) ≤ k) is l))
        ∙ ap (λ bs. record { at = at; bytes = bs } ∷ []) (sym (take_all n (drop at text) l))
        ∙ ap (λ ss. record { at = at; bytes = take n (drop at text) } ∷ ss) (sym (nothing_behind p text (at + n + 1) (omega (arith, l, long, within))))

-- the byte behind a segment is of the class
pub byte_behind : (p : ℕ → Bool) (text : List ℕ) (at n : ℕ) → n ≡ prefix_len (λ b. not (p b)) (drop at text) → at + n < length text → p (get_or text (at + n) 0) ≡ true
byte_behind p text at n is l =
    let short : prefix_len (λ b. not (p b)) (drop at text) < length (drop at text) = subst (λ k. k < length (drop at text)) is (omega (arith, l, length-drop at text)) in
    ap p (sym (get_or-drop at text n 0) ∙ ap (λ k. get_or (drop at text) k 0) is) ∙ passes_at_first p (drop at text) 0 short

-- where the class has ASCII bytes alone, segments begin and end between characters
module _ (p : ℕ → Bool) (ascii : (b : ℕ) → p b ≡ true → b < 128) where
  pub end_border : (text : List ℕ) (at n : ℕ) → at + n ≤ length text → n ≡ prefix_len (λ b. not (p b)) (drop at text) → IsCharBoundary text (at + n)
  end_border text at n within is =
      ⊎_elim (λ l. IsCharBoundary-before_ascii text (at + n) l (ascii (get_or text (at + n) 0) (byte_behind p text at n is l)))
      (λ l. (within, λ m. absurd (omega (arith, l, m))))
      (cases_lt (at + n) (length text))

  pub next_border : (text : List ℕ) (at n : ℕ) → IsUtf8 text → n ≡ prefix_len (λ b. not (p b)) (drop at text) → at + n + 1 ≤ length text → IsCharBoundary text (at + n + 1)
  next_border text at n utf8 is l =
      IsCharBoundary-after_ascii text (at + n) utf8 (omega arith) (ascii (get_or text (at + n) 0) (byte_behind p text at n is (omega arith)))

-- the segments of a front of a text are those of the bytes there
pub front_segments : (p : ℕ → Bool) (text : List ℕ) (at n : ℕ) → at + n ≤ length text → segments_from p (take (at + n) text) at ≡ cut p at (take n (drop at text))
front_segments p text at n l =
    something_within p (take (at + n) text) at (omega (arith, length-take-le (at + n) text l)) ∙ ap (cut p at) (drop-take at n text)

-- what stands in front of the end of a segment is within the text
pub segment_within : (text : List ℕ) (at n : ℕ) → at ≤ length text → n ≤ length (drop at text) → at + n ≤ length text
segment_within text at n within bound = omega (arith, bound, length-drop at text, within)

pub prefix_within : (q : ℕ → Bool) (bs : List ℕ) → prefix_len q bs ≤ length bs
prefix_within q [] = omega arith
prefix_within q (b ∷ bs) = by (q b) (prefix_within q bs)
  where
    by : (x : Bool) → prefix_len q bs ≤ length bs → cond x (1 + prefix_len q bs) 0 ≤ suc (length bs)
    by true l = omega (arith, l)
    by false l = omega arith

-- what is seen of the bytes of a text from a place on
pub seen : (P : List ℕ → Type 0) (text bytes : List ℕ) (at : ℕ) → bytes ≡ text → P (take (length bytes - at) (drop at bytes)) → P (drop at text)
seen P text bytes at same x = subst (λ bs. P (drop at bs)) same (subst P (take_rest bytes at) x)
