-- Where the line `-PHRASES-` stands.
use Rattle.std.proofs.Common.{◌≡◌, ℕ, zero, suc, ◌+◌, ◌-◌, ◌<◌, ◌≤◌, Bool, true, false, cond, not, refl, sym, ◌∙◌, ap, subst, ⊎_elim, Option, Some, None, List, length, take, drop, get_or, arith, length-drop}
use Rattle.std.specs.Prelude.{IsCharBoundary, ◌==◌}
use Rattle.std.specs.Str.{IsUtf8, bytes_eq}
use Rattle.std.specs.List.{prefix_len}
use Rattle.std.proofs.lemmas.Bool.{cases_lt}
use Rattle.std.proofs.lemmas.Slice.Eq.{bytes_eq-Decides}
use Rattle.std.proofs.lemmas.List.{length-take-le, take-take, get_or-take, get_or-drop}
use Rattle.std.proofs.lemmas.Str.{IsCharBoundary-before_ascii, IsUtf8-take}
use Rattle.qs_lex.specs.Characters.{line_feed}
use Rattle.qs_deck.specs.PhraseTexts.{lines_from, border_line, first_border, border_of, before, grammar_part}
use Rattle.qs_deck.proofs.Cutting.{next_segment, nothing_behind, next_border, prefix_within}
use Rattle.qs_deck.proofs.LinesRead.{feed_ascii}
use Rattle.qs_tree.proofs.Decisions.{same_there}

-- what the line at a place says of where the border is
pub border_here : (text : List ℕ) (at n : ℕ) → at ≤ length text → n ≡ prefix_len (λ b. not (b == line_feed)) (drop at text) → n ≤ length (drop at text) → (b : Bool) → bytes_eq (take n (drop at text)) border_line ≡ b
    → first_border (lines_from text at) ≡ cond b (Some at) (first_border (lines_from text (at + n + 1)))
border_here text at n within is bound b e =
    ap first_border (next_segment (λ b. b == line_feed) text at n within is bound) ∙ ap (λ x. cond x (Some at) (first_border (lines_from text (at + n + 1)))) e

pub no_border_behind : (text : List ℕ) (at : ℕ) → length text < at → first_border (lines_from text at) ≡ None
no_border_behind text at past = ap first_border (nothing_behind (λ b. b == line_feed) text at past)

-- the line stands there, and what is behind it begins between characters
pub record IsBorderAt (text : List ℕ) (at : ℕ) : Type 0 where
  pub within : at + 9 ≤ length text
  pub border : IsCharBoundary text at
  pub behind : IsUtf8 text → at + 10 ≤ length text → IsCharBoundary text (at + 10)

stands : (text : List ℕ) (at n : ℕ) → at ≤ length text → n ≡ prefix_len (λ b. not (b == line_feed)) (drop at text) → n ≤ length (drop at text) → bytes_eq (take n (drop at text)) border_line ≡ true → IsBorderAt text at
stands text at n within is bound e =
    let same : take n (drop at text) ≡ border_line = (bytes_eq-Decides (take n (drop at text)) border_line).0 e in
    let nine : n ≡ 9 = sym (length-take-le n (drop at text) bound) ∙ ap length same in
    let long : at + 9 ≤ length text = omega (arith, bound, nine, length-drop at text, within) in
    let first : get_or text at 0 ≡ 45 =
    sym (get_or-drop at text 0 0 ∙ ap (λ k. get_or text k 0) (omega arith)) ∙ sym (get_or-take n (drop at text) 0 0 (omega (arith, nine))) ∙ ap (λ bs. get_or bs 0 0) same
    in
    record {
      within = long;
      border = IsCharBoundary-before_ascii text at (omega (arith, long)) (omega (arith, first));
      behind = λ utf8 l. subst (IsCharBoundary text) (omega (arith, nine)) (next_border (λ b. b == line_feed) feed_ascii text at n utf8 is (omega (arith, l, nine)));
    }

some_none : {x : ℕ} {A : Type 0} → None ≡ Some x → A
some_none e = absurd cc

found : (fuel : ℕ) (text : List ℕ) (at border : ℕ) → length text < at + fuel → first_border (lines_from text at) ≡ Some border → IsBorderAt text border
found zero text at border l e = some_none (sym (no_border_behind text at (omega (arith, l))) ∙ e)
found (suc fuel) text at border l e =
    ⊎_elim (λ past. some_none (sym (no_border_behind text at past) ∙ e))
    (λ within. here (prefix_len (λ b. not (b == line_feed)) (drop at text)) within refl (prefix_within (λ b. not (b == line_feed)) (drop at text)) (λ next m f. found fuel text next border m f))
    (cases_lt (length text) at)
  where
    here : (n : ℕ) → at ≤ length text → n ≡ prefix_len (λ b. not (b == line_feed)) (drop at text) → n ≤ length (drop at text)
        → ((next : ℕ) → length text < next + fuel → first_border (lines_from text next) ≡ Some border → IsBorderAt text border) → IsBorderAt text border
    here n within is bound further = by (bytes_eq (take n (drop at text)) border_line) refl
      where
        by : (b : Bool) → bytes_eq (take n (drop at text)) border_line ≡ b → IsBorderAt text border
        by true f =
            let same : at ≡ border = same_there (border_here text at n within is bound true f) e in
            subst (IsBorderAt text) same (stands text at n within is bound f)
        by false f = further (at + n + 1) (omega (arith, l)) (sym (border_here text at n within is bound false f) ∙ e)

pub border_stands : (text : List ℕ) (border : ℕ) → border_of text ≡ Some border → IsBorderAt text border
border_stands text border e = found (length text + 1) text 0 border (omega arith) e

-- the grammar part is a front of the text
pub part_utf8 : (text : List ℕ) → IsUtf8 text → IsUtf8 (grammar_part text)
part_utf8 text utf8 = by (border_of text) refl
  where
    by : (o : Option ℕ) → border_of text ≡ o → IsUtf8 (before text o)
    by None e = utf8
    by (Some at) e = IsUtf8-take text at utf8 (border_stands text at e).border

pub part_front : (text : List ℕ) (at : ℕ) → at ≤ length (grammar_part text) → (take at (grammar_part text) ≡ take at text) × (at ≤ length text)
part_front text at = by (border_of text) refl
  where
    by : (o : Option ℕ) → border_of text ≡ o → at ≤ length (before text o) → (take at (before text o) ≡ take at text) × (at ≤ length text)
    by None e l = (refl, l)
    by (Some border) e l =
        let w = (border_stands text border e).within in
        let size = length-take-le border text (omega (arith, w)) in
        (take-take at border text (omega (arith, l, size)), omega (arith, l, size, w))

-- a place between characters of the grammar part is one of the text
pub part_border : (text : List ℕ) (at : ℕ) → IsCharBoundary (grammar_part text) at → IsCharBoundary text at
part_border text at = by (border_of text) refl
  where
    by : (o : Option ℕ) → border_of text ≡ o → IsCharBoundary (before text o) at → IsCharBoundary text at
    by None e b = b
    by (Some border) e b =
        let s = border_stands text border e in
        let w = s.within in
        let size = length-take-le border text (omega (arith, w)) in
        ⊎_elim
        (λ l.
        let same : get_or (take border text) at 0 ≡ get_or text at 0 = get_or-take border text at 0 l in
        (omega (arith, l, w), λ m high. subst (λ c. 192 ≤ c) same (b.1 (omega (arith, l, size)) (subst (λ c. 128 ≤ c) (sym same) high))))
        (λ l. let same : border ≡ at = omega (arith, l, b.0, size) in subst (IsCharBoundary text) same s.border)
        (cases_lt at border)

pub part_short : (text : List ℕ) → length (grammar_part text) ≤ length text
part_short text = (part_front text (length (grammar_part text)) (omega arith)).1

-- the same of the bytes that a reader looks at
pub border_looked_at : (text bytes : List ℕ) (at n : ℕ) → bytes ≡ text → at ≤ length text → n ≡ prefix_len (λ b. not (b == line_feed)) (drop at text) → n ≤ length (drop at text)
    → (b : Bool) → b ≡ bytes_eq (take (at + n - at) (drop at bytes)) border_line → first_border (lines_from text at) ≡ cond b (Some at) (first_border (lines_from text (at + n + 1)))
border_looked_at text bytes at n same within is bound b e =
    let k : n ≡ at + n - at = omega arith in
    border_here text at n within is bound b ((λ i. bytes_eq (take (k i) (drop at (sym same i))) border_line) ∙ sym e)
