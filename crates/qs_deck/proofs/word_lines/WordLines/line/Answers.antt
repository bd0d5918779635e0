use Rattle.std.proofs.Common.{◌≡◌, ◌-◌, ◌<◌, ◌∙◌, ℕ, sym, ap, subst, arith, length, take, drop, get_or, Some, List}
use Rattle.std.specs.Prelude.{slice_get}
use Rattle.std.proofs.lemmas.List.{get_or_read}
use Rattle.qs_tree.specs.declared.cell.Label.{Label}
use Rattle.qs_deck.specs.LinesOfWords.{parted, AreEnds}
use Rattle.qs_deck.proofs.PartedWords.{as_many_lines, start_at, start_first, start_later, IsParted, parted_at, line_at, part_long}
use Rattle.qs_deck.proofs.word_lines.WordLines.line.Goals as goal
use Rattle.qs_deck.proofs.word_lines.WordLines.line.Goals.{then-index-eq0, else-index-eq0}

-- there is an end for each line
has_end : (words : List Label) (ends : List ℕ) (lines : List (List Label)) (index : ℕ) → parted 0 words ends ≡ lines → index < length lines → index < length ends
has_end words ends lines index e l = omega (arith, l, as_many_lines 0 words ends, ap length e)

pub index-requires : goal.index-requires
index-requires c =
    let l = has_end c.self.inside.words.items c.self.inside.ends.items c.args.self.now c.args.index c.self.view_is c.requires in
    omega (arith, l, c.self.inside.ends.ok.0)

pub index-requires-else-index-eq0 : goal.index-requires-else-index-eq0
index-requires-else-index-eq0 c =
    let l = has_end c.self.inside.words.items c.self.inside.ends.items c.args.self.now c.args.index c.self.view_is c.requires in
    omega (arith, l, c.self.inside.ends.ok.0)

facts : (words : List Label) (ends : List ℕ) (lines : List (List Label)) (index start end : ℕ) → parted 0 words ends ≡ lines → index < length lines → AreEnds 0 ends (length words)
    → start ≡ start_at 0 ends index → end ≡ get_or ends index end → IsParted 0 (length words) start end
facts words ends lines index start end e l fits s f =
    let there = has_end words ends lines index e l in
    let g : end ≡ get_or ends index 0 = get_or_read ends index end there f 0 in
    subst (λ x. IsParted 0 (length words) x end) (sym s) (subst (λ x. IsParted 0 (length words) (start_at 0 ends index) x) (sym g) (parted_at 0 ends (length words) index fits there))

the_line : (words : List Label) (ends : List ℕ) (lines : List (List Label)) (index start end : ℕ) → parted 0 words ends ≡ lines → index < length lines → AreEnds 0 ends (length words)
    → start ≡ start_at 0 ends index → end ≡ get_or ends index end → slice_get lines index ≡ Some (take (end - start) (drop start words))
the_line words ends lines index start end e l fits s f =
    let there = has_end words ends lines index e l in
    let g : get_or ends index 0 ≡ end = sym (get_or_read ends index end there f 0) in
    let k : start_at 0 ends index - 0 ≡ start = omega (arith, s) in
    ap (λ (ls : List (List Label)). slice_get ls index) (sym e) ∙ line_at 0 words ends (length words) index fits there ∙ (λ i. Some (take (g i - sym s i) (drop (k i) words)))

pub slice_bounds-result-start : goal.slice_bounds-result-start
slice_bounds-result-start c =
    let ends = c.self.inside.ends.items in
    let l = has_end c.self.inside.words.items ends c.args.self.now c.args.index c.self.view_is c.requires in
    let start : c.if-index-eq0.start ≡ start_at 0 ends c.args.index = elim c.if-index-eq0.branch [
      | then-index-eq0 w ↦ start_first ends c.args.index c.if-index-eq0.start w.if-index-eq0.true w.start-is
      | else-index-eq0 w ↦ start_later ends c.args.index c.if-index-eq0.start w.if-index-eq0.false l (w.start-is ∙ w.index-else-index-eq0.ensures ∙ ap (get_or ends (c.args.index - 1)) (sym w.start-is))
    ]
    in
    let f = facts c.self.inside.words.items ends c.args.self.now c.args.index c.if-index-eq0.start c.index.result.now c.self.view_is c.requires c.self.invariant start c.index.ensures in
    let some = f.some in
    omega (arith, some)

pub slice_bounds-result-end : goal.slice_bounds-result-end
slice_bounds-result-end c =
    let ends = c.self.inside.ends.items in
    let l = has_end c.self.inside.words.items ends c.args.self.now c.args.index c.self.view_is c.requires in
    let start : c.if-index-eq0.start ≡ start_at 0 ends c.args.index = elim c.if-index-eq0.branch [
      | then-index-eq0 w ↦ start_first ends c.args.index c.if-index-eq0.start w.if-index-eq0.true w.start-is
      | else-index-eq0 w ↦ start_later ends c.args.index c.if-index-eq0.start w.if-index-eq0.false l (w.start-is ∙ w.index-else-index-eq0.ensures ∙ ap (get_or ends (c.args.index - 1)) (sym w.start-is))
    ]
    in
    let f = facts c.self.inside.words.items ends c.args.self.now c.args.index c.if-index-eq0.start c.index.result.now c.self.view_is c.requires c.self.invariant start c.index.ensures in
    let within = f.within in
    omega (arith, within, ap (λ (ws : List Label). length ws) c.deref.ensures.value)

pub slice_bounds-result-count : goal.slice_bounds-result-count
slice_bounds-result-count c =
    let ends = c.self.inside.ends.items in
    let l = has_end c.self.inside.words.items ends c.args.self.now c.args.index c.self.view_is c.requires in
    let start : c.if-index-eq0.start ≡ start_at 0 ends c.args.index = elim c.if-index-eq0.branch [
      | then-index-eq0 w ↦ start_first ends c.args.index c.if-index-eq0.start w.if-index-eq0.true w.start-is
      | else-index-eq0 w ↦ start_later ends c.args.index c.if-index-eq0.start w.if-index-eq0.false l (w.start-is ∙ w.index-else-index-eq0.ensures ∙ ap (get_or ends (c.args.index - 1)) (sym w.start-is))
    ]
    in
    let f = facts c.self.inside.words.items ends c.args.self.now c.args.index c.if-index-eq0.start c.index.result.now c.self.view_is c.requires c.self.invariant start c.index.ensures in
    let some = f.some in
    omega (arith, some)

pub returns-clause-line : goal.returns-clause-line
returns-clause-line c =
    let ends = c.self.inside.ends.items in
    let l = has_end c.self.inside.words.items ends c.args.self.now c.args.index c.self.view_is c.requires in
    let start : c.if-index-eq0.start ≡ start_at 0 ends c.args.index = elim c.if-index-eq0.branch [
      | then-index-eq0 w ↦ start_first ends c.args.index c.if-index-eq0.start w.if-index-eq0.true w.start-is
      | else-index-eq0 w ↦ start_later ends c.args.index c.if-index-eq0.start w.if-index-eq0.false l (w.start-is ∙ w.index-else-index-eq0.ensures ∙ ap (get_or ends (c.args.index - 1)) (sym w.start-is))
    ]
    in
    the_line c.self.inside.words.items ends c.args.self.now c.args.index c.if-index-eq0.start c.index.result.now c.self.view_is c.requires c.self.invariant start c.index.ensures
    ∙ ap (λ (ws : List Label). Some (take (c.index.result.now - c.if-index-eq0.start) (drop c.if-index-eq0.start ws))) (sym c.deref.ensures.value)

pub returns-clause-some : goal.returns-clause-some
returns-clause-some c =
    let ends = c.self.inside.ends.items in
    let l = has_end c.self.inside.words.items ends c.args.self.now c.args.index c.self.view_is c.requires in
    let start : c.if-index-eq0.start ≡ start_at 0 ends c.args.index = elim c.if-index-eq0.branch [
      | then-index-eq0 w ↦ start_first ends c.args.index c.if-index-eq0.start w.if-index-eq0.true w.start-is
      | else-index-eq0 w ↦ start_later ends c.args.index c.if-index-eq0.start w.if-index-eq0.false l (w.start-is ∙ w.index-else-index-eq0.ensures ∙ ap (get_or ends (c.args.index - 1)) (sym w.start-is))
    ]
    in
    let f = facts c.self.inside.words.items ends c.args.self.now c.args.index c.if-index-eq0.start c.index.result.now c.self.view_is c.requires c.self.invariant start c.index.ensures in
    let some = f.some in
    let within = f.within in
    omega (arith, some, part_long c.deref.result.now c.if-index-eq0.start c.index.result.now (omega (arith, within, ap (λ (ws : List Label). length ws) c.deref.ensures.value)))

pub returns-clause-few : goal.returns-clause-few
returns-clause-few c =
    let ends = c.self.inside.ends.items in
    let l = has_end c.self.inside.words.items ends c.args.self.now c.args.index c.self.view_is c.requires in
    let start : c.if-index-eq0.start ≡ start_at 0 ends c.args.index = elim c.if-index-eq0.branch [
      | then-index-eq0 w ↦ start_first ends c.args.index c.if-index-eq0.start w.if-index-eq0.true w.start-is
      | else-index-eq0 w ↦ start_later ends c.args.index c.if-index-eq0.start w.if-index-eq0.false l (w.start-is ∙ w.index-else-index-eq0.ensures ∙ ap (get_or ends (c.args.index - 1)) (sym w.start-is))
    ]
    in
    let f = facts c.self.inside.words.items ends c.args.self.now c.args.index c.if-index-eq0.start c.index.result.now c.self.view_is c.requires c.self.invariant start c.index.ensures in
    let few = f.few in
    let within = f.within in
    omega (arith, few, part_long c.deref.result.now c.if-index-eq0.start c.index.result.now (omega (arith, within, ap (λ (ws : List Label). length ws) c.deref.ensures.value)))
