use Rattle.std.proofs.Common.{◌≡◌, ◌+◌, ◌-◌, ◌≤◌, ◌∙◌, ◌++◌, ◌∷◌, [], Vec, Global, sym, ap, subst, arith, length, take, not, List, ℕ}
use Rattle.std.specs.List.{prefix_len}
use Rattle.std.specs.Prelude.{◌==◌}
use Rattle.qs_lex.specs.Characters.{line_feed}
use Rattle.qs_reader.proofs.Steps.{hands_on}
use Rattle.qs_deck.specs.PhraseTexts.{lines_behind}
use Rattle.qs_deck.specs.working.Phrases.{ReadsWords, ReadsLinesTo, IsEndOfWords, IsEndOfLines}
use Rattle.qs_deck.proofs.Cutting.{end_border, segment_within, seen}
use Rattle.qs_deck.proofs.LinesRead.{feed_ascii, no_line_yet, no_words_on, words_on_line, too_many_on, ends_right, all_lines}
use Rattle.qs_deck.proofs.BorderLines.{border_stands}
use Rattle.qs_deck.proofs.lines.read_lines.Goals as goal
use Rattle.qs_deck.proofs.lines.read_lines.Goals.{then-len-before+in_ok-push_end, else-len-before}

pub overflow_add-at : goal.overflow_add-at
overflow_add-at c = let w = (border_stands c.args.text.now c.args.border c.requires.border).within in omega (arith, w, c.requires.short)

pub overflow_add-at-2 : goal.overflow_add-at-2
overflow_add-at-2 c = let w = (border_stands c.args.text.now c.args.border c.requires.border).within in omega (arith, w, c.requires.short)

pub loop-at-init : goal.loop-at-init
loop-at-init c =
    let s = border_stands c.args.text.now c.args.border c.requires.border in
    let w = s.within in
    let behind : c.args.border + 10 ≡ c.args.border + 9 + 1 = omega arith in
    subst (λ at. ReadsLinesTo c.args.text.now (c.args.border + 10) at c.args.names.now c.args.names.now c.new-words.result.items c.new-ends.result.items) behind
    (no_line_yet c.args.text.now (c.args.border + 10) c.args.names.now c.new-words.result.items c.new-ends.result.items c.new-words.ensures.items c.new-ends.ensures.items (omega (arith, c.requires.room)) (omega (arith, w)) (s.behind c.requires.utf8))

pub range-requires-clause-end_boundary : goal.range-requires-clause-end_boundary
range-requires-clause-end_boundary c =
    let v = c.as_bytes-bytes.ensures.value in
    let within = subst (λ bs. c.loop-at.at ≤ length bs) v c.loop-at-test.true in
    let bound = seen (λ bs. c.line_len.result ≤ length bs) c.args.text.now c.as_bytes-bytes.result.now c.loop-at.at v c.line_len.ensures.bound in
    end_border (λ b. b == line_feed) feed_ascii c.args.text.now c.loop-at.at c.line_len.result (segment_within c.args.text.now c.loop-at.at c.line_len.result within bound)
    (seen (λ bs. c.line_len.result ≡ prefix_len (λ b. not (b == line_feed)) bs) c.args.text.now c.as_bytes-bytes.result.now c.loop-at.at v c.line_len.ensures.value)

pub returns-in_err-read_words-clause-end : goal.returns-in_err-read_words-clause-end
returns-in_err-read_words-clause-end c =
    let text = c.args.text.now in
    let at = c.loop-at.at in
    let n = c.line_len.result in
    let v = c.as_bytes-bytes.ensures.value in
    let whole : at + n - 0 ≡ at + n = omega arith in
    hands_on c.from_residual.result (IsEndOfLines text (lines_behind text c.args.border)) c.from_residual.ensures.1
    (too_many_on text (c.args.border + 10) at n c.args.names.now c.loop-at.names c.loop-at.words.items c.loop-at.ends.items c.requires.utf8 c.loop-at.invariant
    (subst (λ bs. at ≤ length bs) v c.loop-at-test.true)
    (seen (λ bs. n ≡ prefix_len (λ b. not (b == line_feed)) bs) c.args.text.now c.as_bytes-bytes.result.now c.loop-at.at v c.line_len.ensures.value)
    (seen (λ bs. n ≤ length bs) c.args.text.now c.as_bytes-bytes.result.now c.loop-at.at v c.line_len.ensures.bound)
    c.in_err-read_words.field-0.0 (subst (λ bs. IsEndOfWords bs at c.in_err-read_words.field-0.0) (c.range.ensures.value ∙ ap (λ k. take k text) whole) c.in_err-read_words.ensures.end))

pub loop-at-preserved : goal.loop-at-preserved
loop-at-preserved c =
    let text = c.args.text.now in
    let at = c.loop-at.at in
    let n = c.line_len.result in
    let v = c.as_bytes-bytes.ensures.value in
    let within = subst (λ bs. at ≤ length bs) v c.loop-at-test.true in
    let is = seen (λ bs. n ≡ prefix_len (λ b. not (b == line_feed)) bs) c.args.text.now c.as_bytes-bytes.result.now c.loop-at.at v c.line_len.ensures.value in
    let bound = seen (λ bs. n ≤ length bs) c.args.text.now c.as_bytes-bytes.result.now c.loop-at.at v c.line_len.ensures.bound in
    let whole : at + n - 0 ≡ at + n = omega arith in
    let reads = subst (λ bs. ReadsWords bs at c.loop-at.names c.read_words.new.names c.loop-at.words.items c.read_words.new.words.items) (c.range.ensures.value ∙ ap (λ k. take k text) whole) c.in_ok-read_words.ensures.ok in
    let P : List ℕ → Type 0 = λ ends. ReadsLinesTo text (c.args.border + 10) (at + n + 1) c.args.names.now c.read_words.new.names c.read_words.new.words.items ends in
    elim c.if-len-before.branch [
      | then-len-before+in_ok-push_end w ↦
          words_on_line text (c.args.border + 10) at n c.args.names.now c.loop-at.names c.loop-at.words.items c.loop-at.ends.items c.requires.utf8 c.loop-at.invariant within is bound c.read_words.new.names c.read_words.new.words.items reads
          c.if-len-before.ends.items
          (omega (arith, w.if-len-before.true, c.len.ensures, c.len-before.ensures, c.loop-at.words.ok.0, c.read_words.new.words.ok.0))
          (ap (λ (ends : Vec ℕ Global). ends.items) w.ends-is ∙ w.in_ok-push_end.ensures ∙ ap (λ k. c.loop-at.ends.items ++ k ∷ []) (omega (arith, w.len-then-len-before.ensures, c.read_words.new.words.ok.0)))
      | else-len-before w ↦ (
          let next =
          no_words_on text (c.args.border + 10) at n c.args.names.now c.loop-at.names c.loop-at.words.items c.loop-at.ends.items c.requires.utf8 c.loop-at.invariant within is bound c.read_words.new.names c.read_words.new.words.items reads
          (omega (arith, w.if-len-before.false, c.len.ensures, c.len-before.ensures, c.loop-at.words.ok.0, c.read_words.new.words.ok.0))
          in
          subst (λ (ends : Vec ℕ Global). P ends.items) (sym w.ends-is) next
          )
    ]

pub new-requires : goal.new-requires
new-requires c = ends_right c.args.text.now (c.args.border + 10) c.loop-at.at c.args.names.now c.loop-at.names c.loop-at.words.items c.loop-at.ends.items c.loop-at.invariant

pub returns-clause-ok : goal.returns-clause-ok
returns-clause-ok c =
    all_lines c.args.text.now (c.args.border + 10) c.loop-at.at c.args.names.now c.loop-at.names c.loop-at.words.items c.loop-at.ends.items
    (omega (arith, c.loop-at-test.false, ap length c.as_bytes-bytes.ensures.value)) c.loop-at.invariant c.new.result c.new.ensures
