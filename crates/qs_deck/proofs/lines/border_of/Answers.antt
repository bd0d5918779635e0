use Rattle.std.proofs.Common.{◌∙◌, ◌+◌, ◌≤◌, ◌≡◌, refl, sym, ap, subst, arith, length, cond, not, Some}
use Rattle.std.specs.List.{prefix_len}
use Rattle.std.specs.Prelude.{◌==◌}
use Rattle.qs_lex.specs.Characters.{line_feed}
use Rattle.qs_deck.specs.PhraseTexts.{lines_from, first_border}
use Rattle.qs_deck.proofs.Cutting.{seen, segment_within}
use Rattle.qs_deck.proofs.BorderLines.{border_looked_at, no_border_behind}
use Rattle.qs_deck.proofs.lines.border_of.Goals as goal

pub loop-at-init : goal.loop-at-init
loop-at-init c = (refl, omega arith)

pub returns-then-eq : goal.returns-then-eq
returns-then-eq c =
    let text = c.args.text.now in
    let at = c.loop-at.at in
    let n = c.line_len.result in
    let v = c.as_bytes-bytes.ensures.value in
    let within = subst (λ bs. at ≤ length bs) v c.loop-at-test.true in
    let is = seen (λ bs. n ≡ prefix_len (λ b. not (b == line_feed)) bs) text c.as_bytes-bytes.result.now at v c.line_len.ensures.value in
    let bound = seen (λ bs. n ≤ length bs) text c.as_bytes-bytes.result.now at v c.line_len.ensures.bound in
    sym (c.loop-at.invariant.0 ∙ border_looked_at text c.as_bytes-bytes.result.now at n v within is bound c.eq.result c.eq.ensures
    ∙ ap (λ b. cond b (Some at) (first_border (lines_from text (at + n + 1)))) c.if-eq.true)

pub loop-at-preserved : goal.loop-at-preserved
loop-at-preserved c =
    let text = c.args.text.now in
    let at = c.loop-at.at in
    let n = c.line_len.result in
    let v = c.as_bytes-bytes.ensures.value in
    let within = subst (λ bs. at ≤ length bs) v c.loop-at-test.true in
    let is = seen (λ bs. n ≡ prefix_len (λ b. not (b == line_feed)) bs) text c.as_bytes-bytes.result.now at v c.line_len.ensures.value in
    let bound = seen (λ bs. n ≤ length bs) text c.as_bytes-bytes.result.now at v c.line_len.ensures.bound in (
      c.loop-at.invariant.0 ∙ border_looked_at text c.as_bytes-bytes.result.now at n v within is bound c.eq.result c.eq.ensures
          ∙ ap (λ b. cond b (Some at) (first_border (lines_from text (at + n + 1)))) c.if-eq.false,
      omega (arith, segment_within text at n within bound),
    )

pub returns : goal.returns
returns c =
    sym (c.loop-at.invariant.0 ∙ no_border_behind c.args.text.now c.loop-at.at (omega (arith, c.loop-at-test.false, ap length c.as_bytes-bytes.ensures.value)))
