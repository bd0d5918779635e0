use Rattle.std.proofs.Common.{◌≡◌, ◌+◌, ◌≤◌, take, sym, ap, ◌∙◌, ⊎_elim, below_more, arith}
use Rattle.std.proofs.lemmas.Bool.{cases_lt}
use Rattle.qs_lex.specs.Limits.{most_open}
use Rattle.qs_lex.specs.Nesting.{open_behind, open_count, IsTooDeep}
use Rattle.qs_lex.proofs.OpenParentheses.{open_behind_other, open_count_more, too_deep_at, shallow, past_end}
use Rattle.qs_lex.proofs.nesting.too_deep.Goals as goal
use Rattle.qs_lex.proofs.nesting.too_deep.Goals.{Joined-token, in-Opening+else-open-gt-MOST_OPEN, in-Closing, in_default}

pub returns-then-open-gt-MOST_OPEN-clause-some : goal.returns-then-open-gt-MOST_OPEN-clause-some
returns-then-open-gt-MOST_OPEN-clause-some c =
    too_deep_at c.args.tokens.now c.loop-i.i c.loop-i.open _ (omega arith) c.loop-i.invariant.counted c.in-Opening.is (omega arith)

-- what is open behind this token
counted : (c : Joined-token) → open_count (take (c.loop-i.i + 1) c.args.tokens.now) ≡ c.match-token.open
counted c =
    elim c.match-token.branch [
      | in-Opening+else-open-gt-MOST_OPEN w ↦ open_count_more c.args.tokens.now c.loop-i.i c.loop-i.open _ (omega arith) c.loop-i.invariant.counted ∙ ap (open_behind c.loop-i.open) w.in-Opening.is ∙ sym w.open-is
      | in-Closing w ↦ open_count_more c.args.tokens.now c.loop-i.i c.loop-i.open _ (omega arith) c.loop-i.invariant.counted ∙ ap (open_behind c.loop-i.open) w.in-Closing.is ∙ sym w.saturating_sub-open.ensures ∙ sym w.open-is
      | in_default w ↦ open_count_more c.args.tokens.now c.loop-i.i c.loop-i.open _ (omega arith) c.loop-i.invariant.counted ∙ open_behind_other c.loop-i.open _ w.in_default.not-Opening w.in_default.not-Closing ∙ sym w.open-is
    ]

few : (c : Joined-token) → c.match-token.open ≤ most_open
few c =
    elim c.match-token.branch [ in-Opening+else-open-gt-MOST_OPEN w ↦ omega arith | in-Closing w ↦ omega arith | in_default w ↦ omega arith ]

pub loop-i-preserved : goal.loop-i-preserved
loop-i-preserved c = record {
  few = few c;
  counted = sym (counted c);
  none_yet = below_more (λ k. IsTooDeep c.args.tokens.now k → ⊥) _ c.loop-i.invariant.none_yet (shallow c.args.tokens.now c.loop-i.i c.match-token.open (counted c) (few c));
}

pub returns-clause-none : goal.returns-clause-none
returns-clause-none c place deep =
    ⊎_elim (λ below. c.loop-i.invariant.none_yet place below deep) (λ past. past_end c.args.tokens.now place (omega arith) deep) (cases_lt place c.loop-i.i)
