use Rattle.std.proofs.Common.{arith}
use Rattle.std.proofs.lemmas.Result.{IfOk-weaker}
use Rattle.qs_cascade.proofs.Leaves.{behind_end, behind_grows, behind_named, closure_few}
use Rattle.qs_cascade.proofs.stages.stage_by.Goals as goal

pub end_behind-requires-clause-few : goal.end_behind-requires-clause-few
end_behind-requires-clause-few g c =
    closure_few c.args.grammar.now c.args.start.now c.args.limit c.in_ok-closure.closure c.in_ok-closure.ensures.end (omega (arith, c.ranges.limit.fits))

pub returns : goal.returns
returns g c = IfOk-weaker c.end_behind.result _ _
    (λ e is. record {
      end = behind_end c.args.grammar.now c.args.start.now c.args.limit c.in_ok-closure.closure e is c.in_ok-closure.ensures.end;
      grows = behind_grows c.args.grammar.now c.args.start.now c.args.limit c.in_ok-closure.closure e is c.in_ok-closure.ensures.valid c.in_ok-closure.ensures.grows;
      labels = behind_named c.args.grammar.now c.args.start.now c.args.limit c.in_ok-closure.closure e is c.in_ok-closure.ensures.labels;
    })
    c.end_behind.ensures
