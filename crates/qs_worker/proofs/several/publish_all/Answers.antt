use Rattle.std.proofs.Common.{◌≡◌, ℕ, List, length, ap, subst, arith}
use Rattle.qs_firing.specs.Work.{WithTrees}
use Rattle.qs_core.specs.Core.{IsFree}
use Rattle.qs_turn.specs.Passes.{number_of, seen_of}
use Rattle.qs_board.specs.History.{HoldsBehind}
use Rattle.qs_board.specs.Seats.{board_base, KnowsPut}
use Rattle.qs_board.proofs.Staying.{free_behind}
use Rattle.qs_worker.proofs.Working.{fits}
use Rattle.qs_worker.proofs.several.publish_all.Goals as goal

pub overflow_add-k : goal.overflow_add-k
overflow_add-k g c =
    let knows = subst (KnowsPut c.args.board.now c.publish.new.pass c.args.work.now c.loop-k.k) c.in-Ok-Published.field-0-is c.in-Ok-Published.ensures.knows in
    omega (
      arith,
      fits (board_base c.args.board.now) (number_of c.publish.new.pass) (number_of c.loop-k.pass) (seen_of c.loop-k.pass) (seen_of c.publish.new.pass) c.args.work.now c.loop-k.k c.in-Ok-Published.field-0 c.requires.limit
          c.in-Ok-Published.ensures.publishes knows.0 knows.1,
    )

pub returns-clause-free : goal.returns-clause-free
returns-clause-free g c =
    let all : c.loop-k.k ≡ length c.args.work.now.made = omega (arith, c.loop-k-test.false, c.loop-k.invariant.within, ap (λ (xs : List WithTrees). length xs) c.made.ensures) in
    subst (λ (n : ℕ). HoldsBehind (board_base c.args.board.now) (seen_of c.loop-k.pass) (λ S. IsFree (board_base c.args.board.now) S n)) c.loop-k.invariant.same
    (free_behind (board_base c.args.board.now) (seen_of c.loop-k.pass) (number_of c.loop-k.pass) c.loop-k.k c.args.work.now c.loop-k.invariant.claim c.loop-k.invariant.right all)
