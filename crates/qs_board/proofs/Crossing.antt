-- Threads may share a board: what lies behind its turns may go from thread to thread.
use denote.Param.Send.{IsSend, IsSync, sendable}
use denote.Param.SendFields.{declared_send, declared_sync}
use Rattle.std.proofs.Crossing.{crosses, Box-send}
use Rattle.qs_pattern.proofs.pattern.Pattern.TheLaws.TheKnot.{crosses as patterns, send-Pattern, sync-Pattern}
use Rattle.qs_pattern.proofs.condition.Cond.TheLaws.TheKnot.{crosses as conditions, send-Cond, sync-Cond}
use Rattle.qs_pattern.specs.contracts.pattern.Pattern as Pattern
use Rattle.qs_pattern.specs.contracts.condition.Cond as Cond
use Rattle.qs_pattern.specs.contracts.rule.Rule as Rule
use Rattle.qs_turn.proofs.turns.Turns.TheSendSync as turns
use Rattle.qs_core.proofs.arcs.Arcs.TheSendSync as arcs
use Rattle.qs_core.proofs.fired.Fired.TheSendSync as fired
use Rattle.qs_core.proofs.statuses.Statuses.TheSendSync as statuses
use Rattle.qs_core.proofs.step.Step.TheSendSync as step
use Rattle.qs_core.proofs.step.Stop.TheSendSync as stop
use Rattle.qs_core.specs.contracts.state.State as State
use Rattle.qs_board.specs.contracts.kept.Kept as Kept
use Rattle.qs_board.specs.contracts.board.Board as Board

pattern_send : IsSend Pattern.the_row
pattern_send = search (sendable, crosses, patterns, send-Pattern) depth 20

cond_send : IsSend Cond.the_row
cond_send = search (sendable, crosses, conditions, pattern_send, send-Cond) depth 20

pub rule_send : IsSend Rule.the_row
rule_send = search (sendable, crosses, pattern_send, cond_send) depth 20

pattern_sync : IsSync Pattern.the_row
pattern_sync = search (sendable, crosses, patterns, sync-Pattern) depth 20

cond_sync : IsSync Cond.the_row
cond_sync = search (sendable, crosses, conditions, pattern_sync, sync-Cond) depth 20

pub rule_sync : IsSync Rule.the_row
rule_sync = search (sendable, crosses, pattern_sync, cond_sync) depth 20

-- field by field, since a search through all of them breaks off
fields_send : IsSend State.TheInside.the_row
fields_send = declared_send State.TheInside.the_type (
  search (sendable, crosses) depth 20,
  (
    search (sendable, crosses, rule_send, rule_sync) depth 20,
    (
      search sendable,
      (
        search sendable,
        (
          search sendable,
          (
            search sendable,
            (
              search sendable,
              (
                search sendable,
                (
                  arcs.the_send,
                  (
                    statuses.the_send,
                    (
                      search (sendable, crosses, fired.the_send) depth 20,
                      (
                        search (sendable, crosses, step.the_send) depth 20,
                        (search (sendable, crosses, stop.the_send) depth 20, tt),
                      ),
                    ),
                  ),
                ),
              ),
            ),
          ),
        ),
      ),
    ),
  ),
)

pub state_send : IsSend State.the_row
state_send = search (sendable, fields_send) depth 20

kept_inside_send : IsSend Kept.TheInside.the_row
kept_inside_send = declared_send Kept.TheInside.the_type (Box-send State.the_row state_send, tt)

pub kept_send : IsSend Kept.the_row
kept_send = search (sendable, kept_inside_send) depth 20

pub board_sync : IsSync Board.the_row
board_sync = declared_sync Board.the_type (turns.the_sync Kept.the_row _ _ kept_send, tt)
