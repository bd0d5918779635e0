-- Threads may share a grammar, and the desk at which they work.
use denote.Param.Send.{IsSync, sendable}
use denote.Param.SendFields.{declared_sync}
use Rattle.std.proofs.Crossing.{crosses}
use Rattle.std.specs.contracts.sync.atomic.AtomicU64 as AtomicU64
use Rattle.qs_join.proofs.heads.Heads.TheSendSync as heads
use Rattle.qs_board.proofs.Crossing.{rule_send, rule_sync, board_sync}
use Rattle.qs_worker.specs.contracts.grammar.Grammar as Grammar
use Rattle.qs_worker.specs.contracts.several.Desk as Desk

fields_sync : IsSync Grammar.TheInside.the_row
fields_sync = declared_sync Grammar.TheInside.the_type (
  search (sendable, crosses, rule_send, rule_sync) depth 20,
  (heads.the_sync, tt),
)

pub grammar_sync : IsSync Grammar.the_row
grammar_sync = search (sendable, fields_sync) depth 20

flag_sync : IsSync AtomicU64.the_row
flag_sync = search (sendable, crosses) depth 20

pub desk_sync : IsSync Desk.the_row
desk_sync = declared_sync Desk.the_type (board_sync, (flag_sync, tt))
