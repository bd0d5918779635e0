use Rattle.std.proofs.Common.{arith}
use Rattle.qs_lex.proofs.Readings.{token_placed}
use Rattle.qs_deck.proofs.version.is_two.Goals as goal

pub range-bytes-requires-clause-start_le_end : goal.range-bytes-requires-clause-start_le_end
range-bytes-requires-clause-start_le_end c = omega (arith, (token_placed c.utf8.text c.requires).some)

pub range-bytes-requires-clause-start_boundary : goal.range-bytes-requires-clause-start_boundary
range-bytes-requires-clause-start_boundary c = λ some. (token_placed c.utf8.text c.requires).from

pub range-bytes-requires-clause-end_boundary : goal.range-bytes-requires-clause-end_boundary
range-bytes-requires-clause-end_boundary c = (token_placed c.utf8.text c.requires).to
