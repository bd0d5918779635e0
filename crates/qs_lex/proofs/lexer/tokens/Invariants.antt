use Rattle.std.proofs.Common.{◌-◌, length}
use Rattle.qs_lex.proofs.Lexed.{IsReadTo}
use Rattle.qs_lex.proofs.lexer.tokens.Given as goal

abbrev pub invariant-loop-at : goal.invariant-loop-at
invariant-loop-at l = IsReadTo l.text l.tokens.items l.at

abbrev pub decreases-loop-at : goal.decreases-loop-at
decreases-loop-at l = length l.initial.text - l.at
