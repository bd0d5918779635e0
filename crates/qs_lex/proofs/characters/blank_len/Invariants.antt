use Rattle.std.proofs.Common.{◌≡◌, ◌+◌, drop}
use Rattle.qs_lex.specs.Tokens.{blank_len}
use Rattle.qs_lex.proofs.Blanks.{blank_from}
use Rattle.qs_lex.proofs.characters.blank_len.Given as goal

abbrev pub invariant-loop-i : goal.invariant-loop-i
invariant-loop-i l = blank_len l.bytes ≡ l.i + blank_from l.in_comment (drop l.i l.bytes)
