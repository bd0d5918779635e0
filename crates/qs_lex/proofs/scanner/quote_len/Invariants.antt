use Rattle.std.proofs.Common.{◌≡◌, drop}
use Rattle.qs_lex.specs.working.Scan.{quote_len}
use Rattle.qs_lex.proofs.Quotes.{further, quote_from}
use Rattle.qs_lex.proofs.scanner.quote_len.Given as goal

abbrev pub invariant-loop-i : goal.invariant-loop-i
invariant-loop-i l = quote_len l.bytes ≡ further l.i (quote_from l.behind_quote (drop l.i l.bytes))
