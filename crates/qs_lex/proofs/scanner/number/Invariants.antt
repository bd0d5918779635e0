use Rattle.std.proofs.Common.{◌≡◌, ◌≤◌, drop}
use Rattle.qs_lex.specs.working.Scan.{number_after}
use Rattle.qs_lex.proofs.scanner.number.Given as goal

abbrev pub invariant-loop-byte : goal.invariant-loop-byte
invariant-loop-byte l = record {
  small : l.n ≤ l.most;
  value : number_after l.most l.n (drop l.byte-index l.bytes) ≡ number_after l.most 0 l.bytes;
}
