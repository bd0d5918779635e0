use Rattle.std.proofs.Common.{◌≡◌, ◌++◌, length, take, drop}
use Rattle.qs_pattern.specs.Patterns.{patterns}
use Rattle.qs_pattern.specs.Named.{ArePatternsNamed}
use Rattle.qs_ruletext.specs.Texts.{pattern_texts}
use Rattle.qs_ruletext.proofs.PatternTexts.{opened}
use Rattle.qs_ruletext.proofs.writing.+append_pattern.Given as goal

abbrev pub invariant-loop-kid : goal.invariant-loop-kid
invariant-loop-kid l =
    record {
      written :
          l.out.items ++ opened l.before (pattern_texts l.names (patterns (drop l.kid-index l.kid-items)))
          ≡ l.initial.out.items ++ opened 40 (pattern_texts l.names (patterns l.kid-items));
      kept : take (length l.fn.out.items) l.out.items ≡ l.fn.out.items;
      named : ArePatternsNamed (length l.names) (patterns (drop l.kid-index l.kid-items));
    }
