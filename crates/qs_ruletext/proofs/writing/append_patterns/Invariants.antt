use Rattle.std.proofs.Common.{◌≡◌, ◌++◌, length, take, drop}
use Rattle.std.specs.List.{flat_map}
use Rattle.qs_pattern.specs.Patterns.{patterns}
use Rattle.qs_pattern.specs.Named.{ArePatternsNamed}
use Rattle.qs_ruletext.specs.Texts.{pattern_texts}
use Rattle.qs_ruletext.proofs.writing.append_patterns.Given as goal

abbrev pub invariant-loop-pattern : goal.invariant-loop-pattern
invariant-loop-pattern l =
    record {
      written :
          l.out.items ++ flat_map (λ t. l.between ++ t) (pattern_texts l.names (patterns (drop l.pattern-index l.rest)))
          ≡ l.initial.out.items ++ flat_map (λ t. l.between ++ t) (pattern_texts l.names (patterns l.rest));
      kept : take (length l.fn.out.items) l.out.items ≡ l.fn.out.items;
      named : ArePatternsNamed (length l.names) (patterns (drop l.pattern-index l.rest));
    }
