-- One pattern as a list of patterns.
use Rattle.qs_pattern.specs.declared.pattern.Pattern.{Pattern}
use Rattle.qs_pattern.specs.Patterns.{Patterns, no_pattern, pattern_before}

abbrev pub one_pattern : Pattern → Patterns
one_pattern p = pattern_before p no_pattern
