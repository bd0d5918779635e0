-- How one pattern is written.
use Rattle.std.specs.Prelude.{ℕ, List, [], slice_get, unwrap_or, codes}
use Rattle.qs_pattern.specs.declared.pattern.Pattern.{Pattern}
use Rattle.qs_pattern.specs.working.Patterns.{one_pattern}
use Rattle.qs_pattern.specs.Conditions.{Condition, compared, negated, combined}
use Rattle.qs_ruletext.specs.Reading.{comparing_word}
use Rattle.qs_ruletext.specs.Texts.{pattern_texts, spaced_word, joining_word}

-- How one pattern is written.
abbrev pub pattern_text : List (List ℕ) → Pattern → List ℕ
pattern_text names p = unwrap_or (slice_get (pattern_texts names (one_pattern p)) 0) []

-- The word of a condition, as it stands between its lists or its members, or before its one member.
abbrev pub word_of : Condition → List ℕ
word_of (compared word a b) = spaced_word (comparing_word word)
word_of (negated c) = codes "-NON- "
word_of (combined word cs) = spaced_word (joining_word word)
