-- How the logic tells rules that were read apart. Nothing that a reader has to believe stands here.
use Rattle.std.specs.Prelude.{ℕ, List, refl}
use Rattle.std.specs.Coded.{Coded, code_by, coded×, coded_list, coded_ℕ}
use Rattle.qs_pattern.specs.Rules.{UnmarkedRule}
use Rattle.qs_pattern.specs.working.Codes.{unmarked_code}
use Rattle.qs_ruletext.specs.WrittenRules.{WrittenRule}

abbrev pub written_rule_code : Coded WrittenRule
written_rule_code = code_by (UnmarkedRule × List ℕ) (coded× unmarked_code (coded_list coded_ℕ)) (λ w. (w.rule, w.at))
    (λ p. record { rule = p.0; at = p.1 }) (λ _. refl)
