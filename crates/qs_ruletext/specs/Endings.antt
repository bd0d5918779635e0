-- Where tokens can't go on with a rule.
use Rattle.std.specs.Prelude.{◌≡◌, List, [], ◌∷◌}
use Rattle.qs_lex.specs.declared.token.Token.{Token}
use Rattle.qs_lex.specs.Grammar.{part, Begins}
use Rattle.qs_ruletext.specs.Grammar.{rule, line}

-- these tokens don't go on with a rule: there is none, or the first of them begins no rule
abbrev pub NoRuleIn : List Token → Type 0
NoRuleIn tokens = (t : Token) (ts : List Token) → tokens ≡ t ∷ ts → Begins line (part rule) (t ∷ []) → ⊥
