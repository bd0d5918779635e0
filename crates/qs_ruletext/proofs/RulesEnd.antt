-- Rules that are whole up to a place at which none begins exclude a rule that was begun and can't go on.
use Rattle.std.proofs.Common.{◌≡◌, ℕ, refl, sym, List, drop, arith}
use Rattle.qs_lex.specs.declared.token.Token.{Token}
use Rattle.qs_lex.specs.Grammar.{part, repeated, IsWhole}
use Rattle.qs_lex.proofs.OneEnd.{IsStuck, not_stuck}
use Rattle.qs_reader.specs.declared.text_end.TextEnd.{TextEnd}
use Rattle.qs_reader.specs.declared.text_end.TextEnd.TheVariants.{Syntax, Memory}
use Rattle.qs_ruletext.specs.Grammar.{rule, line}
use Rattle.qs_reader.specs.Readers.{between}
use Rattle.qs_ruletext.specs.Rules.{CannotGoOn, NoRuleAt, EndsFrom}
use Rattle.qs_ruletext.specs.working.Readers.{table}
use Rattle.qs_ruletext.proofs.Tables.{more, all_ok}
use Rattle.qs_reader.proofs.Between.{next_at, between_drop, some_between}
use Rattle.qs_ruletext.proofs.OneRules.{no_rule_from}

abbrev stuck : (tokens : List Token) (from at : ℕ) (c : CannotGoOn tokens from at) → IsStuck line (part rule) (drop c.begun tokens)
stuck tokens from at c =
    record {
      passed = between tokens c.begun at;
      rest = drop at tokens;
      are = sym (between_drop tokens c.begun at (omega (arith, c.some)));
      begins = c.begins;
      not_whole = c.not_whole;
      no_further = λ t us e b. c.no_further t (next_at tokens us at t e) b;
    }

pub not_both_ends : (tokens : List Token) (from to at : ℕ) → IsWhole line (repeated (part rule)) (drop from tokens) (drop to tokens) → NoRuleAt tokens to → CannotGoOn tokens from at → ⊥
not_both_ends tokens from to at whole none c =
    not_stuck table more all_ok (part rule) tt (λ k. refl) refl whole ((no_rule_from tokens to).0 none) c.whole (stuck tokens from at c)
    (some_between tokens c.begun at c.some c.within)

pub only_memory : (tokens : List Token) (from : ℕ) (end : TextEnd) → EndsFrom tokens from end → ((at : ℕ) → CannotGoOn tokens from at → ⊥) → end ≡ Memory
only_memory tokens from (Syntax at) e none = absurd (none at e)
only_memory tokens from Memory e none = refl
