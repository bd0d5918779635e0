-- A graph that is whole from a place on excludes that no graph can go on from there.
use Rattle.std.proofs.Common.{◌≡◌, ℕ, refl, sym, List, drop}
use Rattle.qs_lex.specs.declared.token.Token.{Token}
use Rattle.qs_lex.specs.Grammar.{part, IsWhole}
use Rattle.qs_lex.proofs.OneEnd.{IsStuck, stuck_not_whole}
use Rattle.qs_reader.specs.declared.text_end.TextEnd.{TextEnd}
use Rattle.qs_reader.specs.declared.text_end.TextEnd.TheVariants.{Syntax, Memory}
use Rattle.qs_reader.specs.Readers.{between}
use Rattle.qs_reader.proofs.Between.{next_at, between_drop}
use Rattle.qs_graphtext.specs.Grammar.{graph, line}
use Rattle.qs_graphtext.specs.working.Readers.{table}
use Rattle.qs_graphtext.specs.Refusals.{CannotGoOn, EndsFrom}
use Rattle.qs_graphtext.proofs.Tables.{more, all_ok}

stuck : (tokens : List Token) (from at : ℕ) → CannotGoOn tokens from at → IsStuck line (part graph) (drop from tokens)
stuck tokens from at c =
    record {
      passed = between tokens from at;
      rest = drop at tokens;
      are = sym (between_drop tokens from at c.forward);
      begins = c.begins;
      not_whole = c.not_whole;
      no_further = λ t us e b. c.no_further t (next_at tokens us at t e) b;
    }

pub not_both_ends : (tokens rest : List Token) (from at : ℕ) → IsWhole line (part graph) (drop from tokens) rest → CannotGoOn tokens from at → ⊥
not_both_ends tokens rest from at whole c = stuck_not_whole table more all_ok (part graph) tt (λ k. refl) (stuck tokens from at c) whole

pub only_memory : (tokens : List Token) (from : ℕ) (end : TextEnd) → EndsFrom tokens from end → ((at : ℕ) → CannotGoOn tokens from at → ⊥) → end ≡ Memory
only_memory tokens from (Syntax at) e none = absurd (none at e)
only_memory tokens from Memory e none = refl
