use Rattle.std.proofs.Common.{ℕ, sym, ◌∙◌, subst, List}
use Rattle.qs_lex.specs.declared.token.Token.{Token}
use Rattle.qs_lex.specs.Nesting.{IsTooDeep}
use Rattle.qs_text_tests.proofs.graph_tests.read.Goals as goal

pub read_chains-answer-requires-clause-shallow : goal.read_chains-answer-requires-clause-shallow
read_chains-answer-requires-clause-shallow g c =
    subst (λ (ts : List Token). (index : ℕ) → IsTooDeep ts index → ⊥) (c.deref.ensures.value ∙ sym c.deref-2.ensures.value) c.in-None.ensures.none
