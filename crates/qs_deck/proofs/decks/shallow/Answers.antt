use Rattle.std.proofs.Common.{sym, subst}
use Rattle.qs_lex.specs.declared.refusal.Cause.TheVariants.{TooDeep}
use Rattle.qs_deck.specs.Refusals.{IsFault, nesting}
use Rattle.qs_deck.specs.GrammarLists.{IsListFault}
use Rattle.qs_deck.specs.GrammarLists as lists
use Rattle.qs_deck.proofs.decks.shallow.Goals as goal

pub returns-in-Some-clause-end : goal.returns-in-Some-clause-end
returns-in-Some-clause-end c = (
  subst (λ place. IsFault c.args.text.now place TooDeep) (sym c.byte_of.ensures.value)
      (nesting c.args.tokens.now c.in-Some.index c.requires.utf8 c.requires.of_text (record { deep = c.in-Some.ensures.some; first = c.in-Some.ensures.first })),
  c.byte_of.ensures.border,
)

pub returns-in-Some-clause-end_of_list : goal.returns-in-Some-clause-end_of_list
returns-in-Some-clause-end_of_list c = (
  subst (λ place. IsListFault c.args.text.now place TooDeep) (sym c.byte_of.ensures.value)
      (lists.nesting c.args.tokens.now c.in-Some.index c.requires.of_text (record { deep = c.in-Some.ensures.some; first = c.in-Some.ensures.first })),
  c.byte_of.ensures.border,
)
