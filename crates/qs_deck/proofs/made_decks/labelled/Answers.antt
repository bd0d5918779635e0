use Rattle.qs_pattern.specs.declared.pattern.Head.TheVariants as head
use Rattle.qs_pattern.proofs.PatternLemmas.{pattern-Node}
use Rattle.qs_deck.proofs.made_decks.labelled.Goals as goal

pub returns : goal.returns
returns c = λ behind. pattern-Node (head.Label c.args.label) c.args.kids behind
