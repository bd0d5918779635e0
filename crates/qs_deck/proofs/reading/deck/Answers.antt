use Rattle.qs_lex.specs.declared.token.Word.TheVariants.{Graphe}
use Rattle.qs_lex.specs.Grammar.{the_word, part}
use Rattle.qs_reader.proofs.Steps.{hands_on, part_ends, first_ends}
use Rattle.qs_deck.specs.Grammar.{deck}
use Rattle.qs_deck.specs.working.Readers.{Ends}
use Rattle.qs_deck.proofs.Steps.{shallow_on, ends_at_graph, ends_in_graph, read_deck}
use Rattle.qs_deck.proofs.reading.deck.Goals as goal

pub graph-requires-clause-shallow : goal.graph-requires-clause-shallow
graph-requires-clause-shallow c = shallow_on c.in_ok-systems.ensures.read.goes_on.tokens c.requires.shallow

pub returns-in_err-systems-clause-ends : goal.returns-in_err-systems-clause-ends
returns-in_err-systems-clause-ends c = hands_on c.from_residual.result (Ends (part deck) c.args.reader.now) c.from_residual.ensures.1 (part_ends (first_ends c.in_err-systems.ensures.ends))

pub returns-in_err-word-clause-ends : goal.returns-in_err-word-clause-ends
returns-in_err-word-clause-ends c =
    hands_on c.from_residual-in_err-word.result (Ends (part deck) c.args.reader.now) c.from_residual-in_err-word.ensures.1
    (ends_at_graph c.in_ok-systems.ensures.read (c.in_err-word.ensures.ends (the_word Graphe)))

pub returns-in_err-chains-clause-ends : goal.returns-in_err-chains-clause-ends
returns-in_err-chains-clause-ends c =
    hands_on c.from_residual-in_err-chains.result (Ends (part deck) c.args.reader.now) c.from_residual-in_err-chains.ensures.1
    (ends_in_graph c.in_ok-systems.ensures.read c.in_err-chains.ensures.ends)

pub returns-clause-read : goal.returns-clause-read
returns-clause-read c = read_deck c.in_ok-systems.ensures.read c.in_ok-word.ensures.next c.in_ok-chains.ensures.read
