use Rattle.qs_reader.proofs.Steps.{hands_on}
use Rattle.qs_deck.specs.working.Readers.{Ends, some_rules}
use Rattle.qs_deck.proofs.Steps.{shallow_on, read_rules, rules_end}
use Rattle.qs_deck.proofs.reading.rules.Goals as goal

pub read_rules-requires-clause-shallow : goal.read_rules-requires-clause-shallow
read_rules-requires-clause-shallow c = shallow_on c.tokens.ensures.tokens c.requires.shallow

pub returns-in_err-rules-clause-ends : goal.returns-in_err-rules-clause-ends
returns-in_err-rules-clause-ends c =
    hands_on c.from_residual.result (Ends some_rules c.args.reader.now) c.from_residual.ensures.1 (rules_end c.text.ensures c.tokens.ensures.tokens c.place.ensures.place c.in_err-rules.ensures.ends)

pub returns-clause-read : goal.returns-clause-read
returns-clause-read c =
    read_rules c.text.ensures c.tokens.ensures.tokens c.place.ensures.place c.in_ok-rules.rules.items c.go_to.ensures
    c.in_ok-rules.ensures.place c.in_ok-rules.ensures.read c.in_ok-rules.ensures.whole c.in_ok-rules.ensures.behind c.in_ok-rules.ensures.names c.read_rules.ensures.keeps c.in_ok-rules.ensures.few
