use Rattle.std.proofs.Common.{map}
use Rattle.qs_deck.specs.Decks.{grammar_of}
use Rattle.qs_deck.proofs.Meanings.{only_memory_of_list, never_ok}
use Rattle.qs_deck.proofs.grammar_lists.read_systems.Goals as goal

pub returns-clause-accepted : goal.returns-clause-accepted
returns-clause-accepted c = λ version names grammars of.
    only_memory_of_list c.args.bytes.now c.systems_of_bytes.result c.systems_of_bytes.ensures.end (λ refusal refused. c.one_list_of_grammars.ensures.not_both c.args.bytes.now version names grammars refusal of refused)

pub returns-clause-faulty : goal.returns-clause-faulty
returns-clause-faulty c = λ refusal refused.
    never_ok _ c.systems_of_bytes.result c.systems_of_bytes.ensures.systems
    (λ found of. c.one_list_of_grammars.ensures.not_both c.args.bytes.now found.2 found.0 (map grammar_of found.1.items) refusal of refused)
