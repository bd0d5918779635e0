use Rattle.std.proofs.Common.{arith}
use Rattle.qs_deck.proofs.MadeLemmas.{level_names_few, word_absent}
use Rattle.qs_deck.proofs.made_decks.made_names.Goals as goal

pub intern_numbered-requires-2-clause-few : goal.intern_numbered-requires-2-clause-few
intern_numbered-requires-2-clause-few c =
    let few = level_names_few c.args.size c.new-names.result c.intern.new.self c.intern_numbered.new.names c.new-names.ensures c.in_ok-intern.ensures.grows c.in_ok-intern_numbered.ensures in
    omega (arith, few, c.requires, c.word_count.ensures.few)

pub intern_numbered-requires-2-clause-new : goal.intern_numbered-requires-2-clause-new
intern_numbered-requires-2-clause-new c =
    word_absent c.args.size c.new-names.result c.intern.new.self c.intern_numbered.new.names c.new-names.ensures c.in_ok-intern.ensures.grows c.in_ok-intern_numbered.ensures
