use Rattle.qs_deck.specs.MadeDecks.{level_line}
use Rattle.qs_deck.proofs.MadeLemmas.{lines_next}
use Rattle.qs_deck.proofs.made_texts.append_levels.Goals as goal

pub loop-level-preserved : goal.loop-level-preserved
loop-level-preserved c =
    lines_next level_line c.loop-level.level c.args.out.now.items c.loop-level.out.items c.append_level.new.out.items c.loop-level.invariant c.in_ok-append_level.ensures
