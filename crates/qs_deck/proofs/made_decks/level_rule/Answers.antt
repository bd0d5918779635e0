use Rattle.qs_deck.proofs.MadeLemmas.{rule_accepted, rule_is}
use Rattle.qs_deck.proofs.made_decks.level_rule.Goals as goal

pub new-requires : goal.new-requires
new-requires c = rule_accepted c.args.level _ _ c.in_ok-left.ensures c.in_ok-right.ensures

pub returns : goal.returns
returns c = rule_is c.args.level c.new.result _ _ c.new.ensures c.in_ok-left.ensures c.in_ok-right.ensures
