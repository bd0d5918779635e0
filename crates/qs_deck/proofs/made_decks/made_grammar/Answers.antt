use Rattle.std.proofs.Common.{◌≡◌, false, ap, sym, subst, refl, length, arith}
use Rattle.std.specs.List.{range_with_len}
use Rattle.std.proofs.lemmas.List.FromFn.{length-map-range_with_len}
use Rattle.qs_tree.proofs.Members.{from_map}
use Rattle.qs_pattern.specs.Rules.{Rule}
use Rattle.qs_deck.specs.Marks.{HaveMark}
use Rattle.qs_deck.specs.MadeDecks.{level_rule}
use Rattle.qs_deck.proofs.MadeLemmas.{rules_next}
use Rattle.qs_deck.proofs.made_decks.made_grammar.Goals as goal

pub loop-level-preserved : goal.loop-level-preserved
loop-level-preserved c =
    rules_next c.loop-level.level c.loop-level.rules.items c.push.new.self.items c.in_ok-level_rule.field-0 c.loop-level.invariant c.in_ok-level_rule.ensures c.in_ok-push.ensures.items

pub invariant_of-result : goal.invariant_of-result
invariant_of-result c = record {
  few = omega (arith, ap length c.loop-level.invariant, length-map-range_with_len level_rule 0 c.loop-level.level, c.requires, c.loop-level.auto.level-end);
  marked = subst (HaveMark false) (sym c.loop-level.invariant) (from_map level_rule (range_with_len 0 c.loop-level.level) (λ (rule : Rule). rule.unique ≡ false) (λ level i. refl));
}
