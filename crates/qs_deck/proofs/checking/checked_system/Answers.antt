use Rattle.std.proofs.Common.{◌≡◌, ap, sym, subst, refl, length, arith}
use Rattle.std.proofs.lemmas.List.{length-map}
use Rattle.qs_tree.proofs.Members.{from_map}
use Rattle.qs_pattern.specs.Rules.{Rule}
use Rattle.qs_deck.specs.Decks.{rule_of}
use Rattle.qs_deck.specs.Marks.{HaveMark}
use Rattle.qs_deck.proofs.checking.checked_system.Goals as goal

pub invariant_of-result : goal.invariant_of-result
invariant_of-result c =
    let unique = c.system.inside.unique in
    let raws = c.system.inside.rules.items in
    record {
      few = omega (arith, ap length c.in_ok-rules.ensures.rules, length-map raws (rule_of unique), c.requires.few, ap (λ s. length s.rules) c.system.view_is);
      marked = subst (HaveMark unique) (sym c.in_ok-rules.ensures.rules) (from_map (rule_of unique) raws (λ (rule : Rule). rule.unique ≡ unique) (λ raw i. refl));
    }
