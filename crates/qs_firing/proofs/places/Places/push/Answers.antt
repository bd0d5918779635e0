use Rattle.std.proofs.Common.{ℕ, List, length, arith, ◌∙◌, sym, ap, subst, Some, cond, nat_eq}
use Rattle.std.proofs.lemmas.List.{length-map}
use Rattle.qs_firing.specs.declared.places.Place.{Place}
use Rattle.qs_firing.specs.Neighbours.{IsLastPlace}
use Rattle.qs_firing.specs.working.Places.{known_place}
use Rattle.qs_firing.proofs.Placing.{push_keeps}
use Rattle.qs_firing.proofs.places.Places.push.Goals as goal

pub invariant_of-self-in-Ok : goal.invariant_of-self-in-Ok
invariant_of-self-in-Ok c =
    let long = length-map c.self.inside.places.items (λ (p : Place). p.number) in
    push_keeps c.self.inside.places.items _ _ (known_place c.self.inside.last) _ c.in_ok-push.ensures.items c.self.invariant
    (omega (arith, long, c.requires, ap (λ (ns : List ℕ). length ns) c.self.view_is))
    (subst (λ ns. IsLastPlace ns c.args.number c.last-before.result) (sym c.self.view_is) c.last-before.ensures)
    (λ n. c.in-Ok.ensures.ok n ∙ ap (λ k. cond (nat_eq c.args.number n) (Some k) (known_place c.self.inside.last n)) (cc))
