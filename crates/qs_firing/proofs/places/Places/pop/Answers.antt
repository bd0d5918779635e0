use Rattle.qs_firing.specs.working.Places.{known_place}
use Rattle.qs_firing.proofs.Placing.{pop_keeps, never_absent}
use Rattle.qs_firing.proofs.places.Places.pop.Goals as goal

pub set_back-requires : goal.set_back-requires
set_back-requires c = never_absent c.self.inside.places.items c.pop.new.self.items c.in-Some.place (known_place c.self.inside.last) c.in-Some.ensures.items c.self.invariant

pub invariant_of-self-2 : goal.invariant_of-self-2
invariant_of-self-2 c = pop_keeps c.self.inside.places.items _ c.in-Some.place (known_place c.self.inside.last) _ c.in-Some.ensures.items c.self.invariant c.set_back.ensures
