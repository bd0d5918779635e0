use Rattle.std.proofs.Common.{◌≡◌, ◌-◌, take}
use Rattle.qs_firing.proofs.view.View.shorten.Given as goal

abbrev pub invariant-loop : goal.invariant-loop
invariant-loop l = l.self ≡ take (l.end - (l.counter - l.len)) l.initial.self
