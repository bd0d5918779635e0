use Rattle.std.proofs.Common.{get_or, refl, subst, arith}
use Rattle.std.proofs.lemmas.List.{take_all}
use Rattle.qs_tree.proofs.Members.{in_get_or}
use Rattle.qs_levels.specs.working.Steps.{AreChains}
use Rattle.qs_levels.proofs.Places.{no_chains, next_chains, only_none}
use Rattle.qs_levels.proofs.chains.chains_of.Goals as goal

pub loop-place-init : goal.loop-place-init
loop-place-init c = no_chains c.args.limit c.in_ok-last.last.items c.in_ok-before.before.items (c.in_ok-last.ensures.items_if_clones_equal (only_none _ (λ x h. h))) c.in_ok-before.ensures.items

pub index-requires : goal.index-requires
index-requires c =
    omega (arith, c.requires _ (in_get_or c.args.numbers.now c.loop-place.place 0 c.loop-place-test.true), c.loop-place.last.ok.0, c.loop-place.invariant.long_last)

pub index_mut-requires : goal.index_mut-requires
index_mut-requires c =
    omega (arith, c.requires _ (in_get_or c.args.numbers.now c.loop-place.place 0 c.loop-place-test.true), c.loop-place.last.ok.0, c.loop-place.invariant.long_last)

pub loop-place-preserved : goal.loop-place-preserved
loop-place-preserved c =
    next_chains c.args.limit c.args.numbers.now c.loop-place.place (get_or c.args.numbers.now c.loop-place.place 0) c.loop-place.last.items c.loop-place.before.items _ c.push.new.self.items c.index.result.now
    c.loop-place-test.true refl (c.requires _ (in_get_or c.args.numbers.now c.loop-place.place 0 c.loop-place-test.true)) c.index.ensures c.in_ok-push.ensures.items refl c.loop-place.invariant

pub returns : goal.returns
returns c = subst (λ ns. AreChains c.args.limit ns c.loop-place.last.items c.loop-place.before.items) (take_all c.loop-place.place c.args.numbers.now (omega arith)) c.loop-place.invariant
