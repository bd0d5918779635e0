use Rattle.std.proofs.Common.{◌≡◌, Bool, true, false, not, get_or, length, None, refl, sym, ap, subst, arith}
use Rattle.std.proofs.lemmas.List.{get_or_read}
use Rattle.std.proofs.lemmas.Option.{slice_get-get_or}
use Rattle.qs_levels.specs.working.Ordering.{IsPassed, places_left}
use Rattle.qs_levels.proofs.Passing.{opened, below_limit, passed_more}
use Rattle.qs_levels.proofs.ordering.pass.Goals as goal

not_false : (b : Bool) → not b ≡ false → b ≡ true
not_false true e = refl
not_false false e = cc

not_true : (b : Bool) → not b ≡ true → b ≡ false
not_true false e = refl
not_true true e = cc

pub loop-unpassed-init : goal.loop-unpassed-init
loop-unpassed-init c = c.requires.passed c.args.number (get_or c.args.nodes.now c.args.number (record { depth = 0; unpassed = None; done = false })) (slice_get-get_or c.args.nodes.now c.args.number (record { depth = 0; unpassed = None; done = false }) c.requires.number)

pub index-requires : goal.index-requires
index-requires c =
    omega (arith, below_limit c.args.steps.now.sources.items c.args.steps.now.targets.items c.args.nodes.now c.args.entering.now.last.items c.args.entering.now.before.items c.requires.steps c.requires.chains c.args.number c.loop-unpassed.depth c.loop-unpassed.unpassed c.in-Some.place c.loop-unpassed.invariant c.in-Some.is, c.args.steps.now.sources.ok.0)

pub offset_bounds-nodes-index : goal.offset_bounds-nodes-index
offset_bounds-nodes-index c =
    let o = opened c.args.steps.now.sources.items c.args.steps.now.targets.items c.args.nodes.now c.args.entering.now.last.items c.args.entering.now.before.items c.requires.steps c.requires.chains c.args.number c.loop-unpassed.depth c.loop-unpassed.unpassed c.in-Some.place c.index.result.now c.loop-unpassed.invariant c.in-Some.is c.index.ensures (record { depth = 0; unpassed = None; done = false }) in
    omega (arith, o.within, c.element_fits.fits)

pub bounds-nodes-index : goal.bounds-nodes-index
bounds-nodes-index c =
    let o = opened c.args.steps.now.sources.items c.args.steps.now.targets.items c.args.nodes.now c.args.entering.now.last.items c.args.entering.now.before.items c.requires.steps c.requires.chains c.args.number c.loop-unpassed.depth c.loop-unpassed.unpassed c.in-Some.place c.index.result.now c.loop-unpassed.invariant c.in-Some.is c.index.ensures (record { depth = 0; unpassed = None; done = false }) in
    o.within

pub returns-then-not-source-clause-held_up : goal.returns-then-not-source-clause-held_up
returns-then-not-source-clause-held_up c = λ _.
    let o = opened c.args.steps.now.sources.items c.args.steps.now.targets.items c.args.nodes.now c.args.entering.now.last.items c.args.entering.now.before.items c.requires.steps c.requires.chains c.args.number c.loop-unpassed.depth c.loop-unpassed.unpassed c.in-Some.place c.index.result.now c.loop-unpassed.invariant c.in-Some.is c.index.ensures (record { depth = 0; unpassed = None; done = false }) in
    record {
      step = c.in-Some.place;
      is = refl;
      source = c.index.result.now;
      from = o.from;
      undone = record { node = get_or c.args.nodes.now c.index.result.now (record { depth = 0; unpassed = None; done = false }); is = o.is; undone = not_true _ c.if-not-source.true };
    }

pub overflow_add-source : goal.overflow_add-source
overflow_add-source c =
    let o = opened c.args.steps.now.sources.items c.args.steps.now.targets.items c.args.nodes.now c.args.entering.now.last.items c.args.entering.now.before.items c.requires.steps c.requires.chains c.args.number c.loop-unpassed.depth c.loop-unpassed.unpassed c.in-Some.place c.index.result.now c.loop-unpassed.invariant c.in-Some.is c.index.ensures (record { depth = 0; unpassed = None; done = false }) in
    omega (arith, c.requires.low c.index.result.now (get_or c.args.nodes.now c.index.result.now (record { depth = 0; unpassed = None; done = false })) (record { is = o.is; done = not_false _ c.if-not-source.false }), c.ranges.limit.fits)

pub index-unpassed-requires : goal.index-unpassed-requires
index-unpassed-requires c =
    let o = opened c.args.steps.now.sources.items c.args.steps.now.targets.items c.args.nodes.now c.args.entering.now.last.items c.args.entering.now.before.items c.requires.steps c.requires.chains c.args.number c.loop-unpassed.depth c.loop-unpassed.unpassed c.in-Some.place c.index.result.now c.loop-unpassed.invariant c.in-Some.is c.index.ensures (record { depth = 0; unpassed = None; done = false }) in
    omega (arith, o.low_before, c.args.entering.now.before.ok.0)

pub loop-unpassed-preserved : goal.loop-unpassed-preserved
loop-unpassed-preserved c =
    let o = opened c.args.steps.now.sources.items c.args.steps.now.targets.items c.args.nodes.now c.args.entering.now.last.items c.args.entering.now.before.items c.requires.steps c.requires.chains c.args.number c.loop-unpassed.depth c.loop-unpassed.unpassed c.in-Some.place c.index.result.now c.loop-unpassed.invariant c.in-Some.is c.index.ensures (record { depth = 0; unpassed = None; done = false }) in
    let next : c.index-unpassed.result.now ≡ get_or c.args.entering.now.before.items c.in-Some.place None = get_or_read c.args.entering.now.before.items c.in-Some.place c.index-unpassed.result.now o.low_before c.index-unpassed.ensures None in
    subst (IsPassed c.args.steps.now.sources.items c.args.steps.now.targets.items c.args.nodes.now c.args.number c.max-depth.result) (sym next)
    (passed_more c.args.steps.now.sources.items c.args.steps.now.targets.items c.args.nodes.now (length c.args.nodes.now) c.args.entering.now.last.items c.args.entering.now.before.items c.requires.chains c.args.number c.loop-unpassed.depth c.in-Some.place
    (subst (IsPassed c.args.steps.now.sources.items c.args.steps.now.targets.items c.args.nodes.now c.args.number c.loop-unpassed.depth) c.in-Some.is c.loop-unpassed.invariant)
    c.index.result.now o.from (get_or c.args.nodes.now c.index.result.now (record { depth = 0; unpassed = None; done = false })) (record { is = o.is; done = not_false _ c.if-not-source.false }) c.max-depth.result c.max-depth.ensures)

pub loop-unpassed-smaller : goal.loop-unpassed-smaller
loop-unpassed-smaller c =
    let o = opened c.args.steps.now.sources.items c.args.steps.now.targets.items c.args.nodes.now c.args.entering.now.last.items c.args.entering.now.before.items c.requires.steps c.requires.chains c.args.number c.loop-unpassed.depth c.loop-unpassed.unpassed c.in-Some.place c.index.result.now c.loop-unpassed.invariant c.in-Some.is c.index.ensures (record { depth = 0; unpassed = None; done = false }) in
    let next : c.index-unpassed.result.now ≡ get_or c.args.entering.now.before.items c.in-Some.place None = get_or_read c.args.entering.now.before.items c.in-Some.place c.index-unpassed.result.now o.low_before c.index-unpassed.ensures None in
    omega (arith, o.fewer, ap places_left next, ap places_left c.in-Some.is)
