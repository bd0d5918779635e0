use Rattle.std.proofs.Common.{refl, length, arith}
use Rattle.qs_tree.specs.Cells.{trees_of}
use Rattle.qs_pattern.specs.Patterns.{patterns}
use Rattle.qs_pattern.specs.Instances.{inst}
use Rattle.qs_match.specs.working.Bindings.{substitution_of}
use Rattle.qs_match.proofs.Covered.{front_joins, rest_fits, known_front}
use Rattle.qs_match.proofs.counts.lengths_of.Goals as goal

pub returns-in_err-fitting-clause-none : goal.returns-in_err-fitting-clause-none
returns-in_err-fitting-clause-none c _ r front t =
    c.in_err-fitting.ensures.none refl (length front) (length (inst r (patterns c.args.rest.now))) (front_joins (substitution_of c.args.bindings.now) c.args.var (patterns c.args.rest.now) (trees_of c.args.trees.cells.now) r front t) (rest_fits (substitution_of c.args.bindings.now) c.args.var (patterns c.args.rest.now) (trees_of c.args.trees.cells.now) r front c.requires.in_class t)

pub returns-in_default-clause-some : goal.returns-in_default-clause-some
returns-in_default-clause-some c r front t =
    c.in_ok-fitting.ensures.some (length front) (length (inst r (patterns c.args.rest.now))) (front_joins (substitution_of c.args.bindings.now) c.args.var (patterns c.args.rest.now) (trees_of c.args.trees.cells.now) r front t) (rest_fits (substitution_of c.args.bindings.now) c.args.var (patterns c.args.rest.now) (trees_of c.args.trees.cells.now) r front c.requires.in_class t)

pub returns-then-length-fitting-clause-none : goal.returns-then-length-fitting-clause-none
returns-then-length-fitting-clause-none c _ r front t =
    let within = c.in_ok-fitting.ensures.some (length front) (length (inst r (patterns c.args.rest.now))) (front_joins (substitution_of c.args.bindings.now) c.args.var (patterns c.args.rest.now) (trees_of c.args.trees.cells.now) r front t) (rest_fits (substitution_of c.args.bindings.now) c.args.var (patterns c.args.rest.now) (trees_of c.args.trees.cells.now) r front c.requires.in_class t) in
    let known = known_front (substitution_of c.args.bindings.now) c.args.var (patterns c.args.rest.now) (trees_of c.args.trees.cells.now) r front c.in-Some.ensures.0 c.in-Some.ensures.1 t in
    omega (arith, within.0, known, c.in-Some.ensures.2, c.if-length-fitting.true)

pub returns-then-fitting-length-clause-none : goal.returns-then-fitting-length-clause-none
returns-then-fitting-length-clause-none c _ r front t =
    let within = c.in_ok-fitting.ensures.some (length front) (length (inst r (patterns c.args.rest.now))) (front_joins (substitution_of c.args.bindings.now) c.args.var (patterns c.args.rest.now) (trees_of c.args.trees.cells.now) r front t) (rest_fits (substitution_of c.args.bindings.now) c.args.var (patterns c.args.rest.now) (trees_of c.args.trees.cells.now) r front c.requires.in_class t) in
    let known = known_front (substitution_of c.args.bindings.now) c.args.var (patterns c.args.rest.now) (trees_of c.args.trees.cells.now) r front c.in-Some.ensures.0 c.in-Some.ensures.1 t in
    omega (arith, within.1, known, c.in-Some.ensures.2, c.if-fitting-length.true)

pub returns-clause-some : goal.returns-clause-some
returns-clause-some c r front t =
    let known = known_front (substitution_of c.args.bindings.now) c.args.var (patterns c.args.rest.now) (trees_of c.args.trees.cells.now) r front c.in-Some.ensures.0 c.in-Some.ensures.1 t in
    (omega (arith, known, c.in-Some.ensures.2), omega (arith, known, c.in-Some.ensures.2))
