use Rattle.std.proofs.Common.{◌<◌, ap, sym, subst, List, Some, None}
use Rattle.qs_tree.specs.Cells.{tree_of}
use Rattle.qs_tree.proofs.Decisions.{true_false}
use Rattle.qs_graph.specs.Graphs.{Arc, QGraph}
use Rattle.qs_core.proofs.Least.{IsWalked, still_left, walk_begins, walk_low, walk_finds, walk_passes, less_left, walk_ends}
use Rattle.qs_core.proofs.arcs.Arcs.least.Goals.{then-ends_with, else-ends_with}
use Rattle.qs_core.proofs.arcs.Arcs.least.Goals as goal

pub loop-next-init : goal.loop-next-init
loop-next-init c =
    let arcs = ap (λ (g : QGraph). g.arcs) c.self.view_is in
    subst (λ (xs : List Arc). IsWalked xs c.args.from c.args.to (tree_of c.args.tree.cells.now) c.last_out-next.result None) arcs
    (walk_begins c.self.inside.view c.args.from c.args.to (tree_of c.args.tree.cells.now) c.last_out-next.result c.last_out-next.ensures)

pub edge-requires : goal.edge-requires
edge-requires c =
    let arcs = ap (λ (g : QGraph). g.arcs) c.self.view_is in
    let t = tree_of c.args.tree.cells.now in
    let walked : IsWalked c.self.inside.view c.args.from c.args.to (tree_of c.args.tree.cells.now) (Some c.in-Some.arc) c.loop-next.least =
    subst (λ n. IsWalked c.self.inside.view c.args.from c.args.to (tree_of c.args.tree.cells.now) n c.loop-next.least) c.in-Some.is
    (subst (λ (xs : List Arc). IsWalked xs c.args.from c.args.to t c.loop-next.next c.loop-next.least) (sym arcs) c.loop-next.invariant) in
    walk_low c.self.inside.view c.args.from c.args.to (tree_of c.args.tree.cells.now) c.in-Some.arc walked.start

pub before_out-next-requires : goal.before_out-next-requires
before_out-next-requires c =
    let arcs = ap (λ (g : QGraph). g.arcs) c.self.view_is in
    let t = tree_of c.args.tree.cells.now in
    let walked : IsWalked c.self.inside.view c.args.from c.args.to (tree_of c.args.tree.cells.now) (Some c.in-Some.arc) c.loop-next.least =
    subst (λ n. IsWalked c.self.inside.view c.args.from c.args.to (tree_of c.args.tree.cells.now) n c.loop-next.least) c.in-Some.is
    (subst (λ (xs : List Arc). IsWalked xs c.args.from c.args.to t c.loop-next.next c.loop-next.least) (sym arcs) c.loop-next.invariant) in
    walk_low c.self.inside.view c.args.from c.args.to (tree_of c.args.tree.cells.now) c.in-Some.arc walked.start

pub loop-next-smaller : goal.loop-next-smaller
loop-next-smaller c =
    let arcs = ap (λ (g : QGraph). g.arcs) c.self.view_is in
    let t = tree_of c.args.tree.cells.now in
    let walked : IsWalked c.self.inside.view c.args.from c.args.to (tree_of c.args.tree.cells.now) (Some c.in-Some.arc) c.loop-next.least =
    subst (λ n. IsWalked c.self.inside.view c.args.from c.args.to (tree_of c.args.tree.cells.now) n c.loop-next.least) c.in-Some.is
    (subst (λ (xs : List Arc). IsWalked xs c.args.from c.args.to t c.loop-next.next c.loop-next.least) (sym arcs) c.loop-next.invariant) in
    subst (λ n. still_left c.before_out-next.result < still_left n) (sym c.in-Some.is)
    (less_left c.self.inside.view c.args.from c.args.to (tree_of c.args.tree.cells.now) c.in-Some.arc c.before_out-next.result (c.before_out-next.ensures c.args.from walked.start))

pub loop-next-preserved : goal.loop-next-preserved
loop-next-preserved c =
    let arcs = ap (λ (g : QGraph). g.arcs) c.self.view_is in
    let t = tree_of c.args.tree.cells.now in
    let walked : IsWalked c.self.inside.view c.args.from c.args.to (tree_of c.args.tree.cells.now) (Some c.in-Some.arc) c.loop-next.least =
    subst (λ n. IsWalked c.self.inside.view c.args.from c.args.to (tree_of c.args.tree.cells.now) n c.loop-next.least) c.in-Some.is
    (subst (λ (xs : List Arc). IsWalked xs c.args.from c.args.to t c.loop-next.next c.loop-next.least) (sym arcs) c.loop-next.invariant) in
    let last = c.before_out-next.ensures c.args.from walked.start in
    subst (λ (xs : List Arc). IsWalked xs c.args.from c.args.to t c.before_out-next.result c.if-ends_with.least) arcs
    (elim c.if-ends_with.branch [
      | then-ends_with w ↦ let ends = c.ends_with.ensures.0 w.if-ends_with.true in
          subst (λ o. IsWalked c.self.inside.view c.args.from c.args.to (tree_of c.args.tree.cells.now) c.before_out-next.result o) (sym w.least-is)
          (walk_finds c.self.inside.view c.args.from c.args.to (tree_of c.args.tree.cells.now) c.in-Some.arc c.loop-next.least c.before_out-next.result c.edge.result.now walked c.edge.ensures ends.0 ends.1 last)
      | else-ends_with w ↦
          subst (λ o. IsWalked c.self.inside.view c.args.from c.args.to (tree_of c.args.tree.cells.now) c.before_out-next.result o) (sym w.least-is)
          (walk_passes c.self.inside.view c.args.from c.args.to (tree_of c.args.tree.cells.now) c.in-Some.arc c.loop-next.least c.before_out-next.result c.edge.result.now walked c.edge.ensures (λ ends. true_false w.if-ends_with.false (c.ends_with.ensures.1 ends)) last)
    ])

pub returns : goal.returns
returns c =
    walk_ends c.args.self.now.arcs c.args.from c.args.to (tree_of c.args.tree.cells.now) c.loop-next.least
    (subst (λ n. IsWalked c.args.self.now.arcs c.args.from c.args.to (tree_of c.args.tree.cells.now) n c.loop-next.least) c.in_default.is c.loop-next.invariant)
