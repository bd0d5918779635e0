use Rattle.std.proofs.Common.{◌≡◌, [], ◌<◌, ◌++◌, length, get_or, Option, Some, slice_get, unwrap_or, sym, ap, subst, arith}
use Rattle.std.specs.Prelude.{codes, decimal}
use Rattle.std.specs.Option.{option_map}
use Rattle.qs_graphtext.proofs.Written.{begins}
use Rattle.qs_tree.specs.Lists.{◌∈◌}
use Rattle.qs_tree.proofs.Kept.{kept-further, on_err}
use Rattle.qs_tree.proofs.Members.{in_get_or, in_read, at_place}
use Rattle.qs_graph.specs.Graphs.{Arc}
use Rattle.qs_graphtext.specs.Texts.{arc_line}
use Rattle.qs_canon.specs.Closures.{ClosureOf}
use Rattle.qs_explain.specs.Texts.{arc_comment}
use Rattle.qs_explain.proofs.Numbers.{flat_on}
use Rattle.qs_explain.proofs.writing.append_arcs.Goals as goal

pub index-requires : goal.index-requires
index-requires c =
    let k = get_or c.args.arcs.now c.loop-arc.arc-index 0 in
    let low = c.requires.within k (in_get_or c.args.arcs.now c.loop-arc.arc-index 0 (omega arith)) in
    omega (arith, low, ap (λ (V : ClosureOf). length V.stage.graph.arcs) c.closure.view_is, c.closure.inside.edges.ok.0)

pub append_arc-requires : goal.append_arc-requires
append_arc-requires c =
    let k = get_or c.args.arcs.now c.loop-arc.arc-index 0 in
    let low = c.requires.within k (in_get_or c.args.arcs.now c.loop-arc.arc-index 0 (omega arith)) in
    let within : k < length c.closure.inside.edges.items = omega (arith, low, ap (λ (V : ClosureOf). length V.stage.graph.arcs) c.closure.view_is) in
    c.requires.names c.index.result.now (subst (λ (V : ClosureOf). c.index.result.now ∈ V.stage.graph.arcs) c.closure.view_is (in_read c.closure.inside.edges.items k c.index.result.now within c.index.ensures))

pub returns-in_err-append_arc-clause-err : goal.returns-in_err-append_arc-clause-err
returns-in_err-append_arc-clause-err c =
    on_err _ (kept-further c.args.out.now.items c.loop-arc.out.items _ (begins c.args.out.now.items _ c.loop-arc.out.items c.loop-arc.invariant) c.in_err-append_arc.ensures.err)

pub loop-arc-preserved : goal.loop-arc-preserved
loop-arc-preserved c =
    let k = get_or c.args.arcs.now c.loop-arc.arc-index 0 in
    let low = c.requires.within k (in_get_or c.args.arcs.now c.loop-arc.arc-index 0 (omega arith)) in
    let within : k < length c.closure.inside.edges.items = omega (arith, low, ap (λ (V : ClosureOf). length V.stage.graph.arcs) c.closure.view_is) in
    let at : slice_get c.args.closure.now.stage.graph.arcs k ≡ Some c.index.result.now =
    subst (λ (V : ClosureOf). slice_get V.stage.graph.arcs k ≡ Some c.index.result.now) c.closure.view_is (at_place c.closure.inside.edges.items k c.index.result.now within c.index.ensures) in
    let is : codes "# arc " ++ (decimal k ++ (codes " " ++ arc_line c.args.names.now c.index.result.now)) ≡ arc_comment c.args.names.now c.args.closure.now.stage k =
    ap (λ (o : Option Arc). codes "# arc " ++ (decimal k ++ (codes " " ++ unwrap_or (option_map (arc_line c.args.names.now) o) []))) (sym at) in
    flat_on (arc_comment c.args.names.now c.args.closure.now.stage) c.args.arcs.now c.loop-arc.arc-index c.args.out.now.items c.loop-arc.out.items c.append_arc.new.out.items _ (omega arith) is c.loop-arc.invariant c.in_ok-append_arc.ensures.ok
