use Rattle.std.proofs.Common.{◌≡◌, ◌<◌, ◌+◌, false, length, drop, get_or, Some, slice_get, ◌∙◌, ap, subst, arith}
use Rattle.std.proofs.lemmas.Option.{slice_get_within}
use Rattle.qs_graphtext.proofs.Written.{begins}
use Rattle.qs_tree.proofs.Kept.{kept-further, on_err}
use Rattle.qs_tree.proofs.Members.{in_get_or, at_place}
use Rattle.qs_canon.specs.Rounds.{Done}
use Rattle.qs_canon.specs.Closures.{ClosureOf}
use Rattle.qs_explain.specs.Support.{next_first}
use Rattle.qs_explain.specs.Texts.{firing_comment}
use Rattle.qs_explain.proofs.Laid.{adding}
use Rattle.qs_explain.proofs.Numbers.{flat_on}
use Rattle.qs_explain.proofs.Grounded.{comment_is}
use Rattle.qs_explain.proofs.writing.append_firings.Goals as goal

pub index-requires : goal.index-requires
index-requires c =
    let i = get_or c.args.places.now c.loop-place.place-index 0 in
    let a = c.requires.added i (in_get_or c.args.places.now c.loop-place.place-index 0 (omega arith)) in
    let at = adding (length c.args.closure.now.stage.graph.arcs) c.args.closure.now.stage.done i a.0 a.1 in
    omega (arith, slice_get_within c.args.closure.now.stage.done i at.done at.is, ap (λ (V : ClosureOf). length V.stage.done) c.closure.view_is, c.closure.inside.firings.ok.0)

pub returns-in_err-append_firing-clause-err : goal.returns-in_err-append_firing-clause-err
returns-in_err-append_firing-clause-err c =
    on_err _ (kept-further c.args.out.now.items c.loop-place.out.items _ (begins c.args.out.now.items _ c.loop-place.out.items c.loop-place.invariant) c.in_err-append_firing.ensures.err)

pub loop-place-preserved : goal.loop-place-preserved
loop-place-preserved c =
    let i = get_or c.args.places.now c.loop-place.place-index 0 in
    let a = c.requires.added i (in_get_or c.args.places.now c.loop-place.place-index 0 (omega arith)) in
    let at = adding (length c.args.closure.now.stage.graph.arcs) c.args.closure.now.stage.done i a.0 a.1 in
    let within : i < length c.closure.inside.firings.items = omega (arith, slice_get_within c.args.closure.now.stage.done i at.done at.is, ap (λ (V : ClosureOf). length V.stage.done) c.closure.view_is) in
    let here : slice_get c.args.closure.now.stage.done i ≡ Some c.index.result.now =
    subst (λ (V : ClosureOf). slice_get V.stage.done i ≡ Some c.index.result.now) c.closure.view_is (at_place c.closure.inside.firings.items i c.index.result.now within c.index.ensures) in
    let same : at.done ≡ c.index.result.now = (let p = at.is in let q = here in cc) in
    let unmet : c.index.result.now.met ≡ false = subst (λ (d : Done). d.met ≡ false) same at.unmet in
    let arcs : c.len-arcs.result ≡ length c.args.closure.now.stage.graph.arcs = omega (arith, c.len-arcs.ensures, ap (λ (V : ClosureOf). length V.stage.graph.arcs) c.closure.view_is, c.closure.inside.edges.ok.0) in
    let behind : c.next_first-behind.result ≡ next_first (length c.args.closure.now.stage.graph.arcs) (drop (i + 1) c.args.closure.now.stage.done) =
    c.next_first-behind.ensures ∙ ap (λ n. next_first n (drop (i + 1) c.deref.result.now)) arcs ∙ ap (λ ds. next_first (length c.args.closure.now.stage.graph.arcs) (drop (i + 1) ds)) c.deref.ensures.value
    ∙ ap (λ (V : ClosureOf). next_first (length c.args.closure.now.stage.graph.arcs) (drop (i + 1) V.stage.done)) c.closure.view_is in
    flat_on (firing_comment c.args.closure.now.stage) c.args.places.now c.loop-place.place-index c.args.out.now.items c.loop-place.out.items c.append_firing.new.out.items _ (omega arith)
    (comment_is c.args.closure.now.stage i c.index.result.now c.next_first-behind.result here unmet behind) c.loop-place.invariant c.in_ok-append_firing.ensures.ok
