use Rattle.qs_graph.specs.Limits.{most_read_arcs}
use Rattle.qs_graphtext.specs.WrittenChains.{WrittenChain}
use Rattle.std.proofs.Common.{◌≡◌, ◌<◌, Some, ap, sym, ◌∙◌, length, slice_get, arith}
use Rattle.std.proofs.lemmas.Option.{slice_get-get_or}
use Rattle.qs_tree.proofs.Members.{in_read}
use Rattle.qs_graphtext.proofs.TooMany.{trees_so_far, place_at}
use Rattle.qs_graphtext.proofs.making.first_too_many.Goals as goal

pub index-requires : goal.index-requires
index-requires c =
    let whole = c.requires c.chain-item.result (in_read c.args.chains.now c.loop-chain.chain-index c.chain-item.result c.loop-chain-test.true c.chain-item.is) in
    let trees = ap (λ (w : WrittenChain). length w.trees) c.chain.view_is in
    let places = ap (λ (w : WrittenChain). length w.at) c.chain.view_is in
    omega (arith, whole.places, trees, places, c.len-trees.ensures, c.if-trees-room.true, c.chain.inside.trees.ok.0, c.chain.inside.at.ok.0)

pub returns-then-trees-room-clause-some : goal.returns-then-trees-room-clause-some
returns-then-trees-room-clause-some c =
    let whole = c.requires c.chain-item.result (in_read c.args.chains.now c.loop-chain.chain-index c.chain-item.result c.loop-chain-test.true c.chain-item.is) in
    let trees = ap (λ (w : WrittenChain). length w.trees) c.chain.view_is in
    let places = ap (λ (w : WrittenChain). w.at) c.chain.view_is in
    let low : c.loop-chain.room < length c.chain-item.result.trees = omega (arith, trees, c.len-trees.ensures, c.if-trees-room.true, c.chain.inside.trees.ok.0) in
    let so_far = trees_so_far c.args.chains.now c.loop-chain.chain-index c.chain-item.result c.loop-chain-test.true c.chain-item.is in
    let place : slice_get c.chain-item.result.at c.loop-chain.room ≡ Some c.index.result.now =
    ap (λ ns. slice_get ns c.loop-chain.room) (sym places)
    ∙ slice_get-get_or c.chain.inside.at.items c.loop-chain.room c.index.result.now (omega (arith, low, whole.places, ap length places)) ∙ ap Some (sym c.index.ensures) in (
      omega (arith, so_far, c.loop-chain.invariant, low),
      place_at c.args.chains.now c.requires c.loop-chain.chain-index c.chain-item.result c.loop-chain.room most_read_arcs c.index.result.now c.loop-chain-test.true c.chain-item.is (omega (arith, c.loop-chain.invariant)) place,
    )
