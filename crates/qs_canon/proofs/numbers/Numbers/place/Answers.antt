use Rattle.std.proofs.Common.{◌≡◌, ◌<◌, ◌++◌, [], ◌∷◌, false, length, refl, sym, ap, ◌∙◌, subst, arith}
use Rattle.qs_core.specs.Core.{Fired}
use Rattle.qs_canon.specs.working.CanonNumbers.{table_of}
use Rattle.qs_canon.specs.working.CanonChains.{IsUnnumbered, IsChainAdded}
use Rattle.qs_canon.proofs.CanonNumbers.{some_read}
use Rattle.qs_canon.proofs.CanonPlaces.{place_within, place_few, place_chain, place_met, place_unmet, place_stays}
use Rattle.qs_canon.proofs.numbers.Numbers.place.Goals as goal

pub index-requires : goal.index-requires
index-requires c =
    let (n, S, E, F, r, w) = c.requires.at_work in
    let (i, (ls, a, is)) = c.requires.one in
    let first = ap (λ (x : Fired). x.first) c.fired.view_is in
    omega (arith, first, place_within c.args.end.now.machine c.args.self.now n S E c.args.fired.now ls F i a c.args.firing is w, c.args.self.now.arcs.ok.0)

pub overflow_cast-first : goal.overflow_cast-first
overflow_cast-first c =
    let (n, S, E, F, r, w) = c.requires.at_work in
    let (i, (ls, a, is)) = c.requires.one in
    let first = ap (λ (x : Fired). x.first) c.fired.view_is in
    let within : c.fired.inside.first < length c.args.self.now.arcs.items = omega (arith, first, place_within c.args.end.now.machine c.args.self.now n S E c.args.fired.now ls F i a c.args.firing is w) in
    let has = subst (λ k. table_of c.args.self.now.arcs.items k ≡ c.index.result.now) first (some_read c.args.self.now.arcs.items c.fired.inside.first c.index.result.now within c.index.ensures) in
    omega (arith, place_few c.args.end.now.machine c.args.self.now n S E c.args.fired.now ls F i a c.args.firing is w (has ∙ c.in_default.is), c.len-first.ensures, c.args.self.now.edges.ok.0)

pub add_result-requires : goal.add_result-requires
add_result-requires c =
    let (n, S, E, F, r, w) = c.requires.at_work in
    let (i, (ls, a, is)) = c.requires.one in
    let first = ap (λ (x : Fired). x.first) c.fired.view_is in
    let within : c.fired.inside.first < length c.args.self.now.arcs.items = omega (arith, first, place_within c.args.end.now.machine c.args.self.now n S E c.args.fired.now ls F i a c.args.firing is w) in
    let has = subst (λ k. table_of c.args.self.now.arcs.items k ≡ c.index.result.now) first (some_read c.args.self.now.arcs.items c.fired.inside.first c.index.result.now within c.index.ensures) in
    let (chain, x) = place_chain c.args.end.now.machine c.args.self.now n S E c.args.fired.now ls F i a c.args.firing is w (has ∙ c.in_default.is) in
    (chain, subst (λ k. IsUnnumbered c.args.end.now.machine.state.graph c.args.self.now k chain) (sym first) x)

pub returns-in-Some-clause-work : goal.returns-in-Some-clause-work
returns-in-Some-clause-work c = λ n S E F r w.
    let (i, (ls, a, is)) = c.requires.one in
    let first = ap (λ (x : Fired). x.first) c.fired.view_is in
    let within : c.fired.inside.first < length c.args.self.now.arcs.items = omega (arith, first, place_within c.args.end.now.machine c.args.self.now n S E c.args.fired.now ls F i a c.args.firing is w) in
    let has = subst (λ k. table_of c.args.self.now.arcs.items k ≡ c.index.result.now) first (some_read c.args.self.now.arcs.items c.fired.inside.first c.index.result.now within c.index.ensures) in
    place_met c.args.end.now.machine c.args.self.now n S E c.args.fired.now ls F i a c.args.firing is w c.in-Some.first (has ∙ c.in-Some.is) c.args.round
    (record {
      arcs = c.args.self.now.arcs;
      nodes = c.args.self.now.nodes;
      origins = c.args.self.now.origins;
      last_node = c.args.self.now.last_node;
      edges = c.args.self.now.edges;
      placed = c.push.new.self;
    })
    r refl refl refl refl refl c.in_ok-push.ensures.items

pub returns-in-Some-clause-stay : goal.returns-in-Some-clause-stay
returns-in-Some-clause-stay c = λ ks ls b. b

pub returns-clause-work : goal.returns-clause-work
returns-clause-work c = λ n S E F r w.
    let (i, (ls, a, is)) = c.requires.one in
    let first = ap (λ (x : Fired). x.first) c.fired.view_is in
    let within : c.fired.inside.first < length c.args.self.now.arcs.items = omega (arith, first, place_within c.args.end.now.machine c.args.self.now n S E c.args.fired.now ls F i a c.args.firing is w) in
    let has = subst (λ k. table_of c.args.self.now.arcs.items k ≡ c.index.result.now) first (some_read c.args.self.now.arcs.items c.fired.inside.first c.index.result.now within c.index.ensures) in
    let number : c.len-first.result ≡ length c.args.self.now.edges.items = omega (arith, c.len-first.ensures, c.args.self.now.edges.ok.0) in
    place_unmet c.args.end.now.machine c.args.self.now n S E c.args.fired.now ls F i a c.args.firing is w (has ∙ c.in_default.is) c.add_result.new.self
    (λ chain x. subst (λ k. IsChainAdded k chain c.args.self.now c.add_result.new.self) first (c.in_ok-add_result.ensures chain (subst (λ k. IsUnnumbered c.args.end.now.machine.state.graph c.args.self.now k chain) (sym first) x)))
    c.args.round
    (record {
      arcs = c.add_result.new.self.arcs;
      nodes = c.add_result.new.self.nodes;
      origins = c.add_result.new.self.origins;
      last_node = c.add_result.new.self.last_node;
      edges = c.add_result.new.self.edges;
      placed = c.push-2.new.self;
    })
    r refl refl refl refl refl
    (c.in_ok-push-2.ensures.items ∙ (λ i. c.add_result.new.self.placed.items ++ record { firing = c.args.firing; first = number i; round = c.args.round; met = false } ∷ []))

pub returns-clause-stay : goal.returns-clause-stay
returns-clause-stay c =
    let (n, S, E, F, r, w) = c.requires.at_work in
    let (i, (ls, a, is)) = c.requires.one in
    let first = ap (λ (x : Fired). x.first) c.fired.view_is in
    let within : c.fired.inside.first < length c.args.self.now.arcs.items = omega (arith, first, place_within c.args.end.now.machine c.args.self.now n S E c.args.fired.now ls F i a c.args.firing is w) in
    let has = subst (λ k. table_of c.args.self.now.arcs.items k ≡ c.index.result.now) first (some_read c.args.self.now.arcs.items c.fired.inside.first c.index.result.now within c.index.ensures) in
    place_stays c.args.end.now.machine c.args.self.now n S E c.args.fired.now ls F i a c.args.firing is w (has ∙ c.in_default.is) c.add_result.new.self
    (λ chain x. subst (λ k. IsChainAdded k chain c.args.self.now c.add_result.new.self) first (c.in_ok-add_result.ensures chain (subst (λ k. IsUnnumbered c.args.end.now.machine.state.graph c.args.self.now k chain) (sym first) x)))
