use Rattle.std.proofs.Common.{arith, ap, sym, subst, ℕ, Option}
use Rattle.std.specs.Prelude.{IsSome}
use Rattle.qs_graph.specs.Graphs.{Arc}
use Rattle.qs_canon.specs.working.CanonNumbers.{table_of}
use Rattle.qs_canon.proofs.CanonNumbers.{some_within, some_read}
use Rattle.qs_canon.proofs.numbers.Numbers.add_arc.Goals as goal

pub overflow_cast-number : goal.overflow_cast-number
overflow_cast-number c = omega (arith, c.len-number.ensures, c.args.self.now.edges.ok.0, c.requires.few)

pub index-requires : goal.index-requires
index-requires c =
    let N = c.args.self.now.nodes.items in
    let from = ap (λ (a : Arc). a.from) c.edge.view_is in
    omega (arith, some_within N c.edge.inside.from (subst (λ n. IsSome (table_of N n)) (sym from) c.requires.from), c.args.self.now.nodes.ok.0)

pub unwrap-from-requires : goal.unwrap-from-requires
unwrap-from-requires c =
    let N = c.args.self.now.nodes.items in
    let from = ap (λ (a : Arc). a.from) c.edge.view_is in
    let some = subst (λ n. IsSome (table_of N n)) (sym from) c.requires.from in
    subst (λ (o : Option ℕ). IsSome o) (some_read N c.edge.inside.from c.index.result.now (some_within N c.edge.inside.from some) c.index.ensures) some

pub index-requires-2 : goal.index-requires-2
index-requires-2 c =
    let N = c.args.self.now.nodes.items in
    let to = ap (λ (a : Arc). a.to) c.edge.view_is in
    omega (arith, some_within N c.edge.inside.to (subst (λ n. IsSome (table_of N n)) (sym to) c.requires.to), c.args.self.now.nodes.ok.0)

pub unwrap-to-requires : goal.unwrap-to-requires
unwrap-to-requires c =
    let N = c.args.self.now.nodes.items in
    let to = ap (λ (a : Arc). a.to) c.edge.view_is in
    let some = subst (λ n. IsSome (table_of N n)) (sym to) c.requires.to in
    subst (λ (o : Option ℕ). IsSome o) (some_read N c.edge.inside.to c.index-2.result.now (some_within N c.edge.inside.to some) c.index-2.ensures) some

pub index_mut-requires : goal.index_mut-requires
index_mut-requires c = omega (arith, c.requires.arc, c.args.self.now.arcs.ok.0)
