use Rattle.std.proofs.Common.{◌∙◌, List, ℕ, Option, length, drop, ap, sym, subst, arith}
use Rattle.qs_canon.specs.working.CanonNumbers.{AllAre}
use Rattle.qs_canon.specs.working.CanonSteps.{stage_of}
use Rattle.qs_canon.proofs.CanonEnd.{some_arcs, some_nodes, is_numbering}
use Rattle.qs_canon.proofs.numbers.Numbers.into_numbering.Goals as goal

pub all_of-requires : goal.all_of-requires
all_of-requires c =
    let (ns, a) = some_arcs c.args.end.now.machine c.args.self.arcs.items c.args.self.nodes.items (stage_of c.args.self.last_node c.args.self.edges.items c.args.self.placed.items) c.requires in
    (ns, subst (λ (xs : List (Option ℕ)). AllAre xs ns) (sym c.deref.ensures.value) a)

pub without_first-requires : goal.without_first-requires
without_first-requires c =
    omega (arith, ap (λ (xs : List (Option ℕ)). length xs) c.deref-2.ensures.value, c.requires.between.nodes_each)

pub all_of-requires-2 : goal.all_of-requires-2
all_of-requires-2 c =
    let (ns, a) = some_nodes c.args.end.now.machine c.args.self.arcs.items c.args.self.nodes.items (stage_of c.args.self.last_node c.args.self.edges.items c.args.self.placed.items) c.requires in
    let is = c.without_first.ensures ∙ ap (λ (xs : List (Option ℕ)). drop 1 xs) c.deref-2.ensures.value in
    (ns, subst (λ (xs : List (Option ℕ)). AllAre xs ns) (sym is) a)

pub returns : goal.returns
returns c =
    let is = c.without_first.ensures ∙ ap (λ (xs : List (Option ℕ)). drop 1 xs) c.deref-2.ensures.value in
    is_numbering c.args.end.now.machine c.args.self.arcs.items c.args.self.nodes.items (stage_of c.args.self.last_node c.args.self.edges.items c.args.self.placed.items) c.requires
    c.entry.result c.exit.result c.start_arcs.result c.entry.ensures.value c.exit.ensures c.start_arcs.ensures.value c.in_ok-all_of.field-0.items c.in_ok-all_of-2.field-0.items
    (subst (λ (xs : List (Option ℕ)). AllAre xs c.in_ok-all_of.field-0.items) c.deref.ensures.value c.in_ok-all_of.ensures)
    (subst (λ (xs : List (Option ℕ)). AllAre xs c.in_ok-all_of-2.field-0.items) is c.in_ok-all_of-2.ensures)
