use Rattle.std.proofs.Common.{◌+◌, ◌++◌, ◌∙◌, ap, sym, subst, arith, slice_get, set, length, replicate, [], ◌∷◌}
use Rattle.std.specs.Arc.{arc_value}
use Rattle.qs_graph.proofs.Paths.{slice_get-append}
use Rattle.qs_firing.specs.Adding.{first_arc}
use Rattle.qs_firing.specs.Work.{WithTrees}
use Rattle.qs_core.specs.declared.step.Step.TheVariants as step
use Rattle.qs_core.specs.declared.step.Status.TheVariants as status
use Rattle.qs_core.specs.Core.{Fired, after_publish}
use Rattle.qs_core.specs.Runs.{Machine, MachineWithRoom, with_step}
use Rattle.qs_core.specs.Machines.{machine_from, IsSound}
use Rattle.qs_core.specs.working.Additions.{IsAddition}
use Rattle.qs_core.proofs.Publishing.{asked, its_path, its_trees, its_nodes, its_number, each_status, addition, nodes_fit, arcs_fit, its_list, its_fired, still_sound, published}
use Rattle.qs_core.proofs.state.State.add_firing.Goals as goal

pub added_by-requires-clause-path : goal.added_by-requires-clause-path
added_by-requires-clause-path c =
    let s = c.self.inside in
    let M = machine_from (arc_value s.rules).items s.start_nodes s.start_arcs s.limit s.arcs s.statuses s.fired.items s.journal.items s.stop in
    let same = ap (λ (x : MachineWithRoom). x.machine) c.self.view_is in
    let a = asked M c.args.self.now.machine s.entry s.exit s.start_arcs s.unique c.args.seat c.args.k c.args.work.now c.made.result.now c.index-made-k.result same c.self.invariant
    c.requires.going c.requires.few c.requires.claim c.requires.more c.requires.right c.made.ensures c.index-made-k.is in
    its_path a

pub added_by-requires-clause-some : goal.added_by-requires-clause-some
added_by-requires-clause-some c =
    let s = c.self.inside in
    let M = machine_from (arc_value s.rules).items s.start_nodes s.start_arcs s.limit s.arcs s.statuses s.fired.items s.journal.items s.stop in
    let same = ap (λ (x : MachineWithRoom). x.machine) c.self.view_is in
    let a = asked M c.args.self.now.machine s.entry s.exit s.start_arcs s.unique c.args.seat c.args.k c.args.work.now c.made.result.now c.index-made-k.result same c.self.invariant
    c.requires.going c.requires.few c.requires.claim c.requires.more c.requires.right c.made.ensures c.index-made-k.is in
    its_trees a

pub added_by-requires-clause-nodes : goal.added_by-requires-clause-nodes
added_by-requires-clause-nodes c =
    let s = c.self.inside in
    let M = machine_from (arc_value s.rules).items s.start_nodes s.start_arcs s.limit s.arcs s.statuses s.fired.items s.journal.items s.stop in
    let same = ap (λ (x : MachineWithRoom). x.machine) c.self.view_is in
    let a = asked M c.args.self.now.machine s.entry s.exit s.start_arcs s.unique c.args.seat c.args.k c.args.work.now c.made.result.now c.index-made-k.result same c.self.invariant
    c.requires.going c.requires.few c.requires.claim c.requires.more c.requires.right c.made.ensures c.index-made-k.is in
    its_nodes a

pub grow-requires-clause-nodes : goal.grow-requires-clause-nodes
grow-requires-clause-nodes c =
    let s = c.self.inside in
    let M = machine_from (arc_value s.rules).items s.start_nodes s.start_arcs s.limit s.arcs s.statuses s.fired.items s.journal.items s.stop in
    let same = ap (λ (x : MachineWithRoom). x.machine) c.self.view_is in
    let a = asked M c.args.self.now.machine s.entry s.exit s.start_arcs s.unique c.args.seat c.args.k c.args.work.now c.made.result.now c.index-made-k.result same c.self.invariant
    c.requires.going c.requires.few c.requires.claim c.requires.more c.requires.right c.made.ensures c.index-made-k.is in
    let added = c.in_ok-added.added in
    let add = addition a added.first added.met added.nodes added.edges.items c.in_ok-added.ensures in
    nodes_fit a added.first added.met added.nodes added.edges.items add

pub grow-requires-clause-arcs : goal.grow-requires-clause-arcs
grow-requires-clause-arcs c =
    let s = c.self.inside in
    let M = machine_from (arc_value s.rules).items s.start_nodes s.start_arcs s.limit s.arcs s.statuses s.fired.items s.journal.items s.stop in
    let same = ap (λ (x : MachineWithRoom). x.machine) c.self.view_is in
    let a = asked M c.args.self.now.machine s.entry s.exit s.start_arcs s.unique c.args.seat c.args.k c.args.work.now c.made.result.now c.index-made-k.result same c.self.invariant
    c.requires.going c.requires.few c.requires.claim c.requires.more c.requires.right c.made.ensures c.index-made-k.is in
    let added = c.in_ok-added.added in
    let edges = c.deref.result.now in
    let add = subst (λ xs. IsAddition (arc_value s.rules).items s.arcs c.index-made-k.result.firing added.first added.met added.nodes xs) (sym c.deref.ensures.value)
    (addition a added.first added.met added.nodes added.edges.items c.in_ok-added.ensures) in
    arcs_fit a added.first added.met added.nodes edges add

pub grow-requires-clause-statuses : goal.grow-requires-clause-statuses
grow-requires-clause-statuses c =
    let s = c.self.inside in
    let M = machine_from (arc_value s.rules).items s.start_nodes s.start_arcs s.limit s.arcs s.statuses s.fired.items s.journal.items s.stop in
    let same = ap (λ (x : MachineWithRoom). x.machine) c.self.view_is in
    let a = asked M c.args.self.now.machine s.entry s.exit s.start_arcs s.unique c.args.seat c.args.k c.args.work.now c.made.result.now c.index-made-k.result same c.self.invariant
    c.requires.going c.requires.few c.requires.claim c.requires.more c.requires.right c.made.ensures c.index-made-k.is in
    each_status a

pub overflow_add-k : goal.overflow_add-k
overflow_add-k c =
    let s = c.self.inside in
    let M = machine_from (arc_value s.rules).items s.start_nodes s.start_arcs s.limit s.arcs s.statuses s.fired.items s.journal.items s.stop in
    let same = ap (λ (x : MachineWithRoom). x.machine) c.self.view_is in
    let a = asked M c.args.self.now.machine s.entry s.exit s.start_arcs s.unique c.args.seat c.args.k c.args.work.now c.made.result.now c.index-made-k.result same c.self.invariant
    c.requires.going c.requires.few c.requires.claim c.requires.more c.requires.right c.made.ensures c.index-made-k.is in
    omega (arith, its_number a)

pub publish-requires : goal.publish-requires
publish-requires c =
    let s = c.self.inside in
    let M = machine_from (arc_value s.rules).items s.start_nodes s.start_arcs s.limit s.arcs s.statuses s.fired.items s.journal.items s.stop in
    let same = ap (λ (x : MachineWithRoom). x.machine) c.self.view_is in
    let a = asked M c.args.self.now.machine s.entry s.exit s.start_arcs s.unique c.args.seat c.args.k c.args.work.now c.made.result.now c.index-made-k.result same c.self.invariant
    c.requires.going c.requires.few c.requires.claim c.requires.more c.requires.right c.made.ensures c.index-made-k.is in (
      c.args.k,
      (λ j. slice_get (c.in_ok-grow.ensures.statuses j).list (c.arc.ensures j))
          ∙ slice_get-append s.statuses.list (replicate (length c.deref.result.now) status.Waiting) c.args.work.now.arc (status.Claimed c.args.seat c.args.k) a.claim,
    )

pub invariant_of-self-2 : goal.invariant_of-self-2
invariant_of-self-2 c =
    let s = c.self.inside in
    let M = machine_from (arc_value s.rules).items s.start_nodes s.start_arcs s.limit s.arcs s.statuses s.fired.items s.journal.items s.stop in
    let same = ap (λ (x : MachineWithRoom). x.machine) c.self.view_is in
    let a = asked M c.args.self.now.machine s.entry s.exit s.start_arcs s.unique c.args.seat c.args.k c.args.work.now c.made.result.now c.index-made-k.result same c.self.invariant
    c.requires.going c.requires.few c.requires.claim c.requires.more c.requires.right c.made.ensures c.index-made-k.is in
    let added = c.in_ok-added.added in
    let edges = c.deref.result.now in
    let add = subst (λ xs. IsAddition (arc_value s.rules).items s.arcs c.index-made-k.result.firing added.first added.met added.nodes xs) (sym c.deref.ensures.value)
    (addition a added.first added.met added.nodes added.edges.items c.in_ok-added.ensures) in
    let made = c.index-made-k.result in
    let seat = c.args.seat in
    let k = c.args.k in
    let clone = c.in_ok-try_clone.ensures ∙ ap (λ (m : WithTrees). m.firing) c.made-2.view_is in
    let table = c.publish.ensures
    ∙ (λ j. record { list = set (c.in_ok-grow.ensures.statuses j).list (c.arc.ensures j) (status.Claimed seat (k + 1)); seats = (c.in_ok-grow.ensures.statuses j).seats })
    ∙ (λ j. record { list = its_list a added.first added.met added.nodes edges add j; seats = s.statuses.seats }) in
    let done = c.push_reserved.ensures.items
    ∙ (λ j. c.in_ok-reserve-2.ensures.items j ++ record { firing = clone j; first = added.first; met = added.met } ∷ [])
    ∙ ap (λ (f : Fired). s.fired.items ++ f ∷ []) (its_fired a added.first added.met added.nodes edges add) in
    let journal = c.push_reserved-2.ensures.items ∙ ap (λ xs. xs ++ step.Publish seat ∷ []) c.in_ok-reserve.ensures.items in
    let is = published (arc_value s.rules).items s.start_nodes s.start_arcs s.limit s.arcs s.statuses s.fired.items s.journal.items s.stop made.firing seat c.args.work.now.arc k
    c.grow.new.arcs c.publish.new.self c.push_reserved.new.self.items c.push_reserved-2.new.self.items
    c.self.invariant.arcs_is (c.in_ok-grow.ensures.arcs ∙ add.graph_is) table done journal in
    subst (λ (m : Machine). IsSound m s.entry s.exit s.start_arcs s.unique) (sym is) (still_sound a added.first added.met added.nodes edges add)

pub returns-clause-ok : goal.returns-clause-ok
returns-clause-ok c =
    let s = c.self.inside in
    let M = machine_from (arc_value s.rules).items s.start_nodes s.start_arcs s.limit s.arcs s.statuses s.fired.items s.journal.items s.stop in
    let same = ap (λ (x : MachineWithRoom). x.machine) c.self.view_is in
    let a = asked M c.args.self.now.machine s.entry s.exit s.start_arcs s.unique c.args.seat c.args.k c.args.work.now c.made.result.now c.index-made-k.result same c.self.invariant
    c.requires.going c.requires.few c.requires.claim c.requires.more c.requires.right c.made.ensures c.index-made-k.is in
    let added = c.in_ok-added.added in
    let edges = c.deref.result.now in
    let add = subst (λ xs. IsAddition (arc_value s.rules).items s.arcs c.index-made-k.result.firing added.first added.met added.nodes xs) (sym c.deref.ensures.value)
    (addition a added.first added.met added.nodes added.edges.items c.in_ok-added.ensures) in
    let made = c.index-made-k.result in
    let seat = c.args.seat in
    let k = c.args.k in
    let clone = c.in_ok-try_clone.ensures ∙ ap (λ (m : WithTrees). m.firing) c.made-2.view_is in
    let table = c.publish.ensures
    ∙ (λ j. record { list = set (c.in_ok-grow.ensures.statuses j).list (c.arc.ensures j) (status.Claimed seat (k + 1)); seats = (c.in_ok-grow.ensures.statuses j).seats })
    ∙ (λ j. record { list = its_list a added.first added.met added.nodes edges add j; seats = s.statuses.seats }) in
    let done = c.push_reserved.ensures.items
    ∙ (λ j. c.in_ok-reserve-2.ensures.items j ++ record { firing = clone j; first = added.first; met = added.met } ∷ [])
    ∙ ap (λ (f : Fired). s.fired.items ++ f ∷ []) (its_fired a added.first added.met added.nodes edges add) in
    let journal = c.push_reserved-2.ensures.items ∙ ap (λ xs. xs ++ step.Publish seat ∷ []) c.in_ok-reserve.ensures.items in
    let is = published (arc_value s.rules).items s.start_nodes s.start_arcs s.limit s.arcs s.statuses s.fired.items s.journal.items s.stop made.firing seat c.args.work.now.arc k
    c.grow.new.arcs c.publish.new.self c.push_reserved.new.self.items c.push_reserved-2.new.self.items
    c.self.invariant.arcs_is (c.in_ok-grow.ensures.arcs ∙ add.graph_is) table done journal in (
      c.requires.going,
      c.requires.few,
      (
        made,
        a.at,
        add.first_is ∙ ap (λ (m : Machine). first_arc m.base.rules m.state.graph made.firing) same,
        is ∙ ap (λ (m : Machine). with_step m (step.Publish seat) (after_publish m.base.rules m.state seat c.args.work.now.arc k made.firing)) same,
      ),
    )
