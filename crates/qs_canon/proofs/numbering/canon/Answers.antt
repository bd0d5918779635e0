use Rattle.std.proofs.Common.{◌≡◌, ℕ, suc, ◌+◌, ◌<◌, List, [], length, get_or, drop, map, refl, sym, ap, ◌∙◌, subst, arith, Global}
use Rattle.std.specs.declared.vec.Vec.{Vec}
use Rattle.std.proofs.lemmas.Bool.Decides.{nat_tests}
use Rattle.std.proofs.lemmas.List.{nil_from_length}
use Rattle.std.proofs.lemmas.List.Sorted.{length_permutation}
use Rattle.qs_tree.specs.Lists.{◌∈◌}
use Rattle.qs_core.specs.Core.{Fired}
use Rattle.qs_graph.specs.working.Orders.{times}
use Rattle.qs_canon.specs.working.CanonCounts.{paths_of, AreUsers, uses, AreCountedDown}
use Rattle.qs_canon.specs.working.CanonNumbers.{table_of, IsReadyAt, AreInNumbers}
use Rattle.qs_canon.specs.working.CanonSteps.{stage_now, IsRounding}
use Rattle.qs_canon.proofs.CanonPassed.{written_over}
use Rattle.qs_canon.proofs.CanonRounds.{path_low, rounding_first, enough, within, rounds_fit, ready_named, ready_long, each_recorded, starts, placed_more, placed_few, rounding_next, all_done}
use Rattle.qs_canon.proofs.numbering.canon.Goals.{In_ok-firings}
use Rattle.qs_canon.proofs.numbering.canon.Goals as goal

pub users_of-requires-clause-arcs : goal.users_of-requires-clause-arcs
users_of-requires-clause-arcs c = λ path i k j.
    let low = path_low c.args.end.now.machine c.all_done-fired.ensures.finished path (subst (λ (ds : List Fired). path ∈ paths_of ds) c.all_done-fired.ensures.value i) k j in
    omega (arith, low, c.arcs.ensures)

pub rounds-init : goal.rounds-init
rounds-init c =
    rounding_first c.args.end.now.machine c.all_done-fired.ensures.finished c.in_ok-users.users.items
    (subst (λ (ds : List Fired). AreUsers (paths_of ds) c.in_ok-users.users.items) c.all_done-fired.ensures.value c.in_ok-users.ensures.users)
    c.in_ok-missing.missing.items (c.in_ok-missing.ensures ∙ ap (λ (ds : List Fired). map (λ (path : List ℕ). length path) (paths_of ds)) c.all_done-fired.ensures.value)
    c.in_ok-numbers.numbers c.in_ok-numbers.ensures.between c.in_ok-numbers.ensures.origins

pub pass-requires-clause-arcs : goal.pass-requires-clause-arcs
pass-requires-clause-arcs c = λ k i.
    let low = within c.args.end.now.machine c.in_ok-users.users.items c.rounds.numbers c.rounds.missing.items c.rounds.passed c.rounds.round c.rounds.invariant k (subst (λ (ks : List ℕ). k ∈ ks) c.origins_from.ensures i) in
    let l = ap (λ (us : List (Vec ℕ Global)). length us) c.deref.ensures.value in
    omega (arith, low, l, c.in_ok-users.ensures.len, c.arcs.ensures)

pub pass-requires-clause-enough : goal.pass-requires-clause-enough
pass-requires-clause-enough c = λ i.
    let e = enough c.args.end.now.machine c.in_ok-users.users.items c.rounds.numbers c.rounds.missing.items c.rounds.passed c.rounds.round c.rounds.invariant i in
    let u = ap (λ (us : List (Vec ℕ Global)). times i (uses us c.origins_from.result.now)) c.deref.ensures.value in
    let o = ap (λ (ks : List ℕ). times i (uses c.in_ok-users.users.items ks)) c.origins_from.ensures in
    let m = ap (λ (ns : List ℕ). get_or ns i 0) c.deref_mut.ensures.value in
    omega (arith, e, u, o, m)

pub into_numbering-requires : goal.into_numbering-requires
into_numbering-requires c =
    let counted = subst (λ (ns : List ℕ). AreCountedDown ns (uses c.in_ok-users.users.items (drop c.rounds.passed c.rounds.numbers.origins.items)) c.pass.new.missing [] c.in_ok-ready.ready.items) c.deref_mut.ensures.value
    (subst (λ (ks : List ℕ). AreCountedDown c.deref_mut.result.now (uses c.in_ok-users.users.items ks) c.pass.new.missing [] c.in_ok-ready.ready.items) c.origins_from.ensures
    (subst (λ (us : List (Vec ℕ Global)). AreCountedDown c.deref_mut.result.now (uses us c.origins_from.result.now) c.pass.new.missing [] c.in_ok-ready.ready.items) c.deref.ensures.value c.in_ok-ready.ensures)) in
    let none : length c.in_ok-ready.ready.items ≡ 0 = grind (arith, nat_tests, c.if-is_empty.ensures, c.in_ok-ready.ready.ok.0) in
    all_done c.args.end.now.machine c.in_ok-users.users.items c.rounds.numbers c.rounds.missing.items c.rounds.passed c.rounds.round c.rounds.invariant c.pass.new.missing c.in_ok-ready.ready.items counted (nil_from_length c.in_ok-ready.ready.items none)

pub overflow_add-round : goal.overflow_add-round
overflow_add-round c = omega (arith, rounds_fit c.args.end.now.machine c.in_ok-users.users.items c.rounds.numbers c.rounds.missing.items c.rounds.passed c.rounds.round c.rounds.invariant)

pub in_numbers-requires : goal.in_numbers-requires
in_numbers-requires c = λ i j.
    let counted = subst (λ (ns : List ℕ). AreCountedDown ns (uses c.in_ok-users.users.items (drop c.rounds.passed c.rounds.numbers.origins.items)) c.pass.new.missing [] c.in_ok-ready.ready.items) c.deref_mut.ensures.value
    (subst (λ (ks : List ℕ). AreCountedDown c.deref_mut.result.now (uses c.in_ok-users.users.items ks) c.pass.new.missing [] c.in_ok-ready.ready.items) c.origins_from.ensures
    (subst (λ (us : List (Vec ℕ Global)). AreCountedDown c.deref_mut.result.now (uses us c.origins_from.result.now) c.pass.new.missing [] c.in_ok-ready.ready.items) c.deref.ensures.value c.in_ok-ready.ensures)) in
    subst (λ (ds : List Fired). IsReadyAt (table_of c.rounds.numbers.arcs.items) ds i) (sym c.all_done-fired.ensures.value)
    (ready_named c.args.end.now.machine c.in_ok-users.users.items c.rounds.numbers c.rounds.missing.items c.rounds.passed c.rounds.round c.rounds.invariant c.pass.new.missing c.in_ok-ready.ready.items counted i (subst (λ (is : List ℕ). i ∈ is) c.deref-in-rounds.ensures.value j))

-- what a round counts down, what its firings are, and that it has some
counted : (c : In_ok-firings)
    → AreCountedDown c.rounds.missing.items (uses c.in_ok-users.users.items (drop c.rounds.passed c.rounds.numbers.origins.items)) c.pass.new.missing [] c.in_ok-ready.ready.items
counted c =
    subst (λ (ns : List ℕ). AreCountedDown ns (uses c.in_ok-users.users.items (drop c.rounds.passed c.rounds.numbers.origins.items)) c.pass.new.missing [] c.in_ok-ready.ready.items) c.deref_mut.ensures.value
    (subst (λ (ks : List ℕ). AreCountedDown c.deref_mut.result.now (uses c.in_ok-users.users.items ks) c.pass.new.missing [] c.in_ok-ready.ready.items) c.origins_from.ensures
    (subst (λ (us : List (Vec ℕ Global)). AreCountedDown c.deref_mut.result.now (uses us c.origins_from.result.now) c.pass.new.missing [] c.in_ok-ready.ready.items) c.deref.ensures.value c.in_ok-ready.ensures))

are : (c : In_ok-firings) → AreInNumbers (table_of c.rounds.numbers.arcs.items) c.args.end.now.machine.state.done c.in_ok-ready.ready.items c.in_ok-in_numbers.field-0.items
are c =
    subst (λ (is : List ℕ). AreInNumbers (table_of c.rounds.numbers.arcs.items) c.args.end.now.machine.state.done is c.in_ok-in_numbers.field-0.items) c.deref-in-rounds.ensures.value
    (subst (λ (ds : List Fired). AreInNumbers (table_of c.rounds.numbers.arcs.items) ds c.deref-in-rounds.result.now c.in_ok-in_numbers.field-0.items) c.all_done-fired.ensures.value c.in_ok-in_numbers.ensures)

some : (c : In_ok-firings) → 0 < length c.in_ok-firings.firings.items
some c =
    let ready : 0 < length c.in_ok-ready.ready.items = grind (arith, nat_tests, c.if-is_empty.ensures, c.in_ok-ready.ready.ok.0) in
    let a = ready_long (table_of c.rounds.numbers.arcs.items) c.args.end.now.machine.state.done c.in_ok-ready.ready.items c.in_ok-in_numbers.field-0.items (are c) in
    let p = length_permutation c.in_ok-in_numbers.field-0.items c.in_ok-firings.firings.items c.in_ok-firings.ensures.permutation in
    omega (arith, ready, a, p)

pub do_round-requires-clause-at_work : goal.do_round-requires-clause-at_work
do_round-requires-clause-at_work c =
    let b = (goal.at.do_round-requires-clause-at_work c).In_ok-firings in
    (c.rounds.round, stage_now c.rounds.numbers, refl, starts c.args.end.now.machine c.in_ok-users.users.items c.rounds.numbers c.rounds.missing.items c.rounds.passed c.rounds.round c.rounds.invariant c.pass.new.missing c.in_ok-ready.ready.items (counted b) c.in_ok-in_numbers.field-0.items c.in_ok-firings.firings.items (are b) c.in_ok-firings.ensures.permutation c.in_ok-firings.ensures.rises)

pub do_round-requires-clause-recorded : goal.do_round-requires-clause-recorded
do_round-requires-clause-recorded c =
    let b = (goal.at.do_round-requires-clause-recorded c).In_ok-firings in
    each_recorded c.args.end.now.machine c.in_ok-users.users.items c.rounds.numbers c.rounds.missing.items c.rounds.passed c.rounds.round c.rounds.invariant c.pass.new.missing c.in_ok-ready.ready.items (counted b) c.in_ok-in_numbers.field-0.items c.in_ok-firings.firings.items (are b) c.in_ok-firings.ensures.permutation c.in_ok-firings.ensures.rises

-- so that the firings are done, and the rounds get on
pub rounds-smaller : goal.rounds-smaller
rounds-smaller c =
    let b = (goal.at.rounds-smaller c).In_ok-firings in
    let w = c.in_ok-do_round.ensures.work c.rounds.round (stage_now c.rounds.numbers) refl (starts c.args.end.now.machine c.in_ok-users.users.items c.rounds.numbers c.rounds.missing.items c.rounds.passed c.rounds.round c.rounds.invariant c.pass.new.missing c.in_ok-ready.ready.items (counted b) c.in_ok-in_numbers.field-0.items c.in_ok-firings.firings.items (are b) c.in_ok-firings.ensures.permutation c.in_ok-firings.ensures.rises) in
    let more = placed_more c.args.end.now.machine c.in_ok-users.users.items c.rounds.numbers c.rounds.missing.items c.rounds.passed c.rounds.round c.rounds.invariant c.pass.new.missing c.in_ok-ready.ready.items (counted b) c.in_ok-in_numbers.field-0.items c.in_ok-firings.firings.items (are b) c.in_ok-firings.ensures.permutation c.in_ok-firings.ensures.rises c.do_round.new.self w c.in_ok-do_round.ensures.stay (some b) in
    let few = placed_few c.args.end.now.machine c.in_ok-users.users.items c.rounds.numbers c.rounds.missing.items c.rounds.passed c.rounds.round c.rounds.invariant c.pass.new.missing c.in_ok-ready.ready.items (counted b) c.in_ok-in_numbers.field-0.items c.in_ok-firings.firings.items (are b) c.in_ok-firings.ensures.permutation c.in_ok-firings.ensures.rises c.do_round.new.self w c.in_ok-do_round.ensures.stay in
    omega (arith, more, few)

pub rounds-preserved : goal.rounds-preserved
rounds-preserved c =
    let b = (goal.at.rounds-preserved c).In_ok-firings in
    let w = c.in_ok-do_round.ensures.work c.rounds.round (stage_now c.rounds.numbers) refl (starts c.args.end.now.machine c.in_ok-users.users.items c.rounds.numbers c.rounds.missing.items c.rounds.passed c.rounds.round c.rounds.invariant c.pass.new.missing c.in_ok-ready.ready.items (counted b) c.in_ok-in_numbers.field-0.items c.in_ok-firings.firings.items (are b) c.in_ok-firings.ensures.permutation c.in_ok-firings.ensures.rises) in
    let same = ap (λ (ns : List ℕ). length ns) c.deref_mut.ensures.value in
    let long : length c.pass.new.missing ≡ c.rounds.missing.len = omega (arith, same, c.rounds.missing.ok.0) in
    let next : suc c.rounds.round ≡ c.rounds.round + 1 = omega arith in
    let goes = rounding_next c.args.end.now.machine c.in_ok-users.users.items c.rounds.numbers c.rounds.missing.items c.rounds.passed c.rounds.round c.rounds.invariant c.pass.new.missing c.in_ok-ready.ready.items (counted b) c.in_ok-in_numbers.field-0.items c.in_ok-firings.firings.items (are b) c.in_ok-firings.ensures.permutation c.in_ok-firings.ensures.rises c.do_round.new.self w c.in_ok-do_round.ensures.stay (some b) in
    subst (λ (ns : List ℕ). IsRounding c.args.end.now.machine c.in_ok-users.users.items c.do_round.new.self ns c.arcs-passed.result (c.rounds.round + 1)) (sym (written_over c.pass.new.missing c.rounds.missing.items c.rounds.missing.len long))
    (subst (λ (m : ℕ). IsRounding c.args.end.now.machine c.in_ok-users.users.items c.do_round.new.self c.pass.new.missing m (c.rounds.round + 1)) (sym c.arcs-passed.ensures)
    (subst (λ (m : ℕ). IsRounding c.args.end.now.machine c.in_ok-users.users.items c.do_round.new.self c.pass.new.missing (length c.rounds.numbers.origins.items) m) next goes))
