-- Small runs of the machine of steps, worked out.
use Rattle.std.proofs.Common.{◌≡◌, ℕ, zero, suc, ◌≤◌, false, List, [], ◌∷◌, take, refl, sym, ap, subst, inl, ⊎_elim, arith, Some, None, slice_get}
use Rattle.qs_tree.specs.Lists.{◌∈◌}
use Rattle.qs_tree.specs.declared.cell.Label.{Label}
use Rattle.qs_pattern.specs.Rules.{Rule}
use Rattle.qs_graph.specs.Graphs.{Arc, QGraph}
use Rattle.qs_firing.specs.Firings.{Firing}
use Rattle.qs_firing.specs.Work.{IsGreatest, Work}
use Rattle.qs_core.specs.declared.step.Status.{Status}
use Rattle.qs_core.specs.declared.step.Status.TheVariants as status
use Rattle.qs_core.specs.declared.step.Stop.TheVariants as stop
use Rattle.qs_core.specs.Core.{CoreState, IsFree, IsClosed, opening, fired}
use Rattle.qs_core.specs.Runs.{Steps, Run}
use Rattle.qs_core.proofs.Twins.{HasEnds}
use Rattle.qs_canon.specs.Rounds.{Round, firings, Needs}
use Rattle.qs_canon.specs.Carrying.{AreSame}
use Rattle.qs_canon.specs.Merging.{A, C, arc, either, two_arcs, either_closure}
use Rattle.qs_canon.specs.RunExamples.{base, fired_on, closing_journal, closed_state, stopped_journal, stopped_state}
use Rattle.qs_canon.proofs.Existence.{the_round-is, has_rounds}
use Rattle.qs_canon.proofs.MergingClosures.{either-class, either-closes}
use Rattle.qs_canon.proofs.Runs.{closed_run, over_needs}

-- the work of an arc is the round over the arcs up to this one where the firings on those before it are done
abbrev up_to : ℕ → List Arc → QGraph
up_to m arcs = record { nodes = 0; arcs = take (suc m) arcs }

work_by : (R : List Rule) (arcs : List Arc) (m : ℕ) (before F : List Firing) → Round R (up_to m arcs) before F → ((f : Firing) → f ∈ before → m ∈ f.path → ⊥) → ((f : Firing) → f ∈ F → IsGreatest f.path m) → Work R arcs m F
work_by R arcs m before F r older newest = record {
  ascends = r.ascends;
  sound = λ f i. record { fires = r.fires f i; greatest = newest f i };
  complete = λ f w. ⊎_elim (λ i. absurd (older f i w.greatest.member)) (λ i. i) (r.all f w.fires);
}

-- a firing on one arc
abbrev on : ℕ → ℕ → Firing
on r k = record { rule = r; path = k ∷ []; values = [] }

on_greatest : (r k : ℕ) (f : Firing) → f ∈ (on r k ∷ []) → IsGreatest f.path k
on_greatest r k f i =
    let e : f ≡ on r k = ⊎_elim (λ x. x) (λ b. absurd b) i in
    subst (λ (g : Firing). IsGreatest g.path k) (sym e) (record { member = inl refl; at_most = λ j h. ⊎_elim (λ d. omega arith) (λ b. absurd b) h })

on_other : (r k m : ℕ) → (m ≡ k → ⊥) → (f : Firing) → f ∈ (on r k ∷ []) → m ∈ f.path → ⊥
on_other r k m other f i j =
    let e : f ≡ on r k = ⊎_elim (λ x. x) (λ b. absurd b) i in
    ⊎_elim other (λ b. absurd b) (subst (λ (g : Firing). m ∈ g.path) e j)

first_work : Work either two_arcs.arcs 1 (on 1 1 ∷ [])
first_work = work_by either two_arcs.arcs 1 (on 0 0 ∷ []) (on 1 1 ∷ []) (the_round-is either either-class (up_to 1 two_arcs.arcs) (on 0 0 ∷ []))
    (on_other 0 0 1 (λ e. omega arith)) (on_greatest 1 1)

work_0 : Work either either_closure.graph.arcs 0 (on 0 0 ∷ [])
work_0 = work_by either either_closure.graph.arcs 0 [] (on 0 0 ∷ []) (the_round-is either either-class (up_to 0 either_closure.graph.arcs) []) (λ f i. absurd i) (on_greatest 0 0)

work_1 : Work either either_closure.graph.arcs 1 (on 1 1 ∷ [])
work_1 = work_by either either_closure.graph.arcs 1 (on 0 0 ∷ []) (on 1 1 ∷ []) (the_round-is either either-class (up_to 1 either_closure.graph.arcs) (on 0 0 ∷ []))
    (on_other 0 0 1 (λ e. omega arith)) (on_greatest 1 1)

work_2 : Work either either_closure.graph.arcs 2 []
work_2 = work_by either either_closure.graph.arcs 2 (on 0 0 ∷ on 1 1 ∷ []) [] (the_round-is either either-class (up_to 2 either_closure.graph.arcs) (on 0 0 ∷ on 1 1 ∷ []))
    (λ f i j. ⊎_elim (λ e. on_other 0 0 2 (λ d. omega arith) f (inl e) j) (λ k. on_other 1 1 2 (λ d. omega arith) f k j) i)
    (λ f i. absurd i)

-- the states on the way
abbrev S1 : CoreState
S1 = record { graph = two_arcs; done = []; status = status.Waiting ∷ status.Claimed 0 0 ∷ []; stop = None }

abbrev S2 : CoreState
S2 = record { graph = either_closure.graph; done = fired_on 1 1 2 false ∷ []; status = status.Waiting ∷ status.Claimed 0 1 ∷ status.Waiting ∷ []; stop = None }

abbrev S3 : CoreState
S3 = record { graph = either_closure.graph; done = fired_on 1 1 2 false ∷ []; status = status.Claimed 0 0 ∷ status.Done ∷ status.Waiting ∷ []; stop = None }

abbrev S4 : CoreState
S4 = record { graph = either_closure.graph; done = closed_state.done; status = status.Claimed 0 1 ∷ status.Done ∷ status.Waiting ∷ []; stop = None }

abbrev S5 : CoreState
S5 = record { graph = either_closure.graph; done = closed_state.done; status = status.Done ∷ status.Done ∷ status.Claimed 0 0 ∷ []; stop = None }

module _ (limit : ℕ) where
  free_0 : IsFree (base limit) (opening (base limit)) 0
  free_0 zero k e = absurd cc
  free_0 (suc zero) k e = absurd cc
  free_0 (suc (suc m)) k e = absurd cc

  free_2 : IsFree (base limit) S2 0
  free_2 zero k e = absurd cc
  free_2 (suc zero) k e = let d : k ≡ 1 = cc in record { work = on 1 1 ∷ []; is = work_1; all = d }
  free_2 (suc (suc zero)) k e = absurd cc
  free_2 (suc (suc (suc m))) k e = absurd cc

  free_4 : IsFree (base limit) S4 0
  free_4 zero k e = let d : k ≡ 1 = cc in record { work = on 0 0 ∷ []; is = work_0; all = d }
  free_4 (suc zero) k e = absurd cc
  free_4 (suc (suc zero)) k e = absurd cc
  free_4 (suc (suc (suc m))) k e = absurd cc

  free_5 : IsFree (base limit) S5 0
  free_5 zero k e = absurd cc
  free_5 (suc zero) k e = absurd cc
  free_5 (suc (suc zero)) k e = let d : k ≡ 0 = cc in record { work = []; is = work_2; all = d }
  free_5 (suc (suc (suc m))) k e = absurd cc

none_waits : (m : ℕ) → slice_get S5.status m ≡ Some status.Waiting → ⊥
none_waits zero e = cc
none_waits (suc zero) e = cc
none_waits (suc (suc zero)) e = cc
none_waits (suc (suc (suc m))) e = cc

closing_steps : Steps (base 2) (opening (base 2)) closing_journal closed_state
closing_steps = (
  S1,
  (record { going = refl; seat = omega arith; waits = refl; free = free_0 2 }, refl),
  (
    S2,
    (record { going = refl; seat = omega arith; next = record { arc = 1; k = 0; claim = refl; work = on 1 1 ∷ []; is = first_work; firing = on 1 1; at = refl }; few = omega arith }, refl),
    (
      S3,
      (record { going = refl; seat = omega arith; waits = refl; free = free_2 2 }, refl),
      (
        S4,
        (record { going = refl; seat = omega arith; next = record { arc = 0; k = 0; claim = refl; work = on 0 0 ∷ []; is = work_0; firing = on 0 0; at = refl }; few = omega arith }, refl),
        (
          S5,
          (record { going = refl; seat = omega arith; waits = refl; free = free_4 2 }, refl),
          (
            closed_state,
            (record { going = refl; seat = omega arith; none_waits = none_waits; arc = 2; k = 0; claim = refl; free = free_5 2 }, refl),
            refl,
          ),
        ),
      ),
    ),
  ),
)

pub closing_run : Run (base 2) closing_journal None closed_state
closing_run = record { going = closed_state; steps = closing_steps; stop = refl }

pub is_closed : IsClosed closed_state
is_closed = record { going = refl; all = all_done }
  where
    all_done : (m : ℕ) (s : Status) → slice_get closed_state.status m ≡ Some s → s ≡ status.Done
    all_done zero s e = cc
    all_done (suc zero) s e = cc
    all_done (suc (suc zero)) s e = cc
    all_done (suc (suc (suc m))) s e = absurd cc

stopped_steps : Steps (base 1) (opening (base 1)) stopped_journal S3
stopped_steps = (
  S1,
  (record { going = refl; seat = omega arith; waits = refl; free = free_0 1 }, refl),
  (
    S2,
    (record { going = refl; seat = omega arith; next = record { arc = 1; k = 0; claim = refl; work = on 1 1 ∷ []; is = first_work; firing = on 1 1; at = refl }; few = omega arith }, refl),
    (
      S3,
      (record { going = refl; seat = omega arith; waits = refl; free = free_2 1 }, refl),
      refl,
    ),
  ),
)

pub stopped_run : Run (base 1) stopped_journal (Some (stop.Over 0)) stopped_state
stopped_run = record {
  going = S3;
  steps = stopped_steps;
  stop = (record { going = refl; seat = omega arith; next = record { arc = 0; k = 0; claim = refl; work = on 0 0 ∷ []; is = work_0; firing = on 0 0; at = refl }; full = refl }, refl);
}

-- the ends of both arcs are nodes
ends : HasEnds two_arcs
ends x i = ⊎_elim (λ e. at A e) (λ j. ⊎_elim (λ e. at C e) (λ b. absurd b) j) i
  where
    at : (l : Label) → x ≡ arc 1 l 2 → (x.from ≤ 2) × (x.to ≤ 2)
    at l e = (omega (arith, ap (λ (y : Arc). y.from) e), omega (arith, ap (λ (y : Arc). y.to) e))

pub same : AreSame either two_arcs (fired closed_state) closed_state.graph (firings either_closure) either_closure.graph
same = closed_run (base 2) ends closing_journal None closed_state closing_run is_closed either_closure either-closes

pub needs : Needs either two_arcs 1
needs = over_needs (base 1) ends stopped_journal (Some (stop.Over 0)) stopped_state stopped_run (has_rounds either either-class) 0 refl
