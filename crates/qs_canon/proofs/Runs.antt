-- Runs of the machine of steps, and the rounds.
use Rattle.std.proofs.Common.{◌≡◌, ℕ, ◌+◌, ◌≤◌, List, [], ◌∷◌, ◌++◌, length, Option, Some, ⊎_elim, arith, length-append}
use Rattle.std.proofs.lemmas.List.{length-map}
use Rattle.qs_tree.proofs.Members.{in_at}
use Rattle.qs_firing.specs.Firings.{Firing}
use Rattle.qs_firing.specs.Adding.{adds}
use Rattle.qs_firing.proofs.Works.{fires_of_work}
use Rattle.qs_core.specs.declared.step.Step.{Step}
use Rattle.qs_core.specs.declared.step.Stop.{Stop}
use Rattle.qs_core.specs.declared.step.Stop.TheVariants as stop
use Rattle.qs_core.specs.Growth.{Grown, AllApart}
use Rattle.qs_core.specs.Core.{Base, CoreState, Fired, fired, IsClosed}
use Rattle.qs_core.specs.Runs.{Run}
use Rattle.qs_core.specs.Keeps.{Keeps}
use Rattle.qs_core.proofs.Growth.{grown_more, apart_more}
use Rattle.qs_core.proofs.Twins.{HasEnds}
use Rattle.qs_core.proofs.Runs.{keeps, closed_all, over_shows}
use Rattle.qs_canon.specs.Rounds.{HasRounds, Stage, firings, Rounds, Closes, ClosesWithin, Needs}
use Rattle.qs_canon.specs.Carrying.{IsCarried, AreSame}
use Rattle.qs_canon.proofs.Progress.{closes_or_needs}
use Rattle.qs_canon.proofs.Stages.{length-firings, rounds_grown, rounds_apart, closes_all}
use Rattle.qs_canon.proofs.Carried.{closed_partners}
use Rattle.qs_canon.proofs.Law.{no_more, are_same, arcs, nodes, is_carried}
use Rattle.qs_canon.proofs.Reached.{reached_partners}

module _ (B : Base) (ends : HasEnds B.start) (journal : List Step) (last : Option Stop) (T : CoreState) (run : Run B journal last T) where
  K : Keeps B T
  K = keeps B journal last T run

  length-fired : length (fired T) ≡ length T.done
  length-fired = length-map T.done (λ (d : Fired). d.firing)

  -- a run that ended closed is the closure up to numbering
  pub closed_run : IsClosed T → (C : Stage) → Closes B.rules B.start C → AreSame B.rules B.start (fired T) T.graph (firings C) C.graph
  closed_run c C closes =
      are_same B.rules B.start ends (fired T) (firings C) T.graph C.graph K.grown (rounds_grown B.rules B.start closes.rounds C closes.reached)
      K.once (rounds_apart B.rules B.start closes.rounds C closes.reached) (closed_all B T K c) (closes_all B.rules B.start C closes)

  -- and the rules need no more firings
  pub closed_needs : IsClosed T → Needs B.rules B.start B.limit → ⊥
  closed_needs c n =
      let g = rounds_grown B.rules B.start n.rounds n.stage n.reached in
      let few = no_more B.rules B.start ends (firings n.stage) (fired T) n.stage.graph T.graph g K.grown (rounds_apart B.rules B.start n.rounds n.stage n.reached) K.once
      (closed_partners B.rules B.start ends (firings n.stage) (fired T) n.stage.graph T.graph g K.grown K.once (closed_all B T K c)) in
      omega (arith, few, K.few, n.more, length-firings n.stage, length-fired)

  -- behind a run that was stopped because more firings are needed, one more could have been done
  pub over_more : (i : ℕ) → T.stop ≡ Some (stop.Over i) → (f : Firing) × Grown B.rules B.start (fired T ++ f ∷ []) (adds B.rules T.graph f) × AllApart (fired T ++ f ∷ []) × (length (fired T ++ f ∷ []) ≡ B.limit + 1)
  over_more i e =
      let (full, n) = over_shows B journal last T run i e in
      let fires = fires_of_work B.rules (n.is.sound n.firing (in_at n.work n.k n.firing n.at)) in
      let fresh = (K.of_claimed n.arc i n.k n.claim n.work n.is).behind n.k n.firing n.at (omega arith) in
      (n.firing, grown_more B.rules B.start (fired T) T.graph n.firing K.grown fires, apart_more (fired T) n.firing K.once fresh, omega (arith, full, length-fired, length-append (fired T) (n.firing ∷ [])))

  -- so the rules don't close within the limit
  pub over_closes : (i : ℕ) → T.stop ≡ Some (stop.Over i) → ClosesWithin B.rules B.start B.limit → ⊥
  over_closes i e w =
      let C = w.closure in
      let (f, grown, once, long) = over_more i e in
      let g = rounds_grown B.rules B.start w.closes.rounds C w.closes.reached in
      let once' = rounds_apart B.rules B.start w.closes.rounds C w.closes.reached in
      let all_done = no_more B.rules B.start ends (fired T ++ f ∷ []) (firings C) (adds B.rules T.graph f) C.graph grown g once once'
      (closed_partners B.rules B.start ends (fired T ++ f ∷ []) (firings C) (adds B.rules T.graph f) C.graph grown g once' (closes_all B.rules B.start C w.closes)) in
      omega (arith, all_done, w.few, long, length-firings C)

  -- the run, ended or not, is carried into what at least as many rounds reach
  pub carried_run : (n : ℕ) (S : Stage) → length T.done ≤ n → Rounds B.rules B.start n S → (arcs : ℕ → ℕ) × (nodes : ℕ → ℕ) × IsCarried B.rules B.start (fired T) T.graph (firings S) S.graph arcs nodes
  carried_run n S h s =
      let g = rounds_grown B.rules B.start n S s in
      let once' = rounds_apart B.rules B.start n S s in
      let partners = reached_partners B.rules B.start ends n S s (fired T) T.graph K.grown (omega (arith, length-fired)) in (
        arcs B.rules B.start ends (fired T) (firings S) T.graph S.graph K.grown g K.once once' partners,
        nodes B.rules B.start ends (fired T) (firings S) T.graph S.graph K.grown g K.once once' partners,
        is_carried B.rules B.start ends (fired T) (firings S) T.graph S.graph K.grown g K.once once' partners,
      )

  -- and into the closure, where there is one
  pub carried_closure : (C : Stage) → Closes B.rules B.start C → (arcs : ℕ → ℕ) × (nodes : ℕ → ℕ) × IsCarried B.rules B.start (fired T) T.graph (firings C) C.graph arcs nodes
  carried_closure C closes =
      let g = rounds_grown B.rules B.start closes.rounds C closes.reached in
      let once' = rounds_apart B.rules B.start closes.rounds C closes.reached in
      let partners = closed_partners B.rules B.start ends (fired T) (firings C) T.graph C.graph K.grown g once' (closes_all B.rules B.start C closes) in (
        arcs B.rules B.start ends (fired T) (firings C) T.graph C.graph K.grown g K.once once' partners,
        nodes B.rules B.start ends (fired T) (firings C) T.graph C.graph K.grown g K.once once' partners,
        is_carried B.rules B.start ends (fired T) (firings C) T.graph C.graph K.grown g K.once once' partners,
      )

  -- where each graph has a round
  pub closed_closes : HasRounds B.rules → IsClosed T → ClosesWithin B.rules B.start B.limit
  closed_closes has c = ⊎_elim (λ x. x) (λ n. absurd (closed_needs c n)) (closes_or_needs B.rules has B.start B.limit)

  pub over_needs : HasRounds B.rules → (i : ℕ) → T.stop ≡ Some (stop.Over i) → Needs B.rules B.start B.limit
  over_needs has i e = ⊎_elim (λ w. absurd (over_closes i e w)) (λ n. n) (closes_or_needs B.rules has B.start B.limit)
