-- What the end of a run shows of the rounds.
use Rattle.std.proofs.Common.{◌≡◌, ℕ, ◌+◌, ◌*◌, ◌≤◌, ◌⊎◌, inl, inr, ⊎_elim, List, length, Option, Some, None, Bool, true, false, not, refl, sym, ◌∙◌, ap, subst, arith}
use Rattle.std.specs.Option.{option_map, option_eq}
use Rattle.qs_worker.proofs.Turns.{not_stopped}
use Rattle.qs_pattern.specs.Rules.{Rule}
use Rattle.qs_graph.specs.Graphs.{QGraph}
use Rattle.qs_core.specs.contracts.answers.EndPartialEq.TheImpl as same_end
use Rattle.qs_core.specs.declared.step.Stop.{Stop}
use Rattle.qs_core.specs.declared.answers.End.{End}
use Rattle.qs_core.specs.declared.answers.End.TheVariants as end
use Rattle.qs_core.specs.Core.{Base, IsClosed}
use Rattle.qs_core.specs.Runs.{Machine}
use Rattle.qs_core.specs.Answers.{end_of_stop, IsStopped, IsEnd}
use Rattle.qs_canon.specs.Rounds.{Stage, ClosesWithin, Needs}
use Rattle.qs_canon.specs.Closures.{ClosureOf, IsClosure}
use Rattle.qs_canon.specs.Numbering.{IsNumbering}
use Rattle.qs_canon.proofs.Rounds.{one_closure}
use Rattle.qs_canon.proofs.Existence.{has_rounds}
use Rattle.qs_canon.proofs.Progress.{closes_or_needs}
use Rattle.qs_canon.proofs.Growing.{rounds_grow}
use Rattle.qs_canon.proofs.Naming.{rounds_named}
use Rattle.qs_clean.specs.Cleaning.{IsClosureOfValid}
use Rattle.qs_worker.specs.Saturation.{IsSaturated}
use Rattle.qs_cascade.specs.ClosureEnds.{HasGrownWithin, HasNoNewLabels}

-- whether it is another end than closed
abbrev is_other : Option End → Bool
is_other o = not (option_eq same_end.eq-value.it o (Some end.Closed))

told_closed : (o : Option End) → false ≡ is_other o → o ≡ Some end.Closed
told_closed None e = absurd cc
told_closed (Some end.Closed) e = refl
told_closed (Some end.Over) e = absurd cc
told_closed (Some end.Halted) e = absurd cc

not_told : (o : Option End) → true ≡ is_other o → o ≡ Some end.Closed → ⊥
not_told None e is = absurd cc
not_told (Some end.Closed) e is = absurd cc
not_told (Some end.Over) e is = absurd cc
not_told (Some end.Halted) e is = absurd cc

pub ends_closed : (M : Machine) (e : Option End) (other : Bool) → other ≡ false → other ≡ is_other e → IsEnd M.state e → IsClosed M.state
ends_closed M e other holds told is = subst (λ (o : Option End). IsEnd M.state o) (told_closed e (sym holds ∙ told)) is

-- what the closure of a run shows
pub record Closes (R : List Rule) (G : QGraph) (L : ℕ) (c : ClosureOf) : Type 0 where
  pub closure : IsClosure R G c
  pub few : length c.stage.done ≤ L
  pub valid : IsClosureOfValid c
  pub grown : HasGrownWithin G L c
  pub no_labels : HasNoNewLabels R G c

module _ (R : List Rule) (G : QGraph) (L seats : ℕ) (M : Machine) (x : IsSaturated R G L seats M) where
  -- a run that hasn't ended closed was stopped because more firings are needed
  not_closed : (e : Option End) → (e ≡ Some end.Closed → ⊥) → IsEnd M.state e → IsClosed M.state ⊎ IsStopped M.state end.Over → Needs R G L
  not_closed e not is (inr stopped) = x.over stopped
  not_closed None not is (inl closed) = absurd (is (inl closed))
  not_closed (Some end.Closed) not is (inl closed) = absurd (not refl)
  not_closed (Some end.Over) not is (inl closed) = absurd (not_stopped M.state.stop end.Over closed.going is)
  not_closed (Some end.Halted) not is (inl closed) = absurd (not_stopped M.state.stop end.Halted closed.going is)

  pub needs : (e : Option End) (other : Bool) → other ≡ true → other ≡ is_other e → IsEnd M.state e → Needs R G L
  needs e other holds told is = not_closed e (not_told e (sym holds ∙ told)) is x.ended

  -- one that has ended closed shows that no more are needed, and there is one closure
  pub closes : IsClosed M.state → (c : ClosureOf) (arcs nodes : List ℕ) → IsNumbering M c arcs nodes → 1 ≤ L → length G.arcs + 16 * L ≤ 4294967295 → Closes R G L c
  closes closed c arcs nodes numbering low fits =
      let closure : IsClosure R G c = subst (λ (B : Base). IsClosure B.rules B.start c) x.base numbering.closure in
      let within : ClosesWithin R G L = ⊎_elim (λ w. w) (λ n. absurd (x.closed closed n)) (closes_or_needs R (has_rounds R (λ rule i. (x.accepted rule i).left.in_class)) G L) in
      let same = one_closure R G within.closure c.stage within.closes closure.closes in
      let few : length c.stage.done ≤ L = omega (arith, within.few, ap (λ (S : Stage). length S.done) same) in
      let grows = rounds_grow R x.accepted G closure.closes.rounds c.stage closure.closes.reached in
      let more_arcs = grows.arcs in
      let more_nodes = grows.nodes in
      record {
        closure = closure;
        few = few;
        valid = record { rules = R; accepted = x.accepted; start = G; valid = x.valid; start_few = omega arith; closure = closure; few = omega arith };
        grown = (omega arith, omega arith);
        no_labels = λ n right named. rounds_named n R x.accepted right G named closure.closes.rounds c.stage closure.closes.reached;
      }
