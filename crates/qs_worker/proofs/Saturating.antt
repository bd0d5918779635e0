-- The run of one worker, turn by turn, and that the machine behind it is saturated.
use Rattle.std.proofs.Common.{◌≡◌, ℕ, ◌<◌, Bool, true, false, List, length, refl, sym, ◌∙◌, ap, subst, inl, inr, ◌⊎◌, arith, Option, Some, None}
use Rattle.std.specs.Option.{option_map}
use Rattle.std.proofs.lemmas.Option.{slice_get_within}
use Rattle.qs_tree.specs.Lists.{◌∈◌}
use Rattle.qs_pattern.specs.Rules.{Rule}
use Rattle.qs_graph.specs.Graphs.{Arc, QGraph, IsValid}
use Rattle.qs_firing.specs.Work.{WorkWithTrees, IsRightFor}
use Rattle.qs_core.specs.declared.step.Stop.{Stop}
use Rattle.qs_core.specs.declared.step.Stop.TheVariants as stop
use Rattle.qs_core.specs.declared.step.Status.TheVariants as status
use Rattle.qs_core.specs.declared.answers.End.TheVariants as end
use Rattle.qs_core.specs.Core.{Base, IsClosed}
use Rattle.qs_core.specs.Runs.{Machine, IsReplayed}
use Rattle.qs_core.specs.Answers.{end_of_stop, IsStopped}
use Rattle.qs_core.proofs.Twins.{HasEnds, valid_ends}
use Rattle.qs_core.proofs.Runs.{keeps}
use Rattle.qs_canon.specs.Rounds.{Needs}
use Rattle.qs_canon.proofs.Existence.{has_rounds}
use Rattle.qs_canon.proofs.Runs.{over_needs, closed_needs}
use Rattle.qs_worker.specs.Saturation.{IsSaturated}
use Rattle.qs_worker.specs.working.Turns.{left_to_claim, IsBetween, IsNext, IsPartly, EndsWork, IsWorked, AreAccepted}
use Rattle.qs_worker.proofs.Waiting.{left_claimed}
use Rattle.qs_worker.proofs.Turns.{partly_none}

over_of : (o : Option Stop) → option_map end_of_stop o ≡ Some end.Over → (i : ℕ) × (o ≡ Some (stop.Over i))
over_of None e = absurd cc
over_of (Some (stop.Over i)) e = (i, refl)
over_of (Some (stop.Halted i)) e = absurd cc

pub saturated : (R : List Rule) (G : QGraph) (L seats : ℕ) (M : Machine) → M.base ≡ record { rules = R; start = G; limit = L; seats = seats } → AreAccepted R → IsValid G → IsReplayed M
    → IsClosed M.state ⊎ IsStopped M.state end.Over → IsSaturated R G L seats M
saturated R G L seats M base accepted valid run ended = record {
  base = base;
  accepted = accepted;
  valid = valid;
  ended = ended;
  over = λ s. let (i, e) = over_of M.state.stop s in
      needs (over_needs M.base ends M.journal M.state.stop M.state run (has_rounds M.base.rules (λ rule i. (accepted rule (subst (λ (B : Base). rule ∈ B.rules) base i)).left.in_class)) i e);
  closed = λ closed more. closed_needs M.base ends M.journal M.state.stop M.state run closed (subst (λ (B : Base). Needs B.rules B.start B.limit) (sym base) more);
}
  where
    ends : HasEnds M.base.start
    ends = valid_ends (subst (λ (B : Base). IsValid B.start) (sym base) valid)

    needs : Needs M.base.rules M.base.start M.base.limit → Needs R G L
    needs n = subst (λ (B : Base). Needs B.rules B.start B.limit) base n

-- M goes on, its seat takes the arc m, and N is the machine behind the claim
module _ (R : List Rule) (G : QGraph) (L : ℕ) (M N : Machine) (next : Option ℕ) (m : ℕ) (took : next ≡ Some m) (between : IsBetween (record { rules = R; start = G; limit = L; seats = 1 }) M) (claimed : IsNext M next N) where
  abbrev B : Base
  B = record { rules = R; start = G; limit = L; seats = 1 }

  turn : IsNext M (Some m) N
  turn = subst (λ (o : Option ℕ). IsNext M o N) took claimed

  own : IsBetween M.base M
  own = record { base = refl; replayed = between.replayed; going = between.going; free = between.free }

  arcs_same : N.state.graph.arcs ≡ M.state.graph.arcs
  arcs_same = ap (λ (X : Machine). X.state.graph.arcs) turn.1

  base_is : N.base ≡ B
  base_is = ap (λ (X : Machine). X.base) turn.1 ∙ between.base

  pub newest : (view : List Arc) → view ≡ N.state.graph.arcs → m < length view
  newest view seen =
      let long : length view ≡ length M.state.graph.arcs = ap (λ (xs : List Arc). length xs) (seen ∙ arcs_same) in
      let each = (keeps M.base M.journal M.state.stop M.state between.replayed).status_each in
      let low = slice_get_within M.state.status m status.Waiting turn.0 in
      omega (arith, long, each, low)

  pub starts_work : (view : List Arc) (work : WorkWithTrees) → view ≡ N.state.graph.arcs → work.arc ≡ m → IsRightFor R view work → IsPartly N work 0 N
  starts_work view work seen arc right =
      let one : 1 ≡ M.base.seats = ap (λ (X : Base). X.seats) (sym between.base) in
      let some : 0 < M.base.seats = omega (arith, one) in
      partly_none M N m work own some turn arc
      (subst (λ (xs : List Arc). IsRightFor M.base.rules xs work) (seen ∙ arcs_same) (subst (λ (X : Base). IsRightFor X.rules view work) (sym between.base) right))

  pub still_accepted : AreAccepted R → AreAccepted N.base.rules
  still_accepted accepted = subst (λ (X : Base). AreAccepted X.rules) (sym base_is) accepted

  -- and P is the machine behind its work
  module _ (P : Machine) (all : Bool) (worked : IsWorked N all P) where
    pub smaller : left_to_claim P < left_to_claim M
    smaller =
        let less = left_claimed M N m turn.0 turn.1 in
        let never_more = worked.left in
        omega (arith, less, never_more)

    pub goes_on : all ≡ true → IsBetween B P
    goes_on e =
        let ends = subst (λ (b : Bool). EndsWork b P) e worked.ends in
        record { base = worked.base ∙ base_is; replayed = worked.replayed; going = ends.0; free = ends.1 }

    pub ends_over : all ≡ false → AreAccepted R → IsValid G → IsSaturated R G L 1 P
    ends_over e accepted valid =
        saturated R G L 1 P (worked.base ∙ base_is) accepted valid worked.replayed (inr (subst (λ (b : Bool). EndsWork b P) e worked.ends))

pub ends_closed : (R : List Rule) (G : QGraph) (L : ℕ) (M N : Machine) (next : Option ℕ) → next ≡ None → IsBetween (record { rules = R; start = G; limit = L; seats = 1 }) M → IsNext M next N → AreAccepted R → IsValid G → IsSaturated R G L 1 N
ends_closed R G L M N next none between claimed accepted valid =
    let (base, run, closed) = subst (λ (o : Option ℕ). IsNext M o N) none claimed in
    saturated R G L 1 N (base ∙ between.base) accepted valid run (inl closed)
