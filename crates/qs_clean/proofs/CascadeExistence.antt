-- Each cascade of accepted rules over a valid graph has an outcome.
use Rattle.std.proofs.Common.{ℕ, ◌<◌, List, [], ◌∷◌, length, Option, Some, None, inl, inr, ⊎_elim, refl}
use Rattle.qs_tree.specs.Lists.{◌∈◌}
use Rattle.qs_pattern.specs.Rules.{Rule, IsAccepted}
use Rattle.qs_graph.specs.Graphs.{QGraph, IsValid}
use Rattle.qs_canon.specs.Rounds.{Rounds, Stage, ClosesWithin}
use Rattle.qs_canon.proofs.Keeping.{Keeps, keeps_rounds}
use Rattle.qs_canon.proofs.Existence.{has_rounds}
use Rattle.qs_canon.proofs.Progress.{closes_or_needs}
use Rattle.qs_clean.specs.Cleaning.{Cleans, IsLeft}
use Rattle.qs_clean.specs.Cascades.{Cascade, Left, Ending, a_graph, no_arc, over, all_done, by_limit, no_more, limit, empty, goes_on}
use Rattle.qs_clean.proofs.Leaving.{something_left, left_valid}

-- of what rounds reach something is left
module _ (R : List Rule) (accepted : (rule : Rule) → rule ∈ R → IsAccepted rule) (G : QGraph) (valid : IsValid G) (n : ℕ) (S : Stage) (reached : Rounds R G n S) where
  keeps : Keeps G S
  keeps = keeps_rounds R accepted G valid n S reached

  pub reached_left : (r : Option QGraph) × IsLeft S r
  reached_left = something_left S keeps.valid keeps.paths

  pub reached_valid : (H : QGraph) → Cleans S H → 0 < length H.arcs → IsValid H
  reached_valid H cleans some = left_valid S keeps.valid keeps.paths H cleans some

abbrev pub AllAccepted : List (List Rule) → Type 0
AllAccepted Rs = (R : List Rule) → R ∈ Rs → (rule : Rule) → rule ∈ R → IsAccepted rule

abbrev pub Outcome : ℕ → QGraph → List (List Rule) → Type 0
Outcome L G Rs = (lefts : List Left) × (ending : Ending) × Cascade L G Rs lefts ending

-- a grammar that closes leaves something, and where it leaves a graph the next ones go on with it
module _ (L : ℕ) (R : List Rule) (accepted : (rule : Rule) → rule ∈ R → IsAccepted rule) (Rs : List (List Rule)) (G : QGraph) (valid : IsValid G)
    (next : (H : QGraph) → IsValid H → Outcome L H Rs) where
  closed : ClosesWithin R G L → Outcome L G (R ∷ Rs)
  closed w = by (reached_left R accepted G valid w.closes.rounds w.closure w.closes.reached)
    where
      by : (r : Option QGraph) × IsLeft w.closure r → Outcome L G (R ∷ Rs)
      by (None, (E, cleans, none)) = (no_arc (length w.closure.done) ∷ [], all_done, empty w.closes w.few cleans none)
      by (Some H, (cleans, some)) =
          let (lefts, ending, rest) = next H (reached_valid R accepted G valid w.closes.rounds w.closure w.closes.reached H cleans some) in
          (a_graph (length w.closure.done) H ∷ lefts, ending, goes_on w.closes w.few cleans some rest)

  one_more : Outcome L G (R ∷ Rs)
  one_more = ⊎_elim
      closed
      (λ needs. (over ∷ [], by_limit, limit needs))
      (closes_or_needs R (has_rounds R (λ rule i. (accepted rule i).left.in_class)) G L)

pub has_outcome : (L : ℕ) (Rs : List (List Rule)) → AllAccepted Rs → (G : QGraph) → IsValid G → Outcome L G Rs
has_outcome L [] accepted G valid = ([], all_done, no_more)
has_outcome L (R ∷ Rs) accepted G valid =
    one_more L R (accepted R (inl refl)) Rs G valid (λ H ok. has_outcome L Rs (λ Q i. accepted Q (inr i)) H ok)
