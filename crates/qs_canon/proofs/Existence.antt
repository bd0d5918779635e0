-- Each graph has a round, whatever is done.
use Rattle.std.proofs.Common.{List, inl, inr, ◌⊎◌}
use Rattle.qs_tree.specs.Lists.{◌∈◌}
use Rattle.qs_pattern.specs.Rules.{Rule, AreLeftSidesInClass}
use Rattle.qs_graph.specs.Graphs.{Arc, QGraph}
use Rattle.qs_firing.specs.Firings.{Firing, Fires}
use Rattle.qs_canon.specs.Rounds.{Round, HasRounds}
use Rattle.qs_tree.proofs.Decisions.{decide_not, decide_both, decide_member}
use Rattle.qs_firing.proofs.FiringDecisions.{decide_firing, decide_fires}
use Rattle.qs_firing.proofs.Choosing.{firings_with, with-ascends, from_with, in_with}

-- f fires and isn't done
abbrev pub IsNew : List Rule → List Arc → List Firing → Firing → Type 0
IsNew R arcs done f = Fires R arcs f × (f ∈ done → ⊥)

abbrev pub decide_new : (R : List Rule) (arcs : List Arc) (done : List Firing) (f : Firing) → Dec (IsNew R arcs done f)
decide_new R arcs done f = decide_both (decide_fires R arcs f) (decide_not (decide_member decide_firing f done))

-- the round over a graph
abbrev pub the_round : List Rule → QGraph → List Firing → List Firing
the_round R G done = firings_with (decide_new R G.arcs done) R G.arcs

module _ (R : List Rule) (ok : AreLeftSidesInClass R) (G : QGraph) (done : List Firing) where
  pub the_round-is : Round R G done (the_round R G done)
  the_round-is = record {
    ascends = with-ascends (decide_new R G.arcs done) R G.arcs;
    fires = λ f i. (from_with (decide_new R G.arcs done) R G.arcs f i).0;
    new = λ f i. (from_with (decide_new R G.arcs done) R G.arcs f i).1;
    all = λ f r. split f r (decide_member decide_firing f done);
  }
    where
      split : (f : Firing) → Fires R G.arcs f → Dec (f ∈ done) → (f ∈ done) ⊎ (f ∈ the_round R G done)
      split f r (yes i) = inl i
      split f r (no n) = inr (in_with (decide_new R G.arcs done) R G.arcs ok (λ g new. new.0) f (r, n))

pub has_rounds : (R : List Rule) → AreLeftSidesInClass R → HasRounds R
has_rounds R ok G done = (the_round R G done, the_round-is R ok G done)
