-- How much a graph grows: each firing of accepted rules adds at most 16 arcs and 16 nodes.
use Rattle.std.proofs.Common.{ℕ, zero, suc, ◌+◌, ◌*◌, ◌≤◌, List, [], ◌∷◌, length, sym, subst, arith, length-append}
use Rattle.qs_tree.specs.Lists.{◌∈◌}
use Rattle.qs_pattern.specs.Rules.{Rule, IsAccepted}
use Rattle.qs_graph.specs.Graphs.{QGraph}
use Rattle.qs_graph.specs.Chains.{chain}
use Rattle.qs_graph.proofs.Lines.{length-chain}
use Rattle.qs_firing.specs.Firings.{Firing}
use Rattle.qs_firing.specs.Adding.{start_of, end_of, added}
use Rattle.qs_firing.proofs.Building.{built_few}
use Rattle.qs_firing.proofs.Merging.{length-added}
use Rattle.qs_canon.specs.Rounds.{Rounds, Stage, after, after_one}
use Rattle.qs_canon.proofs.Rounds.{length-after}

-- H has at most 16 arcs and 16 nodes for each of so many firings behind those of G
pub record Grows (G H : QGraph) (firings : ℕ) : Type 0 where
  pub arcs : length H.arcs ≤ length G.arcs + 16 * firings
  pub nodes : H.nodes ≤ G.nodes + 16 * firings

module _ (R : List Rule) (accepted : (rule : Rule) → rule ∈ R → IsAccepted rule) where
  one_grows : (n : ℕ) (S : Stage) (f : Firing) → Grows S.graph (after_one R n S f).graph 1
  one_grows n S f =
      let a = start_of S.graph.arcs f.path in
      let b = end_of S.graph.arcs f.path in
      let ts = added R S.graph f in
      let few = built_few R accepted f in
      let fewer = length-added R S.graph f in
      record {
        arcs = omega (arith, few, fewer, length-append S.graph.arcs (chain a ts (S.graph.nodes + 1) b), length-chain a ts (S.graph.nodes + 1) b);
        nodes = omega (arith, few, fewer);
      }

  after_grows : (n : ℕ) (S : Stage) (F : List Firing) → Grows S.graph (after R n S F).graph (length F)
  after_grows n S [] = record { arcs = omega arith; nodes = omega arith }
  after_grows n S (f ∷ fs) =
      let one = one_grows n S f in
      let more = after_grows n (after_one R n S f) fs in
      record { arcs = omega (arith, one.arcs, more.arcs); nodes = omega (arith, one.nodes, more.nodes) }

  pub rounds_grow : (G : QGraph) (n : ℕ) (S : Stage) → Rounds R G n S → Grows G S.graph (length S.done)
  rounds_grow G zero S e = subst (λ (X : Stage). Grows G X.graph (length X.done)) (sym e) (record { arcs = omega arith; nodes = omega arith })
  rounds_grow G (suc n) S (B, F, b, r, e) =
      let before = rounds_grow G n B b in
      let more = after_grows (suc n) B F in
      let many = length-after R (suc n) B F in
      subst (λ (X : Stage). Grows G X.graph (length X.done)) (sym e)
      (record { arcs = omega (arith, before.arcs, more.arcs, many); nodes = omega (arith, before.nodes, more.nodes, many) })
