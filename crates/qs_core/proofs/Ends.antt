-- The ends of a path, and what a firing adds between them.
use Rattle.std.proofs.Common.{◌≡◌, ℕ, zero, suc, ◌+◌, ◌-◌, ◌<◌, Bool, true, false, List, [], ◌∷◌, ◌++◌, length, Option, Some, None, slice_get, get_or, unwrap_or, sym, ap, ◌∙◌, arith, append-nil}
use Rattle.std.specs.Prelude.{if◌then◌else◌, is_some}
use Rattle.std.specs.Option.{option_map}
use Rattle.std.proofs.lemmas.Option.{slice_get_within}
use Rattle.qs_tree.specs.Trees.{Tree}
use Rattle.qs_pattern.specs.Rules.{Rule, all_unique}
use Rattle.qs_graph.specs.Graphs.{Arc, QGraph, Leads}
use Rattle.qs_graph.specs.Chains.{chain, with_chain}
use Rattle.qs_graph.proofs.Lines.{length-chain}
use Rattle.qs_firing.specs.Firings.{Firing}
use Rattle.qs_firing.specs.Adding.{start_of, end_of, built, standing, met, unless_met}
use Rattle.qs_firing.proofs.Merging.{met-adds, unmet-adds, unmet-added}
use Rattle.qs_core.specs.working.Additions.{IsAddition}

module _ (arcs : List Arc) where
  arc_on : (a : ℕ) (path : List ℕ) (b : ℕ) → Leads arcs a path b → (i : ℕ) → i < length path → (arc : Arc) × (slice_get arcs (get_or path i 0) ≡ Some arc)
  arc_on a [] b l i h = absurd (omega arith)
  arc_on a (k ∷ ks) b (arc, is, e, l) zero h = (arc, is)
  arc_on a (k ∷ ks) b (arc, is, e, l) (suc i) h = arc_on arc.to ks b l i (omega arith)

  -- each number of a path is that of an arc
  pub is_arc : (a : ℕ) (path : List ℕ) (b : ℕ) → Leads arcs a path b → (i : ℕ) → i < length path → get_or path i 0 < length arcs
  is_arc a path b l i h = let (arc, at) = arc_on a path b l i h in slice_get_within arcs (get_or path i 0) arc at

  pub last_is : (path : List ℕ) (n : ℕ) (arc : Arc) → n + 1 ≡ length path → slice_get arcs (get_or path n 0) ≡ Some arc → arc.to ≡ end_of arcs path
  last_is [] n arc h at = absurd (omega arith)
  last_is (j ∷ []) zero arc h at = sym (ap (λ (o : Option Arc). unwrap_or (option_map (λ (x : Arc). x.to) o) 0) at)
  last_is (j ∷ []) (suc n) arc h at = absurd (omega arith)
  last_is (j ∷ l ∷ js) zero arc h at = absurd (omega arith)
  last_is (j ∷ l ∷ js) (suc n) arc h at = last_is (l ∷ js) n arc (omega arith) at

module _ (R : List Rule) (G : QGraph) (f : Firing) where
  -- the arc that is met, from what was worked out of the firing
  met_by : (unique : Bool) (a b : ℕ) (ts : List Tree) (o : Option ℕ) → unique ≡ all_unique R → a ≡ start_of G.arcs f.path → b ≡ end_of G.arcs f.path → ts ≡ built R f
      → o ≡ (if unique then standing G.arcs a ts b else None) → met R G f ≡ o
  met_by unique a b ts o u p q t e = sym (e ∙ (λ i. if u i then standing G.arcs (p i) (t i) (q i) else None))

  -- where an arc is met, nothing is added
  pub adds_nothing : (unique : Bool) (a b : ℕ) (ts : List Tree) (l : ℕ) (arcs : List Arc) → unique ≡ all_unique R → a ≡ start_of G.arcs f.path → b ≡ end_of G.arcs f.path → ts ≡ built R f
      → Some l ≡ (if unique then standing G.arcs a ts b else None) → arcs ≡ [] → IsAddition R G f l true 0 arcs
  adds_nothing unique a b ts l arcs u p q t e none =
      let m : met R G f ≡ Some l = met_by unique a b ts (Some l) u p q t e in
      let n : G.nodes + 0 ≡ G.nodes = omega arith in
      record {
        first_is = sym (ap (λ o. unwrap_or o (length G.arcs)) m);
        met_is = sym (ap is_some m);
        graph_is = (λ i. record { nodes = n i; arcs = G.arcs ++ none i }) ∙ (λ i. record { nodes = G.nodes; arcs = append-nil G.arcs i }) ∙ sym (met-adds R G f l m);
        many = ap length none ∙ sym (ap (λ o. length (unless_met o (built R f))) m);
      }

  -- elsewhere the chain of what is built
  pub adds_chain : (unique : Bool) (a b : ℕ) (ts : List Tree) (first nodes : ℕ) (arcs : List Arc) → unique ≡ all_unique R → a ≡ start_of G.arcs f.path → b ≡ end_of G.arcs f.path → ts ≡ built R f
      → None ≡ (if unique then standing G.arcs a ts b else None) → first ≡ length G.arcs → nodes ≡ length ts - 1 → arcs ≡ chain a ts (G.nodes + 1) b → IsAddition R G f first false nodes arcs
  adds_chain unique a b ts first nodes arcs u p q t e start many is =
      let m : met R G f ≡ None = met_by unique a b ts None u p q t e in
      record {
        first_is = start ∙ sym (ap (λ o. unwrap_or o (length G.arcs)) m);
        met_is = sym (ap is_some m);
        graph_is = (λ i. record { nodes = G.nodes + many i; arcs = G.arcs ++ is i }) ∙ (λ i. with_chain G (p i) (t i) (q i)) ∙ sym (unmet-adds R G f m);
        many = ap length is ∙ length-chain a ts (G.nodes + 1) b ∙ ap length (t ∙ sym (unmet-added R G f m));
      }
