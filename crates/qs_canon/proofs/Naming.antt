-- Rounds make no labels.
use Rattle.std.proofs.Common.{◌≡◌, ℕ, zero, suc, ◌+◌, List, [], ◌∷◌, Option, Some, None, slice_get, unwrap_or, refl, sym, ap, subst, inl, inr, ⊎_elim}
use Rattle.std.specs.Option.{option_map}
use Rattle.std.specs.List.{cons_option}
use Rattle.qs_tree.specs.Lists.{◌∈◌}
use Rattle.qs_tree.specs.Trees.{Tree}
use Rattle.qs_tree.specs.Text.{IsNamed}
use Rattle.qs_tree.proofs.Members.{from_map, from_append, in_at}
use Rattle.qs_pattern.specs.Rules.{Rule, IsAccepted}
use Rattle.qs_pattern.specs.Instances.{inst}
use Rattle.qs_pattern.specs.Named.{ArePatternsNamed}
use Rattle.qs_pattern.proofs.NamedLemmas.{builds_named}
use Rattle.qs_graph.specs.Graphs.{Arc, QGraph, arcs_at, trees_on}
use Rattle.qs_graph.specs.Chains.{chain}
use Rattle.qs_firing.specs.Firings.{Firing, Fires}
use Rattle.qs_firing.specs.Adding.{start_of, end_of, built, added}
use Rattle.qs_firing.proofs.Merging.{in_added}
use Rattle.qs_canon.specs.Rounds.{Rounds, Stage, after, after_one}

-- the arcs of some numbers are arcs of the list
in_arcs : (arcs : List Arc) (ks : List ℕ) (arc : Arc) → arc ∈ arcs_at arcs ks → arc ∈ arcs
in_arcs arcs [] arc i = absurd i
in_arcs arcs (k ∷ ks) arc i = by (slice_get arcs k) refl i (in_arcs arcs ks arc)
  where
    by : (o : Option Arc) → slice_get arcs k ≡ o → arc ∈ cons_option o (arcs_at arcs ks) → (arc ∈ arcs_at arcs ks → arc ∈ arcs) → arc ∈ arcs
    by None e j rest = rest j
    by (Some other) e (inl s) rest = subst (λ (x : Arc). x ∈ arcs) (sym s) (in_at arcs k other e)
    by (Some other) e (inr j) rest = rest j

module _ (n : ℕ) where
  -- each label in these trees, and in those on these arcs, is one of the first n
  abbrev AreTreesNamed : List Tree → Type 0
  AreTreesNamed ts = (t : Tree) → t ∈ ts → IsNamed n t

  abbrev pub AreArcsNamed : List Arc → Type 0
  AreArcsNamed arcs = (arc : Arc) → arc ∈ arcs → IsNamed n arc.tree

  chain_named : (a : ℕ) (ts : List Tree) (next b : ℕ) → AreTreesNamed ts → AreArcsNamed (chain a ts next b)
  chain_named a [] next b h arc i = absurd i
  chain_named a (t ∷ []) next b h arc (inl e) = subst (λ (x : Arc). IsNamed n x.tree) (sym e) (h t (inl refl))
  chain_named a (t ∷ []) next b h arc (inr i) = absurd i
  chain_named a (t ∷ u ∷ ts) next b h arc (inl e) = subst (λ (x : Arc). IsNamed n x.tree) (sym e) (h t (inl refl))
  chain_named a (t ∷ u ∷ ts) next b h arc (inr i) = chain_named next (u ∷ ts) (next + 1) b (λ v j. h v (inr j)) arc i

  module _ (R : List Rule) (accepted : (rule : Rule) → rule ∈ R → IsAccepted rule) (right : (rule : Rule) → rule ∈ R → ArePatternsNamed n rule.right) where
    built_named : (arcs : List Arc) → AreArcsNamed arcs → (f : Firing) → Fires R arcs f → AreTreesNamed (built R f)
    built_named arcs named f fires =
        let is : built R f ≡ inst f.values fires.rule.right = ap (λ o. unwrap_or (option_map (λ (rule : Rule). inst f.values rule.right) o) []) fires.is_rule in
        let i = in_at R f.rule fires.rule fires.is_rule in
        subst AreTreesNamed (sym is)
        (builds_named n fires.rule (accepted fires.rule i) (right fires.rule i) (trees_on arcs f.path) f.values fires.matches
        (from_map (λ (arc : Arc). arc.tree) (arcs_at arcs f.path) (IsNamed n) (λ arc j. named arc (in_arcs arcs f.path arc j))))

    after_named : (m : ℕ) (S : Stage) (F : List Firing) → AreArcsNamed S.graph.arcs → ((f : Firing) → f ∈ F → AreTreesNamed (built R f)) → AreArcsNamed (after R m S F).graph.arcs
    after_named m S [] named h = named
    after_named m S (f ∷ fs) named h =
        let a = start_of S.graph.arcs f.path in
        let b = end_of S.graph.arcs f.path in
        let ts = added R S.graph f in
        after_named m (after_one R m S f) fs
        (λ arc i. ⊎_elim (named arc) (chain_named a ts (S.graph.nodes + 1) b (λ t j. h f (inl refl) t (in_added R S.graph f t j)) arc) (from_append S.graph.arcs (chain a ts (S.graph.nodes + 1) b) arc i))
        (λ g i. h g (inr i))

    pub rounds_named : (G : QGraph) → AreArcsNamed G.arcs → (m : ℕ) (S : Stage) → Rounds R G m S → AreArcsNamed S.graph.arcs
    rounds_named G named zero S e = subst (λ (X : Stage). AreArcsNamed X.graph.arcs) (sym e) named
    rounds_named G named (suc m) S (B, F, b, r, e) =
        let before = rounds_named G named m B b in
        subst (λ (X : Stage). AreArcsNamed X.graph.arcs) (sym e)
        (after_named (suc m) B F before (λ f i. built_named B.graph.arcs before f (r.fires f i)))
