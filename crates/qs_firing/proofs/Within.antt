-- An earlier graph within a later one: what stands in it stays.
use Rattle.std.proofs.Common.{◌≡◌, ℕ, ◌+◌, ◌≤◌, List, [], ◌∷◌, ◌++◌, length, map, refl, sym, ◌∙◌, ap, subst, arith, Some, slice_get, length-append, append_assoc, append-nil}
use Rattle.std.specs.List.{cons_option}
use Rattle.qs_pattern.specs.Rules.{Rule}
use Rattle.qs_pattern.specs.Instances.{IsMatch}
use Rattle.qs_graph.specs.Graphs.{Arc, QGraph, Leads, trees_on, arcs_at}
use Rattle.qs_graph.specs.Chains.{chain}
use Rattle.qs_graph.proofs.Paths.{slice_get-append}
use Rattle.qs_graph.proofs.Lines.{length-chain}
use Rattle.qs_firing.specs.Firings.{Firing, Fires}
use Rattle.qs_firing.specs.Adding.{start_of, end_of, added, adds}

-- H has the arcs of G first, and at least as many nodes
pub record IsWithin (G H : QGraph) : Type 0 where
  pub more : List Arc
  pub arcs : H.arcs ≡ G.arcs ++ more
  pub nodes : G.nodes ≤ H.nodes

pub within_refl : (G H : QGraph) → G ≡ H → IsWithin G H
within_refl G H e = record {
  more = [];
  arcs = sym (ap (λ (X : QGraph). X.arcs) e) ∙ sym (append-nil G.arcs);
  nodes = omega (arith, ap (λ (X : QGraph). X.nodes) e);
}

pub within_trans : {G H K : QGraph} → IsWithin G H → IsWithin H K → IsWithin G K
within_trans {G} g h = record {
  more = g.more ++ h.more;
  arcs = h.arcs ∙ ap (λ xs. xs ++ h.more) g.arcs ∙ append_assoc G.arcs g.more h.more;
  nodes = omega arith;
}

pub within_length : {G H : QGraph} → IsWithin G H → length G.arcs ≤ length H.arcs
within_length {G} w = omega (arith, ap length w.arcs, length-append G.arcs w.more)

pub arc_stays : {G H : QGraph} → IsWithin G H → (k : ℕ) (arc : Arc) → slice_get G.arcs k ≡ Some arc → slice_get H.arcs k ≡ Some arc
arc_stays {G} w k arc e = ap (λ xs. slice_get xs k) w.arcs ∙ slice_get-append G.arcs w.more k arc e

pub leads_stays : {G H : QGraph} → IsWithin G H → (a : ℕ) (ks : List ℕ) (b : ℕ) → Leads G.arcs a ks b → Leads H.arcs a ks b
leads_stays w a [] b e = e
leads_stays w a (k ∷ ks) b (arc, is, e, l) = (arc, arc_stays w k arc is, e, leads_stays w arc.to ks b l)

pub trees_from : (arcs : List Arc) (k : ℕ) (ks : List ℕ) (arc : Arc) → slice_get arcs k ≡ Some arc → trees_on arcs (k ∷ ks) ≡ arc.tree ∷ trees_on arcs ks
trees_from arcs k ks arc is = ap (λ o. map (λ (arc : Arc). arc.tree) (cons_option o (arcs_at arcs ks))) is

pub trees_stay : {G H : QGraph} → IsWithin G H → (a : ℕ) (ks : List ℕ) (b : ℕ) → Leads G.arcs a ks b → trees_on G.arcs ks ≡ trees_on H.arcs ks
trees_stay w a [] b e = refl
trees_stay {G} {H} w a (k ∷ ks) b (arc, is, e, l) =
    trees_from G.arcs k ks arc is
    ∙ ap (λ ts. arc.tree ∷ ts) (trees_stay w arc.to ks b l)
    ∙ sym (trees_from H.arcs k ks arc (arc_stays w k arc is))

module _ (R : List Rule) where
  pub fires_stays : {G H : QGraph} {f : Firing} → IsWithin G H → Fires R G.arcs f → Fires R H.arcs f
  fires_stays {f = f} w r = record {
    rule = r.rule;
    is_rule = r.is_rule;
    from = r.from;
    to = r.to;
    path = record { some = r.path.some; leads = leads_stays w r.from f.path r.to r.path.leads };
    long = r.long;
    matches = subst (λ ts. IsMatch r.rule.left ts f.values) (trees_stay w r.from f.path r.to r.path.leads) r.matches;
    holds = r.holds;
  }

  pub within_adds : (G : QGraph) (f : Firing) → IsWithin G (adds R G f)
  within_adds G f = record {
    more = chain (start_of G.arcs f.path) (added R G f) (G.nodes + 1) (end_of G.arcs f.path);
    arcs = refl;
    nodes = omega arith;
  }

  pub length-adds : (G : QGraph) (f : Firing) → length (adds R G f).arcs ≡ length G.arcs + length (added R G f)
  length-adds G f =
      length-append G.arcs (chain (start_of G.arcs f.path) (added R G f) (G.nodes + 1) (end_of G.arcs f.path))
      ∙ ap (λ n. length G.arcs + n) (length-chain (start_of G.arcs f.path) (added R G f) (G.nodes + 1) (end_of G.arcs f.path))
