-- What cleaning leaves under other numbers for the labels.
use Rattle.std.proofs.Common.{◌≡◌, ◌⊎◌, ◌↔◌, ℕ, List, map, refl, sym, ◌∙◌, ap, subst}
use Rattle.qs_tree.specs.Lists.{◌∈◌}
use Rattle.qs_graph.specs.Graphs.{Arc, QGraph, IsPath, IsEntry, IsExit, arcs_at}
use Rattle.qs_firing.specs.Firings.{Firing}
use Rattle.qs_canon.specs.Rounds.{Stage, firings}
use Rattle.qs_clean.specs.Cleaning.{IsDenoted, Stays, IsEndOf, renumbered, Cleans}
use Rattle.qs_clean.specs.Renaming.{IsRenaming, renamed_arc, renamed_graph}
use Rattle.qs_clean.specs.working.Renaming.{renamed_firing, renamed_stage}
use Rattle.qs_tree.proofs.Members.{mapped, in_map}
use Rattle.qs_clean.proofs.RenamingUndone.{arcs_undone}
use Rattle.qs_clean.proofs.RenamedFirings.{map_past, path_renamed, arcs_at_renamed}
use Rattle.qs_clean.proofs.RenamedRounds.{firings_renamed}

module _ (f : ℕ → ℕ) where
  -- the entry and the exit stay
  entry_renamed : (G : QGraph) (n : ℕ) → IsEntry G n ↔ IsEntry (renamed_graph f G) n
  entry_renamed G n = (
    (λ h. record { node = h.node; none_in = λ arc i t. let (was, j, e) = mapped (renamed_arc f) G.arcs arc i in h.none_in was j (ap (λ (x : Arc). x.to) (sym e) ∙ t) }),
    (λ h. record { node = h.node; none_in = λ arc i. h.none_in (renamed_arc f arc) (in_map (renamed_arc f) G.arcs arc i) }),
  )

  exit_renamed : (G : QGraph) (n : ℕ) → IsExit G n ↔ IsExit (renamed_graph f G) n
  exit_renamed G n = (
    (λ h. record { node = h.node; none_out = λ arc i t. let (was, j, e) = mapped (renamed_arc f) G.arcs arc i in h.none_out was j (ap (λ (x : Arc). x.from) (sym e) ∙ t) }),
    (λ h. record { node = h.node; none_out = λ arc i. h.none_out (renamed_arc f arc) (in_map (renamed_arc f) G.arcs arc i) }),
  )

  -- so do the ends of arcs
  ends_renamed : (arcs : List Arc) (n : ℕ) → IsEndOf arcs n ↔ IsEndOf (map (renamed_arc f) arcs) n
  ends_renamed arcs n = (
    (λ h. (renamed_arc f h.0, in_map (renamed_arc f) arcs h.0 h.1, h.2)),
    (λ h. let (was, j, e) = mapped (renamed_arc f) arcs h.0 h.1 in (was, j, subst (λ (x : Arc). (n ≡ x.from) ⊎ (n ≡ x.to)) e h.2)),
  )

  -- and the arcs that are denoted
  denoted_renamed : (S : Stage) (k : ℕ) → IsDenoted S k ↔ IsDenoted (renamed_stage f S) k
  denoted_renamed S k = (
    (λ d. record {
      by = renamed_firing f d.by;
      done = subst (λ xs. renamed_firing f d.by ∈ xs) (sym (firings_renamed f S)) (in_map (renamed_firing f) (firings S) d.by d.done);
      used = d.used;
    }),
    (λ d.
        let (x, j, e) = mapped (renamed_firing f) (firings S) d.by (subst (λ xs. d.by ∈ xs) (firings_renamed f S) d.done) in
        record { by = x; done = j; used = subst (λ (y : Firing). k ∈ y.path) e d.used }),
  )

module _ (f g : ℕ → ℕ) (is : IsRenaming f g) where
  path_back : (arcs : List Arc) (a : ℕ) (ks : List ℕ) (b : ℕ) → IsPath (map (renamed_arc f) arcs) a ks b → IsPath arcs a ks b
  path_back arcs a ks b p = subst (λ xs. IsPath xs a ks b) (arcs_undone f g is.back arcs) (path_renamed g (map (renamed_arc f) arcs) a ks b p)

  -- the arcs that stay are the same
  stays_renamed : (S : Stage) (k : ℕ) → Stays S k ↔ Stays (renamed_stage f S) k
  stays_renamed S k = (
    (λ s. record {
      entry = s.entry;
      exit = s.exit;
      path = s.path;
      is_entry = (entry_renamed f S.graph s.entry).0 s.is_entry;
      is_exit = (exit_renamed f S.graph s.exit).0 s.is_exit;
      leads = path_renamed f S.graph.arcs s.entry s.path s.exit s.leads;
      undenoted = λ j i d. s.undenoted j i ((denoted_renamed f S j).1 d);
      on = s.on;
    }),
    (λ s. record {
      entry = s.entry;
      exit = s.exit;
      path = s.path;
      is_entry = (entry_renamed f S.graph s.entry).1 s.is_entry;
      is_exit = (exit_renamed f S.graph s.exit).1 s.is_exit;
      leads = path_back S.graph.arcs s.entry s.path s.exit s.leads;
      undenoted = λ j i d. s.undenoted j i ((denoted_renamed f S j).0 d);
      on = s.on;
    }),
  )

  left_renamed : (arcs : List Arc) (ks : List ℕ) (n : ℕ) → IsEndOf (arcs_at arcs ks) n ↔ IsEndOf (arcs_at (map (renamed_arc f) arcs) ks) n
  left_renamed arcs ks n =
      subst (λ (xs : List Arc). IsEndOf (arcs_at arcs ks) n ↔ IsEndOf xs n) (sym (arcs_at_renamed f arcs ks)) (ends_renamed f (arcs_at arcs ks) n)

  pub cleans_renamed : (S : Stage) (H : QGraph) → Cleans S H → Cleans (renamed_stage f S) (renamed_graph f H)
  cleans_renamed S H c = record {
    kept = c.kept;
    kept_ascend = c.kept_ascend;
    kept_are = λ k. ((λ i. (stays_renamed S k).0 ((c.kept_are k).0 i)), (λ s. (c.kept_are k).1 ((stays_renamed S k).1 s)));
    left = c.left;
    left_ascend = c.left_ascend;
    left_are = λ n. ((λ i. (left_renamed S.graph.arcs c.kept n).0 ((c.left_are n).0 i)), (λ e. (c.left_are n).1 ((left_renamed S.graph.arcs c.kept n).1 e)));
    nodes = c.nodes;
    arcs = ap (map (renamed_arc f)) c.arcs
        ∙ map_past (renumbered c.left) (renamed_arc f) (renamed_arc f) (renumbered c.left) (λ arc. refl) (arcs_at S.graph.arcs c.kept)
        ∙ ap (map (renumbered c.left)) (sym (arcs_at_renamed f S.graph.arcs c.kept));
  }
