-- Of each stage something is left, and a graph that is left is valid.
use Rattle.std.proofs.Common.{◌⊎◌, ℕ, ◌+◌, ◌<◌, Bool, List, [], length, map, Option, Some, None, refl, sym, ap, subst, inl, inr, ⊎_elim, arith}
use Rattle.std.proofs.lemmas.Bool.{cases_lt}
use Rattle.qs_tree.specs.Lists.{◌∈◌}
use Rattle.qs_graph.specs.Graphs.{Arc, QGraph, IsNode, IsValid}
use Rattle.qs_tree.proofs.Members.{in_at, mapped}
use Rattle.qs_firing.specs.Firings.{Firing}
use Rattle.qs_canon.specs.Rounds.{Stage, firings}
use Rattle.qs_canon.proofs.Keeping.{HasPath}
use Rattle.qs_clean.specs.declared.links.Link.{Link}
use Rattle.qs_clean.specs.working.Links.{Reaches, turned}
use Rattle.qs_clean.specs.working.Steps.{each_pair, free_link, AreMarks}
use Rattle.qs_clean.specs.Cleaning.{IsDenoted, Cleans, IsLeft}
use Rattle.qs_clean.proofs.ArcLists.{free_from_link, reaches_last}
use Rattle.qs_clean.proofs.Renumbered.{new_arcs, new_graph, none_left, graph_left, graph_valid}
use Rattle.qs_clean.proofs.MarkDecisions.{marks_from, length-marks, marks_are, decide_denoted, decide_reaches}
use Rattle.qs_clean.proofs.Outcomes.{one_clean}
use Rattle.qs_graph.proofs.Paths.{leads_low}

-- links between nodes lead to nodes alone
reached_node : (G : QGraph) (links : List Link) → ((link : Link) → link ∈ links → IsNode G link.to) → (a n : ℕ) → IsNode G a → Reaches links a n → n < G.nodes + 1
reached_node G links nodes a n at r = ⊎_elim
    (λ e. omega (arith, at.1, e))
    (λ l. omega (arith, (nodes l.0 l.1).1, l.3))
    (reaches_last r)

module _ (S : Stage) (valid : IsValid S.graph) (paths : (f : Firing) → f ∈ firings S → HasPath S.graph.arcs f) where
  abbrev entry : ℕ
  entry = valid.entry.one

  abbrev exit : ℕ
  exit = valid.exit.one

  abbrev denoted : List Bool
  denoted = marks_from (IsDenoted S) (decide_denoted S) 0 (length S.graph.arcs)

  abbrev links : List Link
  links = each_pair free_link S.graph.arcs denoted

  abbrev back : List Link
  back = map turned links

  abbrev from_entry : List Bool
  from_entry = marks_from (λ n. Reaches links entry n) (λ n. decide_reaches links entry n) 0 (S.graph.nodes + 1)

  abbrev to_exit : List Bool
  to_exit = marks_from (λ n. Reaches back exit n) (λ n. decide_reaches back exit n) 0 (S.graph.nodes + 1)

  denoted_within : (k : ℕ) → IsDenoted S k → k < length S.graph.arcs
  denoted_within k d = let p = paths d.by d.done in leads_low S.graph.arcs p.from d.by.path p.to p.is.leads k d.used

  link_nodes : (link : Link) → link ∈ links → IsNode S.graph link.from × IsNode S.graph link.to
  link_nodes link i =
      let f = free_from_link S.graph.arcs denoted link i in
      let h = valid.in_range f.arc (in_at S.graph.arcs f.number f.arc f.is) in
      (subst (IsNode S.graph) f.from h.0, subst (IsNode S.graph) f.to h.1)

  back_node : (link : Link) → link ∈ back → IsNode S.graph link.to
  back_node link i =
      let (first, j, e) = mapped turned links link i in
      subst (IsNode S.graph) (ap (λ (l : Link). l.to) (sym e)) (link_nodes first j).0

  marks : AreMarks S entry exit denoted from_entry to_exit
  marks = record {
    denoted_len = length-marks (IsDenoted S) (decide_denoted S) 0 (length S.graph.arcs);
    from_entry_len = length-marks (λ n. Reaches links entry n) (λ n. decide_reaches links entry n) 0 (S.graph.nodes + 1);
    to_exit_len = length-marks (λ n. Reaches back exit n) (λ n. decide_reaches back exit n) 0 (S.graph.nodes + 1);
    denoted_are = marks_are (IsDenoted S) (decide_denoted S) (length S.graph.arcs) denoted_within;
    from_entry_are = marks_are (λ n. Reaches links entry n) (λ n. decide_reaches links entry n) (S.graph.nodes + 1)
        (λ n r. reached_node S.graph links (λ l i. (link_nodes l i).1) entry n valid.entry.holds.node r);
    to_exit_are = marks_are (λ n. Reaches back exit n) (λ n. decide_reaches back exit n) (S.graph.nodes + 1)
        (λ n r. reached_node S.graph back back_node exit n valid.exit.holds.node r);
  }

  abbrev arcs : List Arc
  arcs = new_arcs S entry exit denoted from_entry to_exit marks valid valid.entry.holds valid.exit.holds

  -- what is left, and that it is valid
  pub the_left : (Cleans S (record { nodes = 0; arcs = [] })) ⊎ ((H : QGraph) × Cleans S H × (0 < length H.arcs) × IsValid H)
  the_left = ⊎_elim
      (λ some. inr (
        new_graph S entry exit denoted from_entry to_exit marks valid valid.entry.holds valid.exit.holds,
        graph_left S entry exit denoted from_entry to_exit marks valid valid.entry.holds valid.exit.holds some,
        some,
        graph_valid S entry exit denoted from_entry to_exit marks valid valid.entry.holds valid.exit.holds some,
      ))
      (λ none. inl (none_left S entry exit denoted from_entry to_exit marks valid valid.entry.holds valid.exit.holds (omega arith)))
      (cases_lt 0 (length arcs))

  pub something_left : (r : Option QGraph) × IsLeft S r
  something_left = ⊎_elim
      (λ none. (None, (record { nodes = 0; arcs = [] }, none, refl)))
      (λ (H, cleans, some, ok). (Some H, (cleans, some)))
      the_left

  pub left_valid : (H : QGraph) → Cleans S H → 0 < length H.arcs → IsValid H
  left_valid H cleans some = ⊎_elim
      (λ none. absurd (omega (arith, some, ap (λ (G : QGraph). length G.arcs) (one_clean S H (record { nodes = 0; arcs = [] }) cleans none))))
      (λ (I, is, more, ok). subst IsValid (one_clean S I H is cleans) ok)
      the_left
