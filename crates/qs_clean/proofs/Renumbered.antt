-- The graph that is left is valid, and it is what cleaning leaves.
use Rattle.std.proofs.Common.{◌≡◌, ℕ, ◌<◌, Bool, List, [], ◌∷◌, length, map, get_or, slice_get, Some, refl, sym, ◌∙◌, ap, subst, inl, ⊎_elim, arith}
use Rattle.std.proofs.lemmas.List.{nil_from_length}
use Rattle.qs_tree.specs.Lists.{◌∈◌}
use Rattle.qs_graph.specs.Graphs.{Arc, QGraph, IsNode, IsEntry, IsExit, IsValid, arcs_at}
use Rattle.qs_graph.specs.Kept.{IsKept}
use Rattle.qs_tree.proofs.Members.{in_at, mapped, in_map, map-same}
use Rattle.qs_graph.proofs.Paths.{path_above, Joined, joined_arc, joined_on, not_joined}
use Rattle.qs_canon.specs.Rounds.{Stage}
use Rattle.qs_clean.specs.working.Steps.{each_pair, marked, numbering, numbered_arc, if_kept, AreMarks}
use Rattle.qs_clean.specs.Cleaning.{Cleans, IsEndOf, number_in, renumbered}
use Rattle.qs_clean.proofs.Places.{places_ascend, in_places, length-places, numbering-number_in, number_range, number_one, number_all}
use Rattle.qs_clean.proofs.ArcLists.{in_arcs_at, to_arcs_at, arcs_at-places, each_if_kept, length-if_kept, length-keeps}
use Rattle.qs_clean.proofs.Keeping.{kept, left, kept_marks, left_marks, kept_arc, kept_are, kept_ends, kept_into, kept_out_of, entry_left, exit_left, left_are}

member_some : {X : Type 0} (xs : List X) (x : X) → x ∈ xs → 0 < length xs
member_some [] x i = absurd i
member_some (y ∷ xs) x i = omega arith

some_member : {X : Type 0} (xs : List X) → 0 < length xs → (x : X) × (x ∈ xs)
some_member [] l = absurd (omega arith)
some_member (x ∷ xs) l = (x, inl refl)

module _ (S : Stage) (entry exit : ℕ) (denoted from_entry to_exit : List Bool) (are : AreMarks S entry exit denoted from_entry to_exit)
    (valid : IsValid S.graph) (is_entry : IsEntry S.graph entry) (is_exit : IsExit S.graph exit) where
  abbrev ks : List ℕ
  ks = kept S entry exit denoted from_entry to_exit are

  abbrev ns : List ℕ
  ns = left S entry exit denoted from_entry to_exit are

  abbrev kept_bits : List Bool
  kept_bits = kept_marks S entry exit denoted from_entry to_exit are

  abbrev left_bits : List Bool
  left_bits = left_marks S entry exit denoted from_entry to_exit are

  abbrev number : ℕ → ℕ
  number = number_in 1 ns

  abbrev H : QGraph
  H = record { nodes = length ns; arcs = map (renumbered ns) (arcs_at S.graph.arcs ks) }

  -- an arc of the graph that is left, and the arc that it was
  record WasArc (arc : Arc) : Type 0 where
    was : Arc
    is_in : was ∈ S.graph.arcs
    from_left : was.from ∈ ns
    to_left : was.to ∈ ns
    from : arc.from ≡ number was.from
    to : arc.to ≡ number was.to

  was_arc : (arc : Arc) → arc ∈ H.arcs → WasArc arc
  was_arc arc i =
      let (was, j, e) = mapped (renumbered ns) (arcs_at S.graph.arcs ks) arc i in
      let (k, m, is) = in_arcs_at S.graph.arcs ks was j in
      let ends = kept_ends S entry exit denoted from_entry to_exit are k was m is in
      record {
        was = was;
        is_in = in_at S.graph.arcs k was is;
        from_left = ends.0;
        to_left = ends.1;
        from = ap (λ (x : Arc). x.from) e;
        to = ap (λ (x : Arc). x.to) e;
      }

  is_arc : (k : ℕ) (arc : Arc) → k ∈ ks → slice_get S.graph.arcs k ≡ Some arc → renumbered ns arc ∈ H.arcs
  is_arc k arc i is = in_map (renumbered ns) (arcs_at S.graph.arcs ks) arc (to_arcs_at S.graph.arcs ks k arc i is)

  node : (n : ℕ) → n ∈ ns → IsNode H (number n)
  node n i = let r = number_range 1 ns n i in (r.0, omega arith)

  -- nodes are joined as they were
  record Above (p q : ℕ) : Type 0 where
    below : ℕ
    above : ℕ
    below_in : below ∈ ns
    above_in : above ∈ ns
    is_below : p ≡ number below
    is_above : q ≡ number above
    joined : Joined S.graph.arcs below above

  above_on : (p q r : ℕ) → Above p q → Above q r → Above p r
  above_on p q r f g =
      let same : f.above ≡ g.below = number_one 1 ns f.above g.below f.above_in g.below_in (sym f.is_above ∙ g.is_below) in
      record {
        below = f.below;
        above = g.above;
        below_in = f.below_in;
        above_in = g.above_in;
        is_below = f.is_below;
        is_above = g.is_above;
        joined = joined_on S.graph.arcs f.below g.below g.above (subst (Joined S.graph.arcs f.below) same f.joined) g.joined;
      }

  not_above : (p : ℕ) → Above p p → ⊥
  not_above p f =
      let same : f.below ≡ f.above = number_one 1 ns f.below f.above f.below_in f.above_in (sym f.is_below ∙ f.is_above) in
      not_joined S.graph valid f.above (subst (λ n. Joined S.graph.arcs n f.above) same f.joined)

  rises : (arc : Arc) → arc ∈ H.arcs → Above arc.from arc.to
  rises arc i =
      let w = was_arc arc i in
      record {
        below = w.was.from;
        above = w.was.to;
        below_in = w.from_left;
        above_in = w.to_left;
        is_below = w.from;
        is_above = w.to;
        joined = joined_arc S.graph.arcs w.was w.is_in;
      }

  module _ (some : ℕ) (some_kept : some ∈ ks) where
    entry_in : entry ∈ ns
    entry_in = entry_left S entry exit denoted from_entry to_exit are some some_kept

    exit_in : exit ∈ ns
    exit_in = exit_left S entry exit denoted from_entry to_exit are some some_kept

    new_entry : IsEntry H (number entry)
    new_entry = record {
      node = node entry entry_in;
      none_in = λ arc i e.
          let w = was_arc arc i in
          is_entry.none_in w.was w.is_in (number_one 1 ns w.was.to entry w.to_left entry_in (sym w.to ∙ e));
    }

    new_exit : IsExit H (number exit)
    new_exit = record {
      node = node exit exit_in;
      none_out = λ arc i e.
          let w = was_arc arc i in
          is_exit.none_out w.was w.is_in (number_one 1 ns w.was.from exit w.from_left exit_in (sym w.from ∙ e));
    }

    one_entry : (m : ℕ) → IsEntry H m → m ≡ number entry
    one_entry m e =
        let (n, i, is) = number_all 1 ns (places_ascend 0 left_bits) m e.node.0 (omega (arith, e.node.1)) in
        ⊎_elim
        (λ s. sym is ∙ ap number (sym s))
        (λ o. absurd (e.none_in (renumbered ns o.1) (is_arc o.0 o.1 o.2 o.3) (ap number o.4 ∙ is)))
        (kept_into S entry exit denoted from_entry to_exit are n i)

    one_exit : (m : ℕ) → IsExit H m → m ≡ number exit
    one_exit m e =
        let (n, i, is) = number_all 1 ns (places_ascend 0 left_bits) m e.node.0 (omega (arith, e.node.1)) in
        ⊎_elim
        (λ s. sym is ∙ ap number s)
        (λ o. absurd (e.none_out (renumbered ns o.1) (is_arc o.0 o.1 o.2 o.3) (ap number o.4 ∙ is)))
        (kept_out_of S entry exit denoted from_entry to_exit are n i)

    some_arc : 0 < length H.arcs
    some_arc =
        let one = kept_arc S entry exit denoted from_entry to_exit are some ((in_places kept_bits some).0 some_kept) in
        member_some H.arcs (renumbered ns one.arc) (is_arc some one.arc some_kept one.is)

    pub valid_left : IsValid H
    valid_left = record {
      some_arc = some_arc;
      in_range = λ arc i.
          let w = was_arc arc i in
          (subst (IsNode H) (sym w.from) (node w.was.from w.from_left), subst (IsNode H) (sym w.to) (node w.was.to w.to_left));
      no_cycle = λ a path p. not_above a (path_above Above above_on H.arcs rises a path a p);
      entry = record { one = number entry; holds = new_entry; only = one_entry };
      exit = record { one = number exit; holds = new_exit; only = one_exit };
    }

    pub cleans_left : Cleans S H
    cleans_left = record {
      kept = ks;
      kept_ascend = places_ascend 0 kept_bits;
      kept_are = kept_are S entry exit denoted from_entry to_exit are valid is_entry is_exit;
      left = ns;
      left_ascend = places_ascend 0 left_bits;
      left_are = left_are S entry exit denoted from_entry to_exit are some some_kept;
      nodes = refl;
      arcs = refl;
    }

  -- the graph as the program has it
  abbrev numbers : List ℕ
  numbers = numbering 0 left_bits

  abbrev pub new_arcs : List Arc
  new_arcs = each_pair (if_kept numbers) S.graph.arcs kept_bits

  abbrev pub new_graph : QGraph
  new_graph = record { nodes = marked left_bits; arcs = new_arcs }

  kept_bits_len : length kept_bits ≡ length S.graph.arcs
  kept_bits_len = length-keeps from_entry to_exit S.graph.arcs denoted are.denoted_len

  same_numbers : (arc : Arc) → arc ∈ arcs_at S.graph.arcs ks → numbered_arc numbers arc ≡ renumbered ns arc
  same_numbers arc i =
      let (k, m, is) = in_arcs_at S.graph.arcs ks arc i in
      let ends = kept_ends S entry exit denoted from_entry to_exit are k arc m is in
      let from : get_or numbers arc.from 0 ≡ number arc.from = numbering-number_in left_bits arc.from ((in_places left_bits arc.from).0 ends.0) in
      let to : get_or numbers arc.to 0 ≡ number arc.to = numbering-number_in left_bits arc.to ((in_places left_bits arc.to).0 ends.1) in
      λ j. record { from = from j; to = to j; tree = arc.tree }

  arcs_are : new_arcs ≡ H.arcs
  arcs_are =
      each_if_kept numbers S.graph.arcs kept_bits
      ∙ ap (map (numbered_arc numbers)) (sym (arcs_at-places S.graph.arcs kept_bits kept_bits_len))
      ∙ map-same (numbered_arc numbers) (renumbered ns) (arcs_at S.graph.arcs ks) same_numbers

  graph_is : new_graph ≡ H
  graph_is =
      let nodes : marked left_bits ≡ length ns = sym (length-places 0 left_bits) in
      λ j. record { nodes = nodes j; arcs = arcs_are j }

  -- where no arc is kept, cleaning leaves none
  pub none_left : length new_arcs ≡ 0 → Cleans S (record { nodes = 0; arcs = [] })
  none_left none =
      let nothing : ks ≡ [] = nil_from_length ks (omega (arith, length-places 0 kept_bits, length-if_kept numbers S.graph.arcs kept_bits kept_bits_len)) in
      let no_arcs : arcs_at S.graph.arcs ks ≡ [] = ap (arcs_at S.graph.arcs) nothing in
      record {
        kept = ks;
        kept_ascend = places_ascend 0 kept_bits;
        kept_are = kept_are S entry exit denoted from_entry to_exit are valid is_entry is_exit;
        left = [];
        left_ascend = tt;
        left_are = λ n. ((λ i. absurd i), (λ i. (subst (λ (arcs : List Arc). IsEndOf arcs n) no_arcs i).1));
        nodes = refl;
        arcs = ap (map (renumbered [])) (sym no_arcs);
      }

  -- where one is kept, cleaning leaves the program's graph, and it is valid
  module _ (some : 0 < length new_arcs) where
    a_kept : (k : ℕ) × (k ∈ ks)
    a_kept = some_member ks (omega (arith, length-places 0 kept_bits, length-if_kept numbers S.graph.arcs kept_bits kept_bits_len))

    pub graph_left : Cleans S new_graph
    graph_left = subst (Cleans S) (sym graph_is) (cleans_left a_kept.0 a_kept.1)

    pub graph_valid : IsValid new_graph
    graph_valid = subst IsValid (sym graph_is) (valid_left a_kept.0 a_kept.1)

    pub graph_kept : length new_arcs < 4294967295 → IsKept new_graph (get_or numbers entry 0) (get_or numbers exit 0)
    graph_kept few =
        let at_entry : get_or numbers entry 0 ≡ number entry = numbering-number_in left_bits entry ((in_places left_bits entry).0 (entry_in a_kept.0 a_kept.1)) in
        let at_exit : get_or numbers exit 0 ≡ number exit = numbering-number_in left_bits exit ((in_places left_bits exit).0 (exit_in a_kept.0 a_kept.1)) in
        record {
          valid = graph_valid;
          entry_is = subst (λ G. IsEntry G (get_or numbers entry 0)) (sym graph_is) (subst (IsEntry H) (sym at_entry) (new_entry a_kept.0 a_kept.1));
          exit_is = subst (λ G. IsExit G (get_or numbers exit 0)) (sym graph_is) (subst (IsExit H) (sym at_exit) (new_exit a_kept.0 a_kept.1));
          few = few;
        }
