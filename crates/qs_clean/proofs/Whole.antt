-- The parts of cleaning put together, over the lists that the program has.
use Rattle.std.proofs.Common.{◌≡◌, ◌↔◌, ℕ, ◌+◌, ◌<◌, ◌≤◌, ◌==◌, Bool, false, true, List, [], length, map, get_or, sym, ◌∙◌, ap, subst, arith}
use Rattle.std.proofs.lemmas.Bool.Decides.{nat_tests}
use Rattle.std.proofs.lemmas.List.{get_or_read}
use Rattle.qs_tree.specs.Lists.{◌∈◌}
use Rattle.qs_graph.specs.Graphs.{Arc, QGraph}
use Rattle.qs_graph.specs.Kept.{IsKept}
use Rattle.qs_canon.specs.Rounds.{Done}
use Rattle.qs_canon.specs.Closures.{ClosureOf}
use Rattle.qs_clean.specs.declared.links.Link.{Link}
use Rattle.qs_clean.specs.Marks.{IsMarked}
use Rattle.qs_clean.specs.working.Links.{Reaches, turned}
use Rattle.qs_clean.specs.working.Steps.{IsUsed, each_pair, free_link, keeps_mark, both, marked, numbering, if_kept, AreMarks}
use Rattle.qs_clean.specs.Cleaning.{IsClosureOfValid, Stays, Cleans}
use Rattle.qs_clean.proofs.Places.{length-both, length-numbering}
use Rattle.qs_clean.proofs.ArcLists.{length-keeps, length-if_kept}
use Rattle.qs_clean.proofs.Keeping.{stays_from, stays_to}
use Rattle.qs_clean.proofs.Renumbered.{none_left, graph_left, graph_kept}
use Rattle.qs_clean.proofs.Closures.{stage_valid, entry_is, exit_is, denoted_used, left_few, kept_few}

pub zero_tested : (b : Bool) (n : ℕ) → b ≡ (n == 0) → b ≡ true → n ≡ 0
zero_tested b n e t = grind (arith, nat_tests)

pub some_tested : (b : Bool) (n : ℕ) → b ≡ (n == 0) → b ≡ false → 0 < n
some_tested b n e t = grind (arith, nat_tests)

-- the lists of marks, put together
pub marks_are : (V : ClosureOf) → IsClosureOfValid V → (denoted from_entry to_exit : List Bool) (done : List Done) (links back : List Link)
    → length denoted ≡ length V.stage.graph.arcs → length from_entry ≡ V.stage.graph.nodes + 1 → length to_exit ≡ V.stage.graph.nodes + 1
    → done ≡ V.stage.done → links ≡ each_pair free_link V.stage.graph.arcs denoted → back ≡ map turned links
    → ((k : ℕ) → IsMarked denoted k ↔ IsUsed done k) → ((n : ℕ) → IsMarked from_entry n ↔ Reaches links V.entry n) → ((n : ℕ) → IsMarked to_exit n ↔ Reaches back V.exit n)
    → AreMarks V.stage V.entry V.exit denoted from_entry to_exit
marks_are V v denoted from_entry to_exit done links back dl fl tl same links_are back_are d f t = record {
  denoted_len = dl;
  from_entry_len = fl;
  to_exit_len = tl;
  denoted_are = λ k.
      let u : IsMarked denoted k ↔ IsUsed V.stage.done k = subst (λ ds. IsMarked denoted k ↔ IsUsed ds k) same (d k) in
      let w = denoted_used V v k in
      ((λ m. w.0 (u.0 m)), (λ m. u.1 (w.1 m)));
  from_entry_are = λ n. subst (λ ls. IsMarked from_entry n ↔ Reaches ls V.entry n) links_are (f n);
  to_exit_are = λ n. subst (λ ls. IsMarked to_exit n ↔ Reaches ls V.exit n) (back_are ∙ ap (map turned) links_are) (t n);
}

module _ (V : ClosureOf) (v : IsClosureOfValid V) where
  -- the ends of arcs have marks
  pub from_in : (arcs : List Arc) (many : ℕ) → arcs ≡ V.stage.graph.arcs → many ≡ V.stage.graph.nodes + 1 → (arc : Arc) → arc ∈ arcs → arc.from < many
  from_in arcs many e l arc i = let h = (stage_valid V v).in_range arc (subst (λ (all : List Arc). arc ∈ all) e i) in omega (arith, h.0.1)

  pub to_in : (arcs : List Arc) (many : ℕ) → arcs ≡ V.stage.graph.arcs → many ≡ V.stage.graph.nodes + 1 → (arc : Arc) → arc ∈ arcs → arc.to < many
  to_in arcs many e l arc i = let h = (stage_valid V v).in_range arc (subst (λ (all : List Arc). arc ∈ all) e i) in omega (arith, h.1.1)

  module _ (denoted from_entry to_exit : List Bool) (m : AreMarks V.stage V.entry V.exit denoted from_entry to_exit) where
    abbrev pub kept_bits : List Bool
    kept_bits = each_pair (keeps_mark from_entry to_exit) V.stage.graph.arcs denoted

    abbrev pub left_bits : List Bool
    left_bits = each_pair both from_entry to_exit

    abbrev pub numbers : List ℕ
    numbers = numbering 0 left_bits

    abbrev pub new_arcs : List Arc
    new_arcs = each_pair (if_kept numbers) V.stage.graph.arcs kept_bits

    pub kept_len : length kept_bits ≡ length V.stage.graph.arcs
    kept_len = length-keeps from_entry to_exit V.stage.graph.arcs denoted m.denoted_len

    -- an arc is marked where it stays
    pub kept_stay : (marks : List Bool) → marks ≡ kept_bits → (k : ℕ) → IsMarked marks k ↔ Stays V.stage k
    kept_stay marks e k = subst (λ ms. IsMarked ms k ↔ Stays V.stage k) (sym e) (
      λ is. stays_from V.stage V.entry V.exit denoted from_entry to_exit m (stage_valid V v) (entry_is V v) (exit_is V v) k is,
      λ is. stays_to V.stage V.entry V.exit denoted from_entry to_exit m (stage_valid V v) (entry_is V v) (exit_is V v) k is,
    )

    pub left_len : length left_bits ≡ V.stage.graph.nodes + 1
    left_len = length-both from_entry to_exit (m.to_exit_len ∙ sym m.from_entry_len) ∙ m.from_entry_len

    pub numbers_len : length numbers ≡ V.stage.graph.nodes + 1
    numbers_len = length-numbering 0 left_bits ∙ left_len

    pub left_fits : length from_entry ≤ 4294967296 → (marks : List Bool) → marks ≡ left_bits → marked marks < 4294967296
    left_fits few marks e = subst (λ ms. marked ms < 4294967296) (sym e) (left_few V v denoted from_entry to_exit m few)

    -- the number that was read is the node's
    pub number_read : (ns : List ℕ) (n k : ℕ) → ns ≡ numbers → n ≤ V.stage.graph.nodes → k ≡ get_or ns n k → k ≡ get_or numbers n 0
    number_read ns n k e l read = get_or_read ns n k (omega (arith, ap length e, numbers_len)) read 0 ∙ ap (λ xs. get_or xs n 0) e

    pub is_none : (arcs : List Arc) → arcs ≡ new_arcs → length arcs ≡ 0 → Cleans V.stage (record { nodes = 0; arcs = [] })
    is_none arcs e none = none_left V.stage V.entry V.exit denoted from_entry to_exit m (stage_valid V v) (entry_is V v) (exit_is V v) (sym (ap length e) ∙ none)

    module _ (nodes : ℕ) (arcs : List Arc) (nodes_are : nodes ≡ marked left_bits) (arcs_are : arcs ≡ new_arcs) (some : 0 < length arcs) where
      same : ◌≡◌ {A = QGraph} (record { nodes = nodes; arcs = arcs }) (record { nodes = marked left_bits; arcs = new_arcs })
      same = λ i. record { nodes = nodes_are i; arcs = arcs_are i }

      some_new : 0 < length new_arcs
      some_new = omega (arith, ap length arcs_are)

      pub is_left : Cleans V.stage (record { nodes = nodes; arcs = arcs })
      is_left = subst (Cleans V.stage) (sym same) (graph_left V.stage V.entry V.exit denoted from_entry to_exit m (stage_valid V v) (entry_is V v) (exit_is V v) some_new)

      pub is_kept : (a b : ℕ) → a ≡ get_or numbers V.entry 0 → b ≡ get_or numbers V.exit 0 → IsKept (record { nodes = nodes; arcs = arcs }) a b
      is_kept a b at_a at_b =
          let few : length new_arcs < 4294967295 = omega (arith, length-if_kept numbers V.stage.graph.arcs kept_bits kept_len, kept_few V v denoted from_entry to_exit m) in
          let kept = graph_kept V.stage V.entry V.exit denoted from_entry to_exit m (stage_valid V v) (entry_is V v) (exit_is V v) some_new few in
          rw (at_a, at_b) (subst (λ G. IsKept G (get_or numbers V.entry 0) (get_or numbers V.exit 0)) (sym same) kept)
