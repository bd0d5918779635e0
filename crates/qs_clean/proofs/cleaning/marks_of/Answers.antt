use Rattle.std.proofs.Common.{◌≡◌, List, length, map, sym, ◌∙◌, ap, subst, arith}
use Rattle.qs_tree.specs.Lists.{◌∈◌}
use Rattle.qs_canon.specs.Rounds.{Done}
use Rattle.qs_canon.specs.Closures.{ClosureOf}
use Rattle.qs_canon.specs.contracts.closure.Closure as closure
use Rattle.qs_clean.specs.working.Links.{turned}
use Rattle.qs_clean.specs.working.Steps.{each_pair, free_link, AreMarks}
use Rattle.qs_clean.specs.Cleaning.{IsClosureOfValid}
use Rattle.qs_clean.proofs.Closures.{entry_is, exit_is, path_within, links_in, turned_in}
use Rattle.qs_clean.proofs.Whole.{marks_are}
use Rattle.qs_clean.proofs.cleaning.marks_of.Goals as goal

pub denoted_arcs-requires : goal.denoted_arcs-requires
denoted_arcs-requires c = λ d i k j.
    let v : IsClosureOfValid (closure.the_view c.closure.inside) = subst IsClosureOfValid (sym c.closure.view_is) c.requires in
    let low = path_within (closure.the_view c.closure.inside) v d (subst (λ (ds : List Done). d ∈ ds) c.deref.ensures.value i) k j in
    omega (arith, c.len.ensures, c.closure.inside.edges.ok.0)

pub reached-requires-clause-start_in : goal.reached-requires-clause-start_in
reached-requires-clause-start_in c =
    let v : IsClosureOfValid (closure.the_view c.closure.inside) = subst IsClosureOfValid (sym c.closure.view_is) c.requires in
    (entry_is (closure.the_view c.closure.inside) v).node.1

pub reached-requires-clause-links_in : goal.reached-requires-clause-links_in
reached-requires-clause-links_in c = λ link i.
    let v : IsClosureOfValid (closure.the_view c.closure.inside) = subst IsClosureOfValid (sym c.closure.view_is) c.requires in
    let are : c.deref-4.result.now ≡ each_pair free_link c.closure.inside.edges.items c.in_ok-denoted.denoted.items =
    c.deref-4.ensures.value ∙ c.in_ok-links.ensures ∙ (λ j. each_pair free_link (c.deref-2.ensures.value j) (c.deref-3.ensures.value j)) in
    let h = links_in (closure.the_view c.closure.inside) v c.in_ok-denoted.denoted.items c.deref-4.result.now are link i in
    (h.0.1, h.1.1)

pub reached-requires-2-clause-start_in : goal.reached-requires-2-clause-start_in
reached-requires-2-clause-start_in c =
    let v : IsClosureOfValid (closure.the_view c.closure.inside) = subst IsClosureOfValid (sym c.closure.view_is) c.requires in
    (exit_is (closure.the_view c.closure.inside) v).node.1

pub reached-requires-2-clause-links_in : goal.reached-requires-2-clause-links_in
reached-requires-2-clause-links_in c = λ link i.
    let v : IsClosureOfValid (closure.the_view c.closure.inside) = subst IsClosureOfValid (sym c.closure.view_is) c.requires in
    let are : c.in_ok-links.links.items ≡ each_pair free_link c.closure.inside.edges.items c.in_ok-denoted.denoted.items =
    c.in_ok-links.ensures ∙ (λ j. each_pair free_link (c.deref-2.ensures.value j) (c.deref-3.ensures.value j)) in
    let back : c.deref-6.result.now ≡ map turned c.in_ok-links.links.items = c.deref-6.ensures.value ∙ c.in_ok-back.ensures ∙ ap (map turned) c.deref-5.ensures.value in
    let h = turned_in (closure.the_view c.closure.inside) v c.in_ok-denoted.denoted.items c.in_ok-links.links.items are c.deref-6.result.now back link i in
    (h.0.1, h.1.1)

pub returns-clause-marks : goal.returns-clause-marks
returns-clause-marks c =
    let v : IsClosureOfValid (closure.the_view c.closure.inside) = subst IsClosureOfValid (sym c.closure.view_is) c.requires in
    let long : length c.in_ok-denoted.denoted.items ≡ length c.closure.inside.edges.items = omega (arith, c.in_ok-denoted.ensures.len, c.len.ensures, c.closure.inside.edges.ok.0) in
    let are : c.deref-4.result.now ≡ each_pair free_link c.closure.inside.edges.items c.in_ok-denoted.denoted.items =
    c.deref-4.ensures.value ∙ c.in_ok-links.ensures ∙ (λ j. each_pair free_link (c.deref-2.ensures.value j) (c.deref-3.ensures.value j)) in
    let back : c.deref-6.result.now ≡ map turned c.deref-4.result.now =
    c.deref-6.ensures.value ∙ c.in_ok-back.ensures ∙ ap (map turned) (c.deref-5.ensures.value ∙ sym c.deref-4.ensures.value) in
    let marks = marks_are (closure.the_view c.closure.inside) v c.in_ok-denoted.denoted.items c.in_ok-from_entry.from_entry.items c.in_ok-to_exit.to_exit.items
    c.deref.result.now c.deref-4.result.now c.deref-6.result.now long c.in_ok-from_entry.ensures.len c.in_ok-to_exit.ensures.len c.deref.ensures.value are back
    c.in_ok-denoted.ensures.marks c.in_ok-from_entry.ensures.marks c.in_ok-to_exit.ensures.marks in
    subst (λ (V : ClosureOf). AreMarks V.stage V.entry V.exit c.in_ok-denoted.denoted.items c.in_ok-from_entry.from_entry.items c.in_ok-to_exit.to_exit.items) c.closure.view_is marks
