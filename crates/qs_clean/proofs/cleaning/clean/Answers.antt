use Rattle.std.proofs.Common.{◌≡◌, ◌<◌, [], length, refl, sym, ◌∙◌, ap, subst, arith}
use Rattle.qs_graph.specs.Graphs.{QGraph}
use Rattle.qs_canon.specs.Closures.{ClosureOf}
use Rattle.qs_canon.specs.contracts.closure.Closure as closure
use Rattle.qs_clean.specs.working.Steps.{each_pair, keeps_mark, both, numbering, if_kept, marked, AreMarks}
use Rattle.qs_clean.specs.Cleaning.{IsClosureOfValid, Cleans}
use Rattle.qs_clean.proofs.Closures.{entry_is, exit_is}
use Rattle.qs_clean.proofs.Whole.{zero_tested, some_tested, from_in, to_in, kept_bits, left_bits, numbers, new_arcs, kept_len, left_fits, numbers_len, number_read, is_none, is_left, is_kept}
use Rattle.qs_clean.proofs.cleaning.clean.Goals as goal

pub kept_arcs-requires-clause-from_in : goal.kept_arcs-requires-clause-from_in
kept_arcs-requires-clause-from_in c =
    let v : IsClosureOfValid (closure.the_view c.closure.inside) = subst IsClosureOfValid (sym c.closure.view_is) c.requires in
    let m : AreMarks (closure.the_view c.closure.inside).stage (closure.the_view c.closure.inside).entry (closure.the_view c.closure.inside).exit c.in_ok-marks.marks.denoted.items c.in_ok-marks.marks.from_entry.items c.in_ok-marks.marks.to_exit.items =
    subst (λ (V : ClosureOf). AreMarks V.stage V.entry V.exit c.in_ok-marks.marks.denoted.items c.in_ok-marks.marks.from_entry.items c.in_ok-marks.marks.to_exit.items) (sym c.closure.view_is) c.in_ok-marks.ensures.marks in
    from_in (closure.the_view c.closure.inside) v c.deref.result.now (length c.deref-3.result.now) c.deref.ensures.value (ap length c.deref-3.ensures.value ∙ m.from_entry_len)

pub kept_arcs-requires-clause-to_in : goal.kept_arcs-requires-clause-to_in
kept_arcs-requires-clause-to_in c =
    let v : IsClosureOfValid (closure.the_view c.closure.inside) = subst IsClosureOfValid (sym c.closure.view_is) c.requires in
    let m : AreMarks (closure.the_view c.closure.inside).stage (closure.the_view c.closure.inside).entry (closure.the_view c.closure.inside).exit c.in_ok-marks.marks.denoted.items c.in_ok-marks.marks.from_entry.items c.in_ok-marks.marks.to_exit.items =
    subst (λ (V : ClosureOf). AreMarks V.stage V.entry V.exit c.in_ok-marks.marks.denoted.items c.in_ok-marks.marks.from_entry.items c.in_ok-marks.marks.to_exit.items) (sym c.closure.view_is) c.in_ok-marks.ensures.marks in
    to_in (closure.the_view c.closure.inside) v c.deref.result.now (length c.deref-4.result.now) c.deref.ensures.value (ap length c.deref-4.ensures.value ∙ m.to_exit_len)

pub numbered-requires : goal.numbered-requires
numbered-requires c =
    let v : IsClosureOfValid (closure.the_view c.closure.inside) = subst IsClosureOfValid (sym c.closure.view_is) c.requires in
    let m : AreMarks (closure.the_view c.closure.inside).stage (closure.the_view c.closure.inside).entry (closure.the_view c.closure.inside).exit c.in_ok-marks.marks.denoted.items c.in_ok-marks.marks.from_entry.items c.in_ok-marks.marks.to_exit.items =
    subst (λ (V : ClosureOf). AreMarks V.stage V.entry V.exit c.in_ok-marks.marks.denoted.items c.in_ok-marks.marks.from_entry.items c.in_ok-marks.marks.to_exit.items) (sym c.closure.view_is) c.in_ok-marks.ensures.marks in
    let left_is : c.in_ok-left.left.items ≡ left_bits (closure.the_view c.closure.inside) v c.in_ok-marks.marks.denoted.items c.in_ok-marks.marks.from_entry.items c.in_ok-marks.marks.to_exit.items m =
    c.in_ok-left.ensures ∙ (λ j. each_pair both (c.deref-5.ensures.value j) (c.deref-6.ensures.value j)) in
    left_fits (closure.the_view c.closure.inside) v c.in_ok-marks.marks.denoted.items c.in_ok-marks.marks.from_entry.items c.in_ok-marks.marks.to_exit.items m c.in_ok-marks.ensures.few c.deref-7.result.now (c.deref-7.ensures.value ∙ left_is)

pub left_arcs-requires-clause-len : goal.left_arcs-requires-clause-len
left_arcs-requires-clause-len c =
    let v : IsClosureOfValid (closure.the_view c.closure.inside) = subst IsClosureOfValid (sym c.closure.view_is) c.requires in
    let m : AreMarks (closure.the_view c.closure.inside).stage (closure.the_view c.closure.inside).entry (closure.the_view c.closure.inside).exit c.in_ok-marks.marks.denoted.items c.in_ok-marks.marks.from_entry.items c.in_ok-marks.marks.to_exit.items =
    subst (λ (V : ClosureOf). AreMarks V.stage V.entry V.exit c.in_ok-marks.marks.denoted.items c.in_ok-marks.marks.from_entry.items c.in_ok-marks.marks.to_exit.items) (sym c.closure.view_is) c.in_ok-marks.ensures.marks in
    let kept_is : c.in_ok-kept.kept.items ≡ kept_bits (closure.the_view c.closure.inside) v c.in_ok-marks.marks.denoted.items c.in_ok-marks.marks.from_entry.items c.in_ok-marks.marks.to_exit.items m =
    c.in_ok-kept.ensures ∙ (λ j. each_pair (keeps_mark (c.deref-3.ensures.value j) (c.deref-4.ensures.value j)) (c.deref.ensures.value j) (c.deref-2.ensures.value j)) in
    ap length (c.deref-9.ensures.value ∙ kept_is) ∙ kept_len (closure.the_view c.closure.inside) v c.in_ok-marks.marks.denoted.items c.in_ok-marks.marks.from_entry.items c.in_ok-marks.marks.to_exit.items m ∙ sym (ap length c.deref-8.ensures.value)

pub left_arcs-requires-clause-from_in : goal.left_arcs-requires-clause-from_in
left_arcs-requires-clause-from_in c =
    let v : IsClosureOfValid (closure.the_view c.closure.inside) = subst IsClosureOfValid (sym c.closure.view_is) c.requires in
    let m : AreMarks (closure.the_view c.closure.inside).stage (closure.the_view c.closure.inside).entry (closure.the_view c.closure.inside).exit c.in_ok-marks.marks.denoted.items c.in_ok-marks.marks.from_entry.items c.in_ok-marks.marks.to_exit.items =
    subst (λ (V : ClosureOf). AreMarks V.stage V.entry V.exit c.in_ok-marks.marks.denoted.items c.in_ok-marks.marks.from_entry.items c.in_ok-marks.marks.to_exit.items) (sym c.closure.view_is) c.in_ok-marks.ensures.marks in
    let left_is : c.in_ok-left.left.items ≡ left_bits (closure.the_view c.closure.inside) v c.in_ok-marks.marks.denoted.items c.in_ok-marks.marks.from_entry.items c.in_ok-marks.marks.to_exit.items m =
    c.in_ok-left.ensures ∙ (λ j. each_pair both (c.deref-5.ensures.value j) (c.deref-6.ensures.value j)) in
    let numbers_are : c.in_ok-numbers.numbers.of.items ≡ numbers (closure.the_view c.closure.inside) v c.in_ok-marks.marks.denoted.items c.in_ok-marks.marks.from_entry.items c.in_ok-marks.marks.to_exit.items m =
    c.in_ok-numbers.ensures.of ∙ ap (numbering 0) (c.deref-7.ensures.value ∙ left_is) in
    from_in (closure.the_view c.closure.inside) v c.deref-8.result.now (length c.deref-10.result.now) c.deref-8.ensures.value (ap length (c.deref-10.ensures.value ∙ numbers_are) ∙ numbers_len (closure.the_view c.closure.inside) v c.in_ok-marks.marks.denoted.items c.in_ok-marks.marks.from_entry.items c.in_ok-marks.marks.to_exit.items m)

pub left_arcs-requires-clause-to_in : goal.left_arcs-requires-clause-to_in
left_arcs-requires-clause-to_in c =
    let v : IsClosureOfValid (closure.the_view c.closure.inside) = subst IsClosureOfValid (sym c.closure.view_is) c.requires in
    let m : AreMarks (closure.the_view c.closure.inside).stage (closure.the_view c.closure.inside).entry (closure.the_view c.closure.inside).exit c.in_ok-marks.marks.denoted.items c.in_ok-marks.marks.from_entry.items c.in_ok-marks.marks.to_exit.items =
    subst (λ (V : ClosureOf). AreMarks V.stage V.entry V.exit c.in_ok-marks.marks.denoted.items c.in_ok-marks.marks.from_entry.items c.in_ok-marks.marks.to_exit.items) (sym c.closure.view_is) c.in_ok-marks.ensures.marks in
    let left_is : c.in_ok-left.left.items ≡ left_bits (closure.the_view c.closure.inside) v c.in_ok-marks.marks.denoted.items c.in_ok-marks.marks.from_entry.items c.in_ok-marks.marks.to_exit.items m =
    c.in_ok-left.ensures ∙ (λ j. each_pair both (c.deref-5.ensures.value j) (c.deref-6.ensures.value j)) in
    let numbers_are : c.in_ok-numbers.numbers.of.items ≡ numbers (closure.the_view c.closure.inside) v c.in_ok-marks.marks.denoted.items c.in_ok-marks.marks.from_entry.items c.in_ok-marks.marks.to_exit.items m =
    c.in_ok-numbers.ensures.of ∙ ap (numbering 0) (c.deref-7.ensures.value ∙ left_is) in
    to_in (closure.the_view c.closure.inside) v c.deref-8.result.now (length c.deref-10.result.now) c.deref-8.ensures.value (ap length (c.deref-10.ensures.value ∙ numbers_are) ∙ numbers_len (closure.the_view c.closure.inside) v c.in_ok-marks.marks.denoted.items c.in_ok-marks.marks.from_entry.items c.in_ok-marks.marks.to_exit.items m)

pub returns-then-is_empty : goal.returns-then-is_empty
returns-then-is_empty c =
    let v : IsClosureOfValid (closure.the_view c.closure.inside) = subst IsClosureOfValid (sym c.closure.view_is) c.requires in
    let m : AreMarks (closure.the_view c.closure.inside).stage (closure.the_view c.closure.inside).entry (closure.the_view c.closure.inside).exit c.in_ok-marks.marks.denoted.items c.in_ok-marks.marks.from_entry.items c.in_ok-marks.marks.to_exit.items =
    subst (λ (V : ClosureOf). AreMarks V.stage V.entry V.exit c.in_ok-marks.marks.denoted.items c.in_ok-marks.marks.from_entry.items c.in_ok-marks.marks.to_exit.items) (sym c.closure.view_is) c.in_ok-marks.ensures.marks in
    let kept_is : c.in_ok-kept.kept.items ≡ kept_bits (closure.the_view c.closure.inside) v c.in_ok-marks.marks.denoted.items c.in_ok-marks.marks.from_entry.items c.in_ok-marks.marks.to_exit.items m =
    c.in_ok-kept.ensures ∙ (λ j. each_pair (keeps_mark (c.deref-3.ensures.value j) (c.deref-4.ensures.value j)) (c.deref.ensures.value j) (c.deref-2.ensures.value j)) in
    let left_is : c.in_ok-left.left.items ≡ left_bits (closure.the_view c.closure.inside) v c.in_ok-marks.marks.denoted.items c.in_ok-marks.marks.from_entry.items c.in_ok-marks.marks.to_exit.items m =
    c.in_ok-left.ensures ∙ (λ j. each_pair both (c.deref-5.ensures.value j) (c.deref-6.ensures.value j)) in
    let numbers_are : c.in_ok-numbers.numbers.of.items ≡ numbers (closure.the_view c.closure.inside) v c.in_ok-marks.marks.denoted.items c.in_ok-marks.marks.from_entry.items c.in_ok-marks.marks.to_exit.items m =
    c.in_ok-numbers.ensures.of ∙ ap (numbering 0) (c.deref-7.ensures.value ∙ left_is) in
    let ns : c.deref-10.result.now ≡ numbers (closure.the_view c.closure.inside) v c.in_ok-marks.marks.denoted.items c.in_ok-marks.marks.from_entry.items c.in_ok-marks.marks.to_exit.items m = c.deref-10.ensures.value ∙ numbers_are in
    let bits : c.deref-9.result.now ≡ kept_bits (closure.the_view c.closure.inside) v c.in_ok-marks.marks.denoted.items c.in_ok-marks.marks.from_entry.items c.in_ok-marks.marks.to_exit.items m = c.deref-9.ensures.value ∙ kept_is in
    let edges_are : c.in_ok-edges.edges.items ≡ new_arcs (closure.the_view c.closure.inside) v c.in_ok-marks.marks.denoted.items c.in_ok-marks.marks.from_entry.items c.in_ok-marks.marks.to_exit.items m =
    c.in_ok-edges.ensures ∙ (λ j. each_pair (if_kept (ns j)) (c.deref-8.ensures.value j) (bits j)) in
    let none : length c.in_ok-edges.edges.items ≡ 0 = omega (arith, zero_tested c.is_empty.result _ c.is_empty.ensures c.if-is_empty.true, c.in_ok-edges.edges.ok.0) in
    let cleans = is_none (closure.the_view c.closure.inside) v c.in_ok-marks.marks.denoted.items c.in_ok-marks.marks.from_entry.items c.in_ok-marks.marks.to_exit.items m c.in_ok-edges.edges.items edges_are none in
    (record { nodes = 0; arcs = [] }, subst (λ (V : ClosureOf). Cleans V.stage (record { nodes = 0; arcs = [] })) c.closure.view_is cleans, refl)

pub index-entry-requires : goal.index-entry-requires
index-entry-requires c =
    let v : IsClosureOfValid (closure.the_view c.closure.inside) = subst IsClosureOfValid (sym c.closure.view_is) c.requires in
    let m : AreMarks (closure.the_view c.closure.inside).stage (closure.the_view c.closure.inside).entry (closure.the_view c.closure.inside).exit c.in_ok-marks.marks.denoted.items c.in_ok-marks.marks.from_entry.items c.in_ok-marks.marks.to_exit.items =
    subst (λ (V : ClosureOf). AreMarks V.stage V.entry V.exit c.in_ok-marks.marks.denoted.items c.in_ok-marks.marks.from_entry.items c.in_ok-marks.marks.to_exit.items) (sym c.closure.view_is) c.in_ok-marks.ensures.marks in
    let left_is : c.in_ok-left.left.items ≡ left_bits (closure.the_view c.closure.inside) v c.in_ok-marks.marks.denoted.items c.in_ok-marks.marks.from_entry.items c.in_ok-marks.marks.to_exit.items m =
    c.in_ok-left.ensures ∙ (λ j. each_pair both (c.deref-5.ensures.value j) (c.deref-6.ensures.value j)) in
    let numbers_are : c.in_ok-numbers.numbers.of.items ≡ numbers (closure.the_view c.closure.inside) v c.in_ok-marks.marks.denoted.items c.in_ok-marks.marks.from_entry.items c.in_ok-marks.marks.to_exit.items m =
    c.in_ok-numbers.ensures.of ∙ ap (numbering 0) (c.deref-7.ensures.value ∙ left_is) in
    let low = (entry_is (closure.the_view c.closure.inside) v).node.1 in
    omega (arith, ap length numbers_are, numbers_len (closure.the_view c.closure.inside) v c.in_ok-marks.marks.denoted.items c.in_ok-marks.marks.from_entry.items c.in_ok-marks.marks.to_exit.items m, c.in_ok-numbers.numbers.of.ok.0)

pub index-exit-requires : goal.index-exit-requires
index-exit-requires c =
    let v : IsClosureOfValid (closure.the_view c.closure.inside) = subst IsClosureOfValid (sym c.closure.view_is) c.requires in
    let m : AreMarks (closure.the_view c.closure.inside).stage (closure.the_view c.closure.inside).entry (closure.the_view c.closure.inside).exit c.in_ok-marks.marks.denoted.items c.in_ok-marks.marks.from_entry.items c.in_ok-marks.marks.to_exit.items =
    subst (λ (V : ClosureOf). AreMarks V.stage V.entry V.exit c.in_ok-marks.marks.denoted.items c.in_ok-marks.marks.from_entry.items c.in_ok-marks.marks.to_exit.items) (sym c.closure.view_is) c.in_ok-marks.ensures.marks in
    let left_is : c.in_ok-left.left.items ≡ left_bits (closure.the_view c.closure.inside) v c.in_ok-marks.marks.denoted.items c.in_ok-marks.marks.from_entry.items c.in_ok-marks.marks.to_exit.items m =
    c.in_ok-left.ensures ∙ (λ j. each_pair both (c.deref-5.ensures.value j) (c.deref-6.ensures.value j)) in
    let numbers_are : c.in_ok-numbers.numbers.of.items ≡ numbers (closure.the_view c.closure.inside) v c.in_ok-marks.marks.denoted.items c.in_ok-marks.marks.from_entry.items c.in_ok-marks.marks.to_exit.items m =
    c.in_ok-numbers.ensures.of ∙ ap (numbering 0) (c.deref-7.ensures.value ∙ left_is) in
    let low = (exit_is (closure.the_view c.closure.inside) v).node.1 in
    omega (arith, ap length numbers_are, numbers_len (closure.the_view c.closure.inside) v c.in_ok-marks.marks.denoted.items c.in_ok-marks.marks.from_entry.items c.in_ok-marks.marks.to_exit.items m, c.in_ok-numbers.numbers.of.ok.0)

pub of_valid-requires : goal.of_valid-requires
of_valid-requires c =
    let v : IsClosureOfValid (closure.the_view c.closure.inside) = subst IsClosureOfValid (sym c.closure.view_is) c.requires in
    let m : AreMarks (closure.the_view c.closure.inside).stage (closure.the_view c.closure.inside).entry (closure.the_view c.closure.inside).exit c.in_ok-marks.marks.denoted.items c.in_ok-marks.marks.from_entry.items c.in_ok-marks.marks.to_exit.items =
    subst (λ (V : ClosureOf). AreMarks V.stage V.entry V.exit c.in_ok-marks.marks.denoted.items c.in_ok-marks.marks.from_entry.items c.in_ok-marks.marks.to_exit.items) (sym c.closure.view_is) c.in_ok-marks.ensures.marks in
    let kept_is : c.in_ok-kept.kept.items ≡ kept_bits (closure.the_view c.closure.inside) v c.in_ok-marks.marks.denoted.items c.in_ok-marks.marks.from_entry.items c.in_ok-marks.marks.to_exit.items m =
    c.in_ok-kept.ensures ∙ (λ j. each_pair (keeps_mark (c.deref-3.ensures.value j) (c.deref-4.ensures.value j)) (c.deref.ensures.value j) (c.deref-2.ensures.value j)) in
    let left_is : c.in_ok-left.left.items ≡ left_bits (closure.the_view c.closure.inside) v c.in_ok-marks.marks.denoted.items c.in_ok-marks.marks.from_entry.items c.in_ok-marks.marks.to_exit.items m =
    c.in_ok-left.ensures ∙ (λ j. each_pair both (c.deref-5.ensures.value j) (c.deref-6.ensures.value j)) in
    let numbers_are : c.in_ok-numbers.numbers.of.items ≡ numbers (closure.the_view c.closure.inside) v c.in_ok-marks.marks.denoted.items c.in_ok-marks.marks.from_entry.items c.in_ok-marks.marks.to_exit.items m =
    c.in_ok-numbers.ensures.of ∙ ap (numbering 0) (c.deref-7.ensures.value ∙ left_is) in
    let count_is : c.in_ok-numbers.numbers.count ≡ marked (left_bits (closure.the_view c.closure.inside) v c.in_ok-marks.marks.denoted.items c.in_ok-marks.marks.from_entry.items c.in_ok-marks.marks.to_exit.items m) =
    c.in_ok-numbers.ensures.count ∙ ap marked (c.deref-7.ensures.value ∙ left_is) in
    let ns : c.deref-10.result.now ≡ numbers (closure.the_view c.closure.inside) v c.in_ok-marks.marks.denoted.items c.in_ok-marks.marks.from_entry.items c.in_ok-marks.marks.to_exit.items m = c.deref-10.ensures.value ∙ numbers_are in
    let bits : c.deref-9.result.now ≡ kept_bits (closure.the_view c.closure.inside) v c.in_ok-marks.marks.denoted.items c.in_ok-marks.marks.from_entry.items c.in_ok-marks.marks.to_exit.items m = c.deref-9.ensures.value ∙ kept_is in
    let edges_are : c.in_ok-edges.edges.items ≡ new_arcs (closure.the_view c.closure.inside) v c.in_ok-marks.marks.denoted.items c.in_ok-marks.marks.from_entry.items c.in_ok-marks.marks.to_exit.items m =
    c.in_ok-edges.ensures ∙ (λ j. each_pair (if_kept (ns j)) (c.deref-8.ensures.value j) (bits j)) in
    let some : 0 < length c.in_ok-edges.edges.items = omega (arith, some_tested c.is_empty.result _ c.is_empty.ensures c.if-is_empty.false, c.in_ok-edges.edges.ok.0) in
    is_kept (closure.the_view c.closure.inside) v c.in_ok-marks.marks.denoted.items c.in_ok-marks.marks.from_entry.items c.in_ok-marks.marks.to_exit.items m c.in_ok-numbers.numbers.count c.in_ok-edges.edges.items count_is edges_are some c.index-entry.result.now c.index-exit.result.now
    (number_read (closure.the_view c.closure.inside) v c.in_ok-marks.marks.denoted.items c.in_ok-marks.marks.from_entry.items c.in_ok-marks.marks.to_exit.items m c.in_ok-numbers.numbers.of.items c.closure.inside.entry c.index-entry.result.now numbers_are (entry_is (closure.the_view c.closure.inside) v).node.1 c.index-entry.ensures)
    (number_read (closure.the_view c.closure.inside) v c.in_ok-marks.marks.denoted.items c.in_ok-marks.marks.from_entry.items c.in_ok-marks.marks.to_exit.items m c.in_ok-numbers.numbers.of.items c.closure.inside.exit c.index-exit.result.now numbers_are (exit_is (closure.the_view c.closure.inside) v).node.1 c.index-exit.ensures)

pub returns : goal.returns
returns c =
    let v : IsClosureOfValid (closure.the_view c.closure.inside) = subst IsClosureOfValid (sym c.closure.view_is) c.requires in
    let m : AreMarks (closure.the_view c.closure.inside).stage (closure.the_view c.closure.inside).entry (closure.the_view c.closure.inside).exit c.in_ok-marks.marks.denoted.items c.in_ok-marks.marks.from_entry.items c.in_ok-marks.marks.to_exit.items =
    subst (λ (V : ClosureOf). AreMarks V.stage V.entry V.exit c.in_ok-marks.marks.denoted.items c.in_ok-marks.marks.from_entry.items c.in_ok-marks.marks.to_exit.items) (sym c.closure.view_is) c.in_ok-marks.ensures.marks in
    let kept_is : c.in_ok-kept.kept.items ≡ kept_bits (closure.the_view c.closure.inside) v c.in_ok-marks.marks.denoted.items c.in_ok-marks.marks.from_entry.items c.in_ok-marks.marks.to_exit.items m =
    c.in_ok-kept.ensures ∙ (λ j. each_pair (keeps_mark (c.deref-3.ensures.value j) (c.deref-4.ensures.value j)) (c.deref.ensures.value j) (c.deref-2.ensures.value j)) in
    let left_is : c.in_ok-left.left.items ≡ left_bits (closure.the_view c.closure.inside) v c.in_ok-marks.marks.denoted.items c.in_ok-marks.marks.from_entry.items c.in_ok-marks.marks.to_exit.items m =
    c.in_ok-left.ensures ∙ (λ j. each_pair both (c.deref-5.ensures.value j) (c.deref-6.ensures.value j)) in
    let numbers_are : c.in_ok-numbers.numbers.of.items ≡ numbers (closure.the_view c.closure.inside) v c.in_ok-marks.marks.denoted.items c.in_ok-marks.marks.from_entry.items c.in_ok-marks.marks.to_exit.items m =
    c.in_ok-numbers.ensures.of ∙ ap (numbering 0) (c.deref-7.ensures.value ∙ left_is) in
    let count_is : c.in_ok-numbers.numbers.count ≡ marked (left_bits (closure.the_view c.closure.inside) v c.in_ok-marks.marks.denoted.items c.in_ok-marks.marks.from_entry.items c.in_ok-marks.marks.to_exit.items m) =
    c.in_ok-numbers.ensures.count ∙ ap marked (c.deref-7.ensures.value ∙ left_is) in
    let ns : c.deref-10.result.now ≡ numbers (closure.the_view c.closure.inside) v c.in_ok-marks.marks.denoted.items c.in_ok-marks.marks.from_entry.items c.in_ok-marks.marks.to_exit.items m = c.deref-10.ensures.value ∙ numbers_are in
    let bits : c.deref-9.result.now ≡ kept_bits (closure.the_view c.closure.inside) v c.in_ok-marks.marks.denoted.items c.in_ok-marks.marks.from_entry.items c.in_ok-marks.marks.to_exit.items m = c.deref-9.ensures.value ∙ kept_is in
    let edges_are : c.in_ok-edges.edges.items ≡ new_arcs (closure.the_view c.closure.inside) v c.in_ok-marks.marks.denoted.items c.in_ok-marks.marks.from_entry.items c.in_ok-marks.marks.to_exit.items m =
    c.in_ok-edges.ensures ∙ (λ j. each_pair (if_kept (ns j)) (c.deref-8.ensures.value j) (bits j)) in
    let some : 0 < length c.in_ok-edges.edges.items = omega (arith, some_tested c.is_empty.result _ c.is_empty.ensures c.if-is_empty.false, c.in_ok-edges.edges.ok.0) in
    let cleans = is_left (closure.the_view c.closure.inside) v c.in_ok-marks.marks.denoted.items c.in_ok-marks.marks.from_entry.items c.in_ok-marks.marks.to_exit.items m c.in_ok-numbers.numbers.count c.in_ok-edges.edges.items count_is edges_are some in
    let here = subst (λ (V : ClosureOf). Cleans V.stage (record { nodes = c.in_ok-numbers.numbers.count; arcs = c.in_ok-edges.edges.items })) c.closure.view_is cleans in (
      subst (Cleans c.args.closure.now.stage) (sym c.of_valid.ensures) here,
      subst (λ (G : QGraph). 0 < length G.arcs) (sym c.of_valid.ensures) some,
    )
