use Rattle.std.proofs.Common.{length, sym, ◌∙◌, ap, subst}
use Rattle.std.proofs.lemmas.Result.{IfOk-weaker}
use Rattle.qs_canon.specs.Closures.{ClosureOf}
use Rattle.qs_canon.specs.contracts.closure.Closure as closure
use Rattle.qs_clean.specs.working.Steps.{each_pair, keeps_mark, AreMarks}
use Rattle.qs_clean.specs.Cleaning.{IsClosureOfValid, Stays}
use Rattle.qs_clean.specs.Marks.{IsMarked}
use Rattle.qs_clean.proofs.Whole.{from_in, to_in, kept_len, kept_stay}
use Rattle.std.specs.Prelude.{ℕ, ◌↔◌}
use Rattle.qs_clean.proofs.cleaning.kept.Goals as goal

pub kept_arcs-requires-clause-from_in : goal.kept_arcs-requires-clause-from_in
kept_arcs-requires-clause-from_in c =
    let v : IsClosureOfValid (closure.the_view c.closure.inside) = subst IsClosureOfValid (sym c.closure.view_is) c.requires in
    let m : AreMarks (closure.the_view c.closure.inside).stage (closure.the_view c.closure.inside).entry (closure.the_view c.closure.inside).exit c.in_ok-marks.marks.denoted.items c.in_ok-marks.marks.from_entry.items c.in_ok-marks.marks.to_exit.items =
    subst (λ (V : ClosureOf). AreMarks V.stage V.entry V.exit c.in_ok-marks.marks.denoted.items c.in_ok-marks.marks.from_entry.items c.in_ok-marks.marks.to_exit.items) (sym c.closure.view_is) c.in_ok-marks.ensures.marks in
    from_in (closure.the_view c.closure.inside) v c.deref.result.now (length c.deref-3.result.now) c.deref.ensures.value (ap length c.deref-3.ensures.value ∙ m.from_entry_len)

pub kept_arcs-requires-clause-to_in : goal.kept_arcs-requires-clause-to_in
kept_arcs-requires-clause-to_in c =
    let v : IsClosureOfValid (closure.the_view c.closure.inside) = subst IsClosureOfValid (sym c.closure.view_is) c.requires in
    let m : AreMarks (closure.the_view c.closure.inside).stage (closure.the_view c.closure.inside).entry (closure.the_view c.closure.inside).exit c.in_ok-marks.marks.denoted.items c.in_ok-marks.marks.from_entry.items c.in_ok-marks.marks.to_exit.items =
    subst (λ (V : ClosureOf). AreMarks V.stage V.entry V.exit c.in_ok-marks.marks.denoted.items c.in_ok-marks.marks.from_entry.items c.in_ok-marks.marks.to_exit.items) (sym c.closure.view_is) c.in_ok-marks.ensures.marks in
    to_in (closure.the_view c.closure.inside) v c.deref.result.now (length c.deref-4.result.now) c.deref.ensures.value (ap length c.deref-4.ensures.value ∙ m.to_exit_len)

pub returns-clause-len : goal.returns-clause-len
returns-clause-len c =
    let v : IsClosureOfValid (closure.the_view c.closure.inside) = subst IsClosureOfValid (sym c.closure.view_is) c.requires in
    let m : AreMarks (closure.the_view c.closure.inside).stage (closure.the_view c.closure.inside).entry (closure.the_view c.closure.inside).exit c.in_ok-marks.marks.denoted.items c.in_ok-marks.marks.from_entry.items c.in_ok-marks.marks.to_exit.items =
    subst (λ (V : ClosureOf). AreMarks V.stage V.entry V.exit c.in_ok-marks.marks.denoted.items c.in_ok-marks.marks.from_entry.items c.in_ok-marks.marks.to_exit.items) (sym c.closure.view_is) c.in_ok-marks.ensures.marks in
    IfOk-weaker c.kept_arcs.result _ _
    (λ bits is.
    ap length (is ∙ (λ j. each_pair (keeps_mark (c.deref-3.ensures.value j) (c.deref-4.ensures.value j)) (c.deref.ensures.value j) (c.deref-2.ensures.value j)))
    ∙ kept_len (closure.the_view c.closure.inside) v c.in_ok-marks.marks.denoted.items c.in_ok-marks.marks.from_entry.items c.in_ok-marks.marks.to_exit.items m
    ∙ ap (λ (V : ClosureOf). length V.stage.graph.arcs) c.closure.view_is)
    c.kept_arcs.ensures

pub returns-clause-stay : goal.returns-clause-stay
returns-clause-stay c =
    let v : IsClosureOfValid (closure.the_view c.closure.inside) = subst IsClosureOfValid (sym c.closure.view_is) c.requires in
    let m : AreMarks (closure.the_view c.closure.inside).stage (closure.the_view c.closure.inside).entry (closure.the_view c.closure.inside).exit c.in_ok-marks.marks.denoted.items c.in_ok-marks.marks.from_entry.items c.in_ok-marks.marks.to_exit.items =
    subst (λ (V : ClosureOf). AreMarks V.stage V.entry V.exit c.in_ok-marks.marks.denoted.items c.in_ok-marks.marks.from_entry.items c.in_ok-marks.marks.to_exit.items) (sym c.closure.view_is) c.in_ok-marks.ensures.marks in
    IfOk-weaker c.kept_arcs.result _ _
    (λ bits is.
    let whole = is ∙ (λ j. each_pair (keeps_mark (c.deref-3.ensures.value j) (c.deref-4.ensures.value j)) (c.deref.ensures.value j) (c.deref-2.ensures.value j)) in
    subst (λ (V : ClosureOf). (k : ℕ) → IsMarked bits.items k ↔ Stays V.stage k) c.closure.view_is
    (kept_stay (closure.the_view c.closure.inside) v c.in_ok-marks.marks.denoted.items c.in_ok-marks.marks.from_entry.items c.in_ok-marks.marks.to_exit.items m bits.items whole))
    c.kept_arcs.ensures
