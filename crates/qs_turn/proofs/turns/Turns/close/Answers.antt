use Rattle.std.proofs.Common.{rules, ◌≡◌, ◌++◌, ◌∙◌, length, All, ap, sym, subst, append_assoc}
use Rattle.qs_turn.specs.declared.turns.Pass.{Pass}
use Rattle.qs_turn.specs.Passes.{IsPassOf, HoldsNoTurn}
use Rattle.qs_turn.proofs.Keeps.{join_keeps}
use Rattle.qs_turn.proofs.Closing.{all_known, all_known_snoc, all_front, all_base, all_history, closed, closed_value}
use Rattle.qs_turn.proofs.turns.Turns.close.Goals as goal

pub loop-pass-init : goal.loop-pass-init
loop-pass-init g c =
    let P = λ (p : Pass g.row.T.Denot g.row.T-Entry.Denot g.T.Told). IsPassOf c.args.self p × HoldsNoTurn p in
    let e = c.in-Some.ensures.items in
    let f = all_front P c.pop.new.self.items c.in-Some.last (subst (λ ps. All P ps) e c.requires.own) in
    let s = c.into_seat-seat.ensures in (
      ap (λ z. z.table_id) s ∙ f.1.0.0,
      (ap (λ z. z.me.0.stage) s ∙ f.1.1.0, ap (λ z. z.me.1) s ∙ f.1.1.1),
      ap (λ z. all_known c.pop.new.self.items ++ z.me.0.known) s ∙ sym (ap all_known e ∙ all_known_snoc c.pop.new.self.items c.in-Some.last),
      f.0,
    )

pub join_seat-requires : goal.join_seat-requires
join_seat-requires g c =
    let P = λ (p : Pass g.row.T.Denot g.row.T-Entry.Denot g.T.Told). IsPassOf c.args.self p × HoldsNoTurn p in
    let f = all_front P c.pop-in-loop-pass.new.self.items c.in-Some-pop.pass (subst (λ ps. All P ps) c.in-Some-pop.ensures.items c.loop-pass.invariant.3) in
    let s = c.into_seat.ensures in
    (c.loop-pass.invariant.0, ap (λ z. z.table_id) s ∙ f.1.0.0, ap (λ z. z.me.1) s ∙ f.1.1.1, search rules, join_keeps _ _ _ _ _ _ _ _ _ _ c.loop-pass.invariant.1.0 (ap (λ z. z.me.0.stage) s ∙ f.1.1.0))

pub loop-pass-preserved : goal.loop-pass-preserved
loop-pass-preserved g c =
    let P = λ (p : Pass g.row.T.Denot g.row.T-Entry.Denot g.T.Told). IsPassOf c.args.self p × HoldsNoTurn p in
    let left = c.pop-in-loop-pass.new.self.items in
    let pass = c.in-Some-pop.pass in
    let e = c.in-Some-pop.ensures.items in
    let f = all_front P left pass (subst (λ ps. All P ps) e c.loop-pass.invariant.3) in
    let me = c.join_seat.ensures.2 in
    let mine = c.loop-pass.seat.me.0.known in (
      c.join_seat.ensures.0 ∙ c.loop-pass.invariant.0,
      (ap (λ m. m.0.stage) me ∙ c.loop-pass.invariant.1.0, ap (λ m. m.1) me ∙ c.loop-pass.invariant.1.1),
      ap (λ m. all_known left ++ m.0.known) me ∙ (ap (λ z. all_known left ++ (z.me.0.known ++ mine)) c.into_seat.ensures ∙ (sym (append_assoc (all_known left) pass.seat.me.0.known mine) ∙ (ap (λ l. l ++ mine) (sym (ap all_known e ∙ all_known_snoc left pass)) ∙ c.loop-pass.invariant.2))),
      f.0,
    )

pub unreachable-requires-in_default-slot : goal.unreachable-requires-in_default-slot
unreachable-requires-in_default-slot g c =
    let t = g.T.Told in
    let none : length c.loop-pass.passes.items ≡ 0 = search rules in
    let count : length c.args.passes.items ≡ c.args.self.table.shared.key.passes = search rules in
    let done = closed t.base t.history t.pass_of _ _ _ c.loop-pass.passes.items c.args.passes.items _ _ _ _ c.take-slot.result none c.loop-pass.invariant.2 count c.loop-pass.invariant.1.0 c.args.self.some_pass c.close_with-closed.ensures.values.2 c.take-slot.ensures.value in
    c.in_default-slot.not-Some done.0 done.1

pub returns-clause-base : goal.returns-clause-base
returns-clause-base g c =
    let t = g.T.Told in
    let none : length c.loop-pass.passes.items ≡ 0 = search rules in
    let count : length c.args.passes.items ≡ c.args.self.table.shared.key.passes = search rules in
    let done = closed t.base t.history t.pass_of _ _ _ c.loop-pass.passes.items c.args.passes.items _ _ _ _ c.take-slot.result none c.loop-pass.invariant.2 count c.loop-pass.invariant.1.0 c.args.self.some_pass c.close_with-closed.ensures.values.2 c.take-slot.ensures.value in
    let z = c.in-Some-slot.value in
    all_base t.base t.pass_of (t.base z) _ (t.history z) c.args.passes.items (closed_value t.base t.history t.pass_of (t.base z) (t.history z) c.args.self.table.shared.key.passes done.0 z c.take-slot.result c.args.passes.items done.1 c.in-Some-slot.is done.2)

pub returns-clause-history : goal.returns-clause-history
returns-clause-history g c =
    let t = g.T.Told in
    let none : length c.loop-pass.passes.items ≡ 0 = search rules in
    let count : length c.args.passes.items ≡ c.args.self.table.shared.key.passes = search rules in
    let done = closed t.base t.history t.pass_of _ _ _ c.loop-pass.passes.items c.args.passes.items _ _ _ _ c.take-slot.result none c.loop-pass.invariant.2 count c.loop-pass.invariant.1.0 c.args.self.some_pass c.close_with-closed.ensures.values.2 c.take-slot.ensures.value in
    let z = c.in-Some-slot.value in
    all_history t.base t.pass_of (t.base z) _ (t.history z) c.args.passes.items (closed_value t.base t.history t.pass_of (t.base z) (t.history z) c.args.self.table.shared.key.passes done.0 z c.take-slot.result c.args.passes.items done.1 c.in-Some-slot.is done.2)
