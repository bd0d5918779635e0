use Rattle.std.proofs.Common.{rules, ◌≡◌, [], ◌∷◌, ◌++◌, Some, refl, ◌∙◌, ap, sym, subst}
use Rattle.atomic_table.specs.Table as table
use Rattle.qs_turn.specs.working.Protocol.{TurnRule, opening_view}
use Rattle.qs_turn.proofs.NewPasses.{with_value}
use Rattle.qs_turn.proofs.Keeps.{open_keeps}
use Rattle.qs_turn.proofs.turns.Turns.open.Goals as goal

pub new-requires : goal.new-requires
new-requires g c =
    let v = c.of.result.value in
    let t = g.T.Told in
    let items : c.push_reserved.new.self.items ≡ Some v ∷ [] = c.push_reserved.ensures.items ∙ (λ i. c.in_ok-slots.ensures.items i ++ Some (sym c.of.ensures i) ∷ []) in
    subst (λ ps. TurnRule t.base t.history t.pass_of (t.base v) (t.history v) c.args.passes (table.opening (0 ∷ 0 ∷ 0 ∷ []) ps (opening_view v (t.history v) c.args.passes))) (sym items)
    (open_keeps t.base t.history t.pass_of (t.base v) (t.history v) c.args.passes v refl refl (search rules))

pub returns-in-Ok-clause-each : goal.returns-in-Ok-clause-each
returns-in-Ok-clause-each g c =
    let t = g.T.Told in
    with_value t.base t.history _ c.deal.new.dealt.items _ c.args.value (ap (λ k. k.value.value) c.in-Ok.ensures.ok.5 ∙ c.of.ensures) c.deal.ensures.each
