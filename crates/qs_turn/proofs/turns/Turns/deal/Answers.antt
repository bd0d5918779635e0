use Rattle.std.proofs.Common.{rules, ◌≡◌, ◌+◌, ◌-◌, ◌<◌, arith, [], ◌∷◌, length, ◌∙◌, ap, sym, subst}
use Rattle.qs_turn.specs.declared.protocol.Stage.TheVariants.{Idle}
use Rattle.qs_turn.specs.Protocol.{first_number, first_pass_count}
use Rattle.qs_turn.specs.working.Protocol.{seat_view, new_views, pass_view, without_first}
use Rattle.qs_turn.specs.Passes.{AreNewPasses}
use Rattle.qs_turn.proofs.NewPasses.{new_views-next, new_pass, one_more_pass, all_new}
use Rattle.qs_turn.proofs.turns.Turns.deal.Goals as goal

pub split_first-pass-requires : goal.split_first-pass-requires
split_first-pass-requires g c =
    let x = c.args.self.now.table.shared.key.value.value in
    let h = g.T.Told.history x in
    let n = c.loop-number.number in
    let p = c.args.passes in
    let e : c.loop-number.seat.me.0.known ≡ pass_view n p x h 0 ∷ new_views p x h (n + 1) (p - (n + 1)) = ap (λ m. m.0.known) c.loop-number.invariant.1 ∙ new_views-next x h p n p c.loop-number-test.true in record {
      own = c.loop-number.invariant.0;
      idle = (ap (λ m. m.0.stage) c.loop-number.invariant.1, ap (λ m. m.1) c.loop-number.invariant.1);
      first = (subst (λ ks. 0 < length ks) (sym e) (omega arith), ap first_number e, ap first_pass_count e ∙ c.requires.own.1);
    }

pub loop-number-preserved : goal.loop-number-preserved
loop-number-preserved g c =
    let x = c.args.self.now.table.shared.key.value.value in
    let h = g.T.Told.history x in
    let n = c.loop-number.number in
    let p = c.args.passes in
    let e : c.loop-number.seat.me.0.known ≡ pass_view n p x h 0 ∷ new_views p x h (n + 1) (p - (n + 1)) = ap (λ m. m.0.known) c.loop-number.invariant.1 ∙ new_views-next x h p n p c.loop-number-test.true in
    let count : n ≡ length c.loop-number.dealt.items = search rules in (
      search rules,
      c.split_first-pass.ensures.others ∙ (λ i. (seat_view (without_first (e i)) Idle, [])),
      search rules,
      search rules,
      subst (λ ps. AreNewPasses g.T.Told.base c.args.self.now (g.T.Told.base x) h ps) (sym c.push_reserved.ensures.items)
          (one_more_pass g.T.Told.base c.args.self.now (g.T.Told.base x) h c.loop-number.dealt.items c.split_first-pass.result n c.loop-number.invariant.4 count
          (new_pass g.T.Told.base c.args.self.now c.split_first-pass.result x h p n _ _ c.split_first-pass.ensures.pass.1 c.split_first-pass.ensures.pass.2 c.split_first-pass.ensures.pass.0 c.split_first-pass.ensures.knows e)),
    )

pub returns-clause-own : goal.returns-clause-own
returns-clause-own g c = all_new g.T.Told.base c.args.self.now _ _ c.loop-number.dealt.items c.loop-number.invariant.4
