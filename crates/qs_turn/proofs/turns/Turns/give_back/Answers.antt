use Rattle.std.proofs.Common.{rules, ◌∙◌, ap, sym, [], length}
use Rattle.qs_turn.proofs.Keeps.{serve_keeps}
use Rattle.qs_turn.proofs.GivingBack.{given, having_seen-length, having_seen-seen, having_seen-base}
use Rattle.qs_turn.specs.Protocol.{first_base, first_seen}
use Rattle.qs_turn.specs.working.Protocol.{seat_view}
use Rattle.qs_turn.specs.declared.protocol.Stage.TheVariants.{Idle}
use Rattle.qs_turn.proofs.turns.Turns.give_back.Goals as goal

pub fetch_add-requires : goal.fetch_add-requires
fetch_add-requires g c =
    let t = g.T.Told in
    let is = given t.history _ _ _ c.args.value c.requires.turn.0.1 c.exchange-nothing.ensures.3 c.enter_history.ensures.seen in
    let known = ap (λ m. m.0.known) is in
    let one = c.requires.turn.1 in (
      search rules,
      search rules,
      serve_keeps _ _ _ _ _ _ _ _ _ _ c.args.value (ap (λ m. m.0.stage) is ∙ c.requires.turn.0.0.1) (ap length known ∙ (having_seen-length _ _ ∙ one)) (ap (λ m. m.1) is)
          (sym (ap first_seen known ∙ having_seen-seen _ _ one)) (ap (first_base t.base) known ∙ (having_seen-base _ _ _ ∙ c.requires.base)),
    )

pub returns-clause-idle : goal.returns-clause-idle
returns-clause-idle g c =
    let is = given g.T.Told.history _ _ _ c.args.value c.requires.turn.0.1 c.exchange-nothing.ensures.3 c.enter_history.ensures.seen in
    c.fetch_add.ensures.2 ∙ (λ i. (seat_view (is i).0.known Idle, []))
