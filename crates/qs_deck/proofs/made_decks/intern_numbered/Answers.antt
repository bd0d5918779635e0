use Rattle.std.proofs.Common.{◌≡◌, ◌≤◌, length, arith}
use Rattle.qs_deck.specs.working.MadeParts.{numbered}
use Rattle.qs_deck.proofs.MadeLemmas.{interned_next, names_few}
use Rattle.qs_deck.proofs.made_decks.intern_numbered.Goals as goal

pub intern-requires : goal.intern-requires
intern-requires c =
    let few : length c.loop-number.names ≤ 8208 =
    names_few c.args.letter.now c.args.first c.loop-number.number 8208 c.args.names.now c.loop-number.names c.loop-number.invariant
    (omega (arith, c.requires.few, c.loop-number-test.true)) in
    omega (arith, few)

pub loop-number-preserved : goal.loop-number-preserved
loop-number-preserved c =
    let read = c.deref.ensures in
    let written = c.in_ok-name.ensures in
    let same : c.deref.result.now ≡ numbered c.args.letter.now c.loop-number.number = cc in
    interned_next c.args.letter.now c.args.first c.loop-number.number c.args.names.now c.loop-number.names c.intern.new.self c.deref.result.now
    (omega (arith, c.loop-number.auto.number)) (omega (arith, c.requires.few, c.requires.low, c.loop-number-test.true)) c.loop-number.invariant
    (c.requires.new c.loop-number.number (omega (arith, c.requires.few, c.requires.low, c.loop-number-test.true))) same c.in_ok-intern.ensures.fresh
