use Rattle.std.proofs.Common.{◌∙◌, map, refl, arith}
use Rattle.qs_clean.specs.Cascades.{all_done}
use Rattle.qs_deck.specs.Decks.{grammar_of}
use Rattle.qs_telling.specs.PhraseTexts.{either_by_limit}
use Rattle.qs_telling.specs.Phrasing.{ending_in}
use Rattle.qs_program.proofs.PhraseTurns.{among_lines, status_further, told_first, told_to_end, told_without_memory, told_failed, told_further}
use Rattle.qs_program.proofs.phrases.phrases.Goals as goal

pub loop-index-init : goal.loop-index-init
loop-index-init g c = (
  (all_done, refl, told_first c.args.teller.now.limit c.args.teller.now.readings c.args.teller.now.names.now (map grammar_of c.args.teller.now.systems.now) c.args.lines.now _),
  refl,
)

pub tell-requires-clause-words : goal.tell-requires-clause-words
tell-requires-clause-words g c = c.requires.lines c.line.result.now (among_lines c.args.lines.now c.loop-index.index c.line.result.now c.line.ensures.line)

pub returns-in_default-clause-delivers : goal.returns-in_default-clause-delivers
returns-in_default-clause-delivers g c =
    told_without_memory c.args.teller.now.limit c.args.teller.now.readings c.args.teller.now.names.now (map grammar_of c.args.teller.now.systems.now) c.args.lines.now _
    c.requires.accepted c.requires.some _ c.loop-index.index c.loop-index.invariant.0.0 c.loop-index.invariant.0.2
    c.line.result.now c.line.ensures.line

pub returns-in_default-write_all-clause-delivers : goal.returns-in_default-write_all-clause-delivers
returns-in_default-write_all-clause-delivers g c =
    told_failed c.args.teller.now.limit c.args.teller.now.readings c.args.teller.now.names.now (map grammar_of c.args.teller.now.systems.now) c.args.lines.now _
    c.requires.accepted c.requires.some _ c.loop-index.index c.loop-index.invariant.0.0 c.loop-index.invariant.0.2
    c.line.result.now c.line.ensures.line c.in-Ok.told.end c.in-Ok.told.text.items c.in-Ok.ensures _ c.deref.result.now c.deref.ensures.value c.in_default-write_all.ensures.prefix

pub loop-index-preserved : goal.loop-index-preserved
loop-index-preserved g c = (
  (
    either_by_limit c.loop-index.invariant.0.0 (ending_in c.in-Ok.told.end),
    c.status_with-status.ensures ∙ status_further c.loop-index.status c.loop-index.invariant.0.0 c.in-Ok.told.end c.loop-index.invariant.0.1,
    told_further c.args.teller.now.limit c.args.teller.now.readings c.args.teller.now.names.now (map grammar_of c.args.teller.now.systems.now) c.args.lines.now _
        c.requires.accepted c.requires.some _ c.loop-index.index c.loop-index.invariant.0.0 c.loop-index.invariant.0.2
        c.line.result.now c.line.ensures.line c.in-Ok.told.end c.in-Ok.told.text.items c.in-Ok.ensures _ c.deref.result.now c.deref.ensures.value c.in-Ok-write_all.ensures.bytes,
  ),
  omega (arith, c.loop-index.invariant.1, c.in-Ok-write_all.ensures.no_fault),
)

pub returns-clause-delivers : goal.returns-clause-delivers
returns-clause-delivers g c =
    told_to_end c.args.teller.now.limit c.args.teller.now.readings c.args.teller.now.names.now (map grammar_of c.args.teller.now.systems.now) c.args.lines.now _
    c.requires.accepted c.requires.some _ c.loop-index.index c.loop-index.invariant.0.0 c.loop-index.invariant.0.2
    (omega (arith, c.len-index-end.ensures, c.loop-index-test.false)) c.loop-index.status c.loop-index.invariant.0.1
