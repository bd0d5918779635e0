use Rattle.std.proofs.Common.{List, length, map, ap, sym, subst, arith}
use Rattle.std.proofs.lemmas.List.{length-map}
use Rattle.qs_deck.specs.declared.system.System.{System}
use Rattle.qs_deck.specs.Decks.{grammar_of}
use Rattle.qs_deck.specs.Named.{AreSystemsNamed}
use Rattle.qs_deck.specs.PhraseTexts.{EndsForPhrases}
use Rattle.qs_deck.specs.declared.deck.DeckEnd.TheVariants as deck_end
use Rattle.qs_command.specs.declared.status.Status.TheVariants as status
use Rattle.qs_telling.specs.Texts.{refusal_line}
use Rattle.qs_telling.specs.Cascading.{AreAccepted}
use Rattle.qs_telling.proofs.PhraseRuns.{grammars_few, phrases_accepted}
use Rattle.qs_telling.proofs.PhrasesTold.{lines_some}
use Rattle.qs_program.specs.working.Phrasing.{DeliversPhrases}
use Rattle.qs_program.proofs.Ending.{phrases_defined, refused_phrases_defined, written_defined}
use Rattle.qs_program.proofs.run.answer_phrases.Goals as goal

pub returns-in-Err-Refused-clause-answered : goal.returns-in-Err-Refused-clause-answered
returns-in-Err-Refused-clause-answered g c =
    let refused : EndsForPhrases c.args.bytes.now (deck_end.Refused c.in-Err-Refused.refusal) =
    subst (EndsForPhrases c.args.bytes.now) c.in-Err-Refused.field-0-is c.in-Err-Refused.ensures.end in
    written_defined c.args.job.now c.args.bytes.now _ _ c.write_text.result (refusal_line c.in-Err-Refused.refusal) status.Refused
    (refused_phrases_defined c.args.job.now c.args.bytes.now c.in-Err-Refused.refusal c.requires.command refused) c.refusal_line.result c.refusal_line.ensures c.write_text.ensures.written

pub phrases-requires-clause-named : goal.phrases-requires-clause-named
phrases-requires-clause-named g c = subst (AreSystemsNamed _) (sym c.deref-2.ensures.value) c.in-Ok.read.systems_named

pub phrases-requires-clause-accepted : goal.phrases-requires-clause-accepted
phrases-requires-clause-accepted g c =
    subst (λ (systems : List System). AreAccepted (map grammar_of systems)) (sym c.deref-2.ensures.value) (phrases_accepted c.in-Ok.ensures.phrases)

pub phrases-requires-clause-systems : goal.phrases-requires-clause-systems
phrases-requires-clause-systems g c =
    omega (arith, grammars_few c.in-Ok.ensures.phrases, length-map c.in-Ok.read.systems.items grammar_of, ap (λ (systems : List System). length systems) c.deref-2.ensures.value)

pub phrases-requires-clause-some : goal.phrases-requires-clause-some
phrases-requires-clause-some g c = lines_some c.in-Ok.ensures.phrases

pub returns-clause-answered : goal.returns-clause-answered
returns-clause-answered g c =
    phrases_defined c.args.job.now c.args.bytes.now c.in-Ok.read.version c.in-Ok.read.names (map grammar_of c.in-Ok.read.systems.items) c.in-Ok.read.lines c.requires.command c.in-Ok.ensures.phrases
    (g.K.Sink.written c.args.sink.now) (g.K.Sink.written c.phrases.new.sink) c.phrases.result
    (subst (λ (systems : List System). DeliversPhrases c.args.job.now.limit c.args.job.now.readings c.in-Ok.read.names (map grammar_of systems) c.in-Ok.read.lines (g.K.Sink.written c.args.sink.now) (g.K.Sink.written c.phrases.new.sink) c.phrases.result)
    c.deref-2.ensures.value c.phrases.ensures.delivers)
