use Rattle.std.proofs.Common.{◌∙◌}
use Rattle.qs_lex.specs.declared.token.Word.TheVariants.{Systeme}
use Rattle.qs_lex.specs.Grammar.{the_word, part}
use Rattle.qs_reader.proofs.Steps.{hands_on}
use Rattle.qs_deck.specs.Grammar.{system}
use Rattle.qs_deck.specs.working.Readers.{Ends}
use Rattle.qs_deck.proofs.Steps.{shallow_on, ends_at_word, ends_at_name, ends_at_dot, ends_in_rules, mark_read, read_system}
use Rattle.qs_deck.proofs.reading.system.Goals as goal

pub rules-requires-clause-shallow : goal.rules-requires-clause-shallow
rules-requires-clause-shallow c =
    shallow_on (c.in_ok-expect-2.ensures.ok.passed.goes_on.tokens ∙ (mark_read c.args.names.now c.pass-unique.result c.pass-unique.ensures.yes c.pass-unique.ensures.no).goes_on.tokens ∙ c.in_ok-name.ensures.names.passed.goes_on.tokens ∙ c.in_ok-expect.ensures.ok.passed.goes_on.tokens) c.requires.shallow

pub returns-clause-keeps : goal.returns-clause-keeps
returns-clause-keeps c = λ k text e. c.rules.ensures.keeps k text (c.label.ensures.keeps k text e)

pub returns-in_err-word-clause-ends : goal.returns-in_err-word-clause-ends
returns-in_err-word-clause-ends c =
    hands_on c.from_residual.result (Ends (part system) c.args.reader.now) c.from_residual.ensures.1 (ends_at_word (c.in_err-word.ensures.ends (the_word Systeme)))

pub returns-in_err-expect-clause-ends : goal.returns-in_err-expect-clause-ends
returns-in_err-expect-clause-ends c =
    hands_on c.from_residual-in_err-expect.result (Ends (part system) c.args.reader.now) c.from_residual-in_err-expect.ensures.1 (ends_at_word c.in_err-expect.ensures.ends)

pub returns-in_err-name-clause-ends : goal.returns-in_err-name-clause-ends
returns-in_err-name-clause-ends c =
    hands_on c.from_residual-in_err-name.result (Ends (part system) c.args.reader.now) c.from_residual-in_err-name.ensures.1
    (ends_at_name c.args.names.now c.in_ok-expect.ensures.ok c.in_err-name.ensures.ends)

pub returns-in_err-expect-2-clause-ends : goal.returns-in_err-expect-2-clause-ends
returns-in_err-expect-2-clause-ends c =
    hands_on c.from_residual-in_err-expect-2.result (Ends (part system) c.args.reader.now) c.from_residual-in_err-expect-2.ensures.1
    (ends_at_dot c.in_ok-expect.ensures.ok c.in_ok-name.ensures.names (mark_read _ c.pass-unique.result c.pass-unique.ensures.yes c.pass-unique.ensures.no) c.in_err-expect-2.ensures.ends)

pub returns-in_err-rules-clause-ends : goal.returns-in_err-rules-clause-ends
returns-in_err-rules-clause-ends c =
    hands_on c.from_residual-in_err-rules.result (Ends (part system) c.args.reader.now) c.from_residual-in_err-rules.ensures.1
    (ends_in_rules c.in_ok-expect.ensures.ok c.in_ok-name.ensures.names (mark_read _ c.pass-unique.result c.pass-unique.ensures.yes c.pass-unique.ensures.no) c.in_ok-expect-2.ensures.ok c.in_err-rules.ensures.ends)

pub returns-clause-read : goal.returns-clause-read
returns-clause-read c = read_system c.in_ok-word.ensures.next c.in_ok-expect.ensures.ok c.in_ok-name.ensures.names (mark_read _ c.pass-unique.result c.pass-unique.ensures.yes c.pass-unique.ensures.no) c.in_ok-expect-2.ensures.ok c.in_ok-rules.ensures.read

pub returns-in_err-rules-clause-keeps : goal.returns-in_err-rules-clause-keeps
returns-in_err-rules-clause-keeps c = λ k text e. c.rules.ensures.keeps k text (c.label.ensures.keeps k text e)
