use Rattle.std.proofs.Common.{◌≡◌, refl, sym, ◌∙◌, ap}
use Rattle.qs_lex.specs.Tokens.{version_of}
use Rattle.qs_lex.specs.Grammar.{part}
use Rattle.qs_deck.specs.Grammar.{deck}
use Rattle.qs_reader.proofs.Steps.{hands_on}
use Rattle.qs_deck.specs.working.Versions.{EndsInLine}
use Rattle.qs_deck.proofs.VersionSteps.{second_if, first_passed, ends_at_word, ends_at_number, ends_at_dot, line_passed}
use Rattle.qs_deck.proofs.version.pass_version.Goals as goal

pub returns-then-version-eq1-clause-passes : goal.returns-then-version-eq1-clause-passes
returns-then-version-eq1-clause-passes c =
    let is : c.version.result ≡ version_of c.args.reader.now.text = c.version.ensures ∙ ap version_of (c.as_bytes.ensures.value ∙ c.text.ensures) in
    first_passed c.requires (sym is ∙ c.if-version-eq1.true)

pub returns-in_err-expect-clause-ends : goal.returns-in_err-expect-clause-ends
returns-in_err-expect-clause-ends c =
    let is : c.version.result ≡ version_of c.args.reader.now.text = c.version.ensures ∙ ap version_of (c.as_bytes.ensures.value ∙ c.text.ensures) in
    hands_on c.from_residual.result (EndsInLine c.args.reader.now.text c.args.reader.now.tokens) c.from_residual.ensures.1
    (λ form. ends_at_word form c.requires (second_if c.args.reader.now.text c.version.result is c.if-version-eq1.false) c.in_err-expect.ensures.ends)

pub returns-then-not-is_at_two-clause-ends : goal.returns-then-not-is_at_two-clause-ends
returns-then-not-is_at_two-clause-ends c =
    let is : c.version.result ≡ version_of c.args.reader.now.text = c.version.ensures ∙ ap version_of (c.as_bytes.ensures.value ∙ c.text.ensures) in
    λ form. ends_at_number form c.requires (second_if c.args.reader.now.text c.version.result is c.if-version-eq1.false) c.in_ok-expect.ensures.ok c.fault.ensures.place (c.if-not-is_at_two.ensures.no refl)

pub returns-in_err-expect-2-clause-ends : goal.returns-in_err-expect-2-clause-ends
returns-in_err-expect-2-clause-ends c =
    let is : c.version.result ≡ version_of c.args.reader.now.text = c.version.ensures ∙ ap version_of (c.as_bytes.ensures.value ∙ c.text.ensures) in
    let n = c.if-not-is_at_two.ensures.yes refl in
    hands_on c.from_residual-in_err-expect-2.result (EndsInLine c.args.reader.now.text c.args.reader.now.tokens) c.from_residual-in_err-expect-2.ensures.1
    (λ form. ends_at_dot form c.requires (second_if c.args.reader.now.text c.version.result is c.if-version-eq1.false) c.in_ok-expect.ensures.ok n.1 n.2 c.take.ensures.taken c.in_err-expect-2.ensures.ends)

pub returns-clause-passes : goal.returns-clause-passes
returns-clause-passes c =
    let is : c.version.result ≡ version_of c.args.reader.now.text = c.version.ensures ∙ ap version_of (c.as_bytes.ensures.value ∙ c.text.ensures) in
    let n = c.if-not-is_at_two.ensures.yes refl in
    line_passed (part deck) c.requires (second_if c.args.reader.now.text c.version.result is c.if-version-eq1.false) c.in_ok-expect.ensures.ok n.1 n.2 c.take.ensures.taken c.in_ok-expect-2.ensures.ok
