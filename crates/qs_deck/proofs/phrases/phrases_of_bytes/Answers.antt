use Rattle.std.proofs.Common.{sym, subst}
use Rattle.std.specs.Str.{IsValidUpTo}
use Rattle.std.proofs.lemmas.Str.{utf8_valid_len-IsValidUpTo}
use Rattle.qs_lex.specs.declared.refusal.Cause.TheVariants.{NotUtf8}
use Rattle.qs_lex.proofs.Refusing.{refused}
use Rattle.qs_deck.specs.PhraseTexts.{IsPhraseFault, bytes}
use Rattle.qs_deck.proofs.phrases.phrases_of_bytes.Goals as goal

pub not_utf8-requires-clause-valid : goal.not_utf8-requires-clause-valid
not_utf8-requires-clause-valid c = subst (IsValidUpTo c.args.bytes.now) (sym c.valid_up_to.ensures) c.in-Err.ensures.cases.1

pub returns-in-Err-clause-end : goal.returns-in-Err-clause-end
returns-in-Err-clause-end c =
    refused
    (subst (λ place. IsPhraseFault c.args.bytes.now place NotUtf8) (utf8_valid_len-IsValidUpTo c.args.bytes.now c.valid_up_to.result (subst (IsValidUpTo c.args.bytes.now) (sym c.valid_up_to.ensures) c.in-Err.ensures.cases.1))
    (bytes c.in-Err.ensures.cases.0))
    c.not_utf8.ensures
