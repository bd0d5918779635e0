use Rattle.std.proofs.Common.{sym, subst}
use Rattle.qs_lex.specs.Tokens.{HasLabelText}
use Rattle.qs_reader.proofs.Naming.{adds_name_of}
use Rattle.qs_reader.proofs.labels.label_of.Goals as goal

pub returns-clause-adds : goal.returns-clause-adds
returns-clause-adds c =
    adds_name_of c.args.text.now c.args.token.now c.deref.result.now c.args.names.now c.intern.new.self c.intern.result
    (subst (λ spelling. HasLabelText c.args.text.now c.args.token.now spelling) (sym c.deref.ensures) c.in_ok-label_text.ensures)
    c.intern.ensures.named c.intern.ensures.known c.intern.ensures.grows
