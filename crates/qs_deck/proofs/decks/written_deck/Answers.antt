use Rattle.std.proofs.Common.{length, sym, ◌∙◌, subst, ap, arith}
use Rattle.qs_lex.specs.declared.refusal.Cause.TheVariants.{Syntax}
use Rattle.qs_deck.specs.Refusals.{byte_of, IsFault, syntax}
use Rattle.qs_reader.specs.Names.{NamesGrow}
use Rattle.qs_deck.specs.working.Versions.{IsReadAs, EndsAt}
use Rattle.qs_deck.proofs.Borders.{few_tokens}
use Rattle.qs_deck.proofs.decks.written_deck.Goals as goal

pub read_written-requires-clause-room : goal.read_written-requires-clause-room
read_written-requires-clause-room c =
    omega (arith, few_tokens c.args.text.now 0 c.args.tokens.now c.requires.spans (omega (arith)), c.requires.short, ap length c.new-names.ensures)

pub returns-in-Err-Syntax-clause-end : goal.returns-in-Err-Syntax-clause-end
returns-in-Err-Syntax-clause-end c = (
  subst (λ place. IsFault c.args.text.now place Syntax) (sym (c.byte_of.ensures.value ∙ ap (byte_of c.args.text.now c.args.tokens.now) c.in-Err-Syntax.index-is))
      (syntax c.args.tokens.now c.in-Err-Syntax.index (record { utf8 = c.requires.utf8; are_tokens = c.requires.of_text; shallow = c.requires.shallow })
      (subst (EndsAt c.args.text.now c.args.tokens.now) c.in-Err-Syntax.field-0-is c.in-Err-Syntax.ensures.ends)),
  c.byte_of.ensures.border,
)

pub returns-in-Ok-clause-written : goal.returns-in-Ok-clause-written
returns-in-Ok-clause-written c =
    let is : IsReadAs c.args.text.now c.args.tokens.now c.in-Ok.version c.in-Ok.deck c.new-names.result c.read_written.new.names = c.in-Ok.ensures.read in
    record {
      version_is = is.version_is;
      tokens = c.args.tokens.now;
      has_tokens = record { utf8 = c.requires.utf8; are_tokens = c.requires.of_text; shallow = c.requires.shallow };
      front = is.front;
      body = is.body;
      are = is.are;
      in_front = is.in_front;
      reads = is.reads;
      names_are = subst (λ old. NamesGrow c.args.text.now is.body old c.read_written.new.names) c.new-names.ensures is.names_are;
    }
