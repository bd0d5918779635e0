use Rattle.std.proofs.Common.{length, sym, ◌∙◌, subst, ap, arith}
use Rattle.qs_lex.specs.declared.refusal.Cause.TheVariants.{Syntax}
use Rattle.qs_deck.specs.Refusals.{byte_of}
use Rattle.qs_deck.specs.GrammarLists.{IsListFault, syntax}
use Rattle.qs_deck.specs.Grammar.{grammars}
use Rattle.qs_reader.specs.Names.{NamesGrow}
use Rattle.qs_deck.specs.working.Versions.{AreReadAs, EndsIn}
use Rattle.qs_deck.proofs.Borders.{few_tokens}
use Rattle.qs_deck.proofs.grammar_lists.written_grammars.Goals as goal

pub read_grammars-requires-clause-room : goal.read_grammars-requires-clause-room
read_grammars-requires-clause-room c =
    omega (arith, few_tokens c.args.text.now 0 c.args.tokens.now c.requires.spans (omega (arith)), c.requires.short, ap length c.new-names.ensures)

pub returns-in-Err-Syntax-clause-end : goal.returns-in-Err-Syntax-clause-end
returns-in-Err-Syntax-clause-end c = (
  subst (λ place. IsListFault c.args.text.now place Syntax) (sym (c.byte_of.ensures.value ∙ ap (byte_of c.args.text.now c.args.tokens.now) c.in-Err-Syntax.index-is))
      (syntax c.args.tokens.now c.in-Err-Syntax.index (record { utf8 = c.requires.utf8; are_tokens = c.requires.of_text; shallow = c.in_ok-shallow.ensures.shallow })
      (subst (EndsIn grammars c.args.text.now c.args.tokens.now) c.in-Err-Syntax.field-0-is c.in-Err-Syntax.ensures.ends)),
  c.byte_of.ensures.border,
)

pub returns-in-Ok-clause-written : goal.returns-in-Ok-clause-written
returns-in-Ok-clause-written c =
    let are : AreReadAs c.args.text.now c.args.tokens.now c.in-Ok.version c.in-Ok.systems.items c.new-names.result c.read_grammars.new.names = c.in-Ok.ensures.read in
    record {
      version_is = are.version_is;
      tokens = c.args.tokens.now;
      has_tokens = record { utf8 = c.requires.utf8; are_tokens = c.requires.of_text; shallow = c.in_ok-shallow.ensures.shallow };
      front = are.front;
      body = are.body;
      are = are.are;
      in_front = are.in_front;
      some = are.some;
      reads = are.reads;
      names_are = subst (λ old. NamesGrow c.args.text.now are.body old c.read_grammars.new.names) c.new-names.ensures are.names_are;
    }

pub returns-in-Ok-clause-few : goal.returns-in-Ok-clause-few
returns-in-Ok-clause-few c =
    omega (arith, c.in-Ok.ensures.few, few_tokens c.args.text.now 0 c.args.tokens.now c.requires.spans (omega (arith)), ap length c.new-names.ensures)
