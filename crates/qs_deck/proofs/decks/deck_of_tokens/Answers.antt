use Rattle.std.proofs.Common.{length, sym, subst}
use Rattle.qs_graph.specs.Graphs.{QGraph}
use Rattle.qs_graphtext.specs.Texts.{AreArcsNamed}
use Rattle.qs_deck.specs.Decks.{IsWritten}
use Rattle.qs_deck.specs.working.Answers.{IsEndOf}
use Rattle.qs_deck.proofs.Meanings as meaning
use Rattle.qs_reader.proofs.Steps.{hands_on}
use Rattle.qs_deck.proofs.decks.deck_of_tokens.Goals as goal

pub checked-requires-clause-can : goal.checked-requires-clause-can
checked-requires-clause-can c =
    meaning.can c.args.text.now c.in_ok-version.version c.in_ok-version.names _ (subst (IsWritten c.args.text.now c.in_ok-version.version c.in_ok-version.names) (sym c.deck.view_is) c.in_ok-version.ensures.written)

pub checked-requires-clause-few : goal.checked-requires-clause-few
checked-requires-clause-few c =
    meaning.few c.args.text.now c.in_ok-version.version c.in_ok-version.names _ (subst (IsWritten c.args.text.now c.in_ok-version.version c.in_ok-version.names) (sym c.deck.view_is) c.in_ok-version.ensures.written) c.requires.short

pub returns-in_err-systems-clause-end : goal.returns-in_err-systems-clause-end
returns-in_err-systems-clause-end c =
    let written = subst (IsWritten c.args.text.now c.in_ok-version.version c.in_ok-version.names) (sym c.deck.view_is) c.in_ok-version.ensures.written in
    hands_on c.from_residual-in_err-systems.result (IsEndOf c.args.text.now) c.from_residual-in_err-systems.ensures.1
    (meaning.check_end_of c.args.text.now c.in_ok-version.version c.in_ok-version.names _ written c.in_err-systems.field-0.0 c.in_err-systems.ensures.refused)

pub graph_of-requires-clause-some : goal.graph_of-requires-clause-some
graph_of-requires-clause-some c =
    meaning.chains_some c.args.text.now c.in_ok-version.version c.in_ok-version.names _ (subst (IsWritten c.args.text.now c.in_ok-version.version c.in_ok-version.names) (sym c.deck.view_is) c.in_ok-version.ensures.written)

pub graph_of-requires-clause-whole : goal.graph_of-requires-clause-whole
graph_of-requires-clause-whole c =
    meaning.chains_whole c.args.text.now c.in_ok-version.version c.in_ok-version.names _ (subst (IsWritten c.args.text.now c.in_ok-version.version c.in_ok-version.names) (sym c.deck.view_is) c.in_ok-version.ensures.written)

pub invariant_of-result : goal.invariant_of-result
invariant_of-result c =
    let written = subst (IsWritten c.args.text.now c.in_ok-version.version c.in_ok-version.names) (sym c.deck.view_is) c.in_ok-version.ensures.written in
    record {
      systems_named = meaning.grammars_named c.args.text.now c.in_ok-version.version c.in_ok-version.names _ written c.in_ok-systems.systems.items c.in_ok-systems.ensures.systems;
      graph_named =
          subst (λ (G : QGraph). AreArcsNamed (length c.in_ok-version.names) G.arcs) (sym c.in-Ok.ensures.graph)
          (meaning.arcs_named c.args.text.now c.in_ok-version.version c.in_ok-version.names _ written);
    }

pub returns-in-Err-clause-end : goal.returns-in-Err-clause-end
returns-in-Err-clause-end c =
    let written = subst (IsWritten c.args.text.now c.in_ok-version.version c.in_ok-version.names) (sym c.deck.view_is) c.in_ok-version.ensures.written in
    subst (IsEndOf c.args.text.now) (sym c.graph_end.ensures)
    (meaning.graph_end_of c.args.text.now c.in_ok-version.version c.in_ok-version.names _ written (record { few = c.in_ok-systems.ensures.few; accepted = c.in_ok-systems.ensures.accepted })
    c.in-Err.end c.in-Err.ensures.refused)
