use Rattle.std.proofs.Common.{◌≡◌, List, ap, ◌∙◌, subst, arith}
use Rattle.std.proofs.lemmas.Result.{IfOk-weaker}
use Rattle.qs_pattern.specs.Rules.{Rule}
use Rattle.qs_graph.specs.Graphs.{QGraph}
use Rattle.qs_cascade.specs.Stages.{IsStageEnd}
use Rattle.qs_deck.specs.Decks.{Grammar}
use Rattle.qs_deck.specs.MadeDecks.{made_grammar, made_graph}
use Rattle.qs_telling.proofs.MadeEnds.{made_arcs, made_nodes, only_grammar}
use Rattle.qs_telling.proofs.summaries.made_end.Goals as goal

pub stage_by-requires-clause-can_run : goal.stage_by-requires-clause-can_run
stage_by-requires-clause-can_run g c = record {
  some = c.requires.limit.low;
  arcs = omega (arith, made_arcs c.args.size c.in_ok-deck.deck.graph c.requires.size c.in_ok-deck.ensures.graph, c.requires.limit.high);
  nodes = omega (arith, made_nodes c.args.size c.in_ok-deck.deck.graph c.requires.size c.in_ok-deck.ensures.graph, c.requires.limit.high);
}

pub returns : goal.returns
returns g c =
    let only = only_grammar c.in_ok-deck.deck.systems.items (made_grammar c.args.size) c.index.result.now c.in_ok-deck.ensures.systems c.index.ensures in
    let rules : c.in_ok-grammar.grammar ≡ (made_grammar c.args.size).rules = c.in_ok-grammar.ensures ∙ c.deref.ensures.value ∙ ap (λ (g : Grammar). g.rules) only in
    IfOk-weaker c.stage_by.result _ _
    (λ e is. subst (λ (R : List Rule). IsStageEnd R (made_graph c.args.size) c.args.limit e) rules
    (subst (λ (G : QGraph). IsStageEnd c.in_ok-grammar.grammar G c.args.limit e) c.in_ok-deck.ensures.graph is.end))
    c.stage_by.ensures
