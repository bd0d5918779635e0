use Rattle.std.proofs.Common.{◌∙◌, ◌++◌, length, map, ap, sym, subst}
use Rattle.qs_graph.specs.Graphs.{QGraph}
use Rattle.qs_deck.specs.Decks.{grammar_of}
use Rattle.qs_telling.specs.working.Cascading.{CanGoOn}
use Rattle.qs_telling.specs.working.Phrasing.{IsLineEnd, graph_in}
use Rattle.qs_telling.proofs.PhraseRuns.{words_can_go_on}
use Rattle.qs_telling.proofs.phrasing.PhraseTeller.tell.Goals as goal

pub run-requires-clause-can_go_on : goal.run-requires-clause-can_go_on
run-requires-clause-can_go_on g c =
    subst (λ (G : QGraph). CanGoOn c.args.self.now.names.now G (length c.args.self.now.systems.now)) (sym c.in_ok-start.ensures)
    (words_can_go_on c.args.self.now.limit c.args.self.now.readings c.args.self.now.names.now c.args.words.now (length c.args.self.now.systems.now) c.requires.some c.requires.few c.requires.words c.requires.systems)

pub returns : goal.returns
returns g c =
    let (told, tells, same) = c.in_ok-append_end.ensures in (
      told,
      record {
        last = graph_in c.in_ok-end.end;
        ends = subst (λ (G : QGraph). IsLineEnd c.args.self.now.limit (map grammar_of c.args.self.now.systems.now) G c.in_ok-end.end) c.in_ok-start.ensures c.in_ok-end.ensures.end;
        told = tells;
      },
      same ∙ ap (λ front. front ++ told) c.in_ok-text.ensures,
    )
