use Rattle.std.proofs.lemmas.Result.{on_ok_weaker}
use Rattle.qs_graph.specs.Graphs.{trees_on}
use Rattle.qs_join.proofs.Paths.{through_whole}
use Rattle.qs_join.proofs.search.fire.Goals as goal

pub add_matches-requires : goal.add_matches-requires
add_matches-requires c = (trees_on c.args.search.now.view.now c.args.path.now, c.in_ok-matches.ensures.sound)

pub returns : goal.returns
returns c =
    let s = c.args.search.now in
    let (a, b, p) = c.requires.path in
    let M = c.in_ok-matches.matches.items in
    on_ok_weaker c.add_matches.result
    (through_whole s.number s.rule.now s.view.now s.newest a c.args.path.now b M p c.requires.few c.requires.long
    c.in_ok-matches.ensures.sound c.in_ok-matches.ensures.all c.args.found.now.items c.add_matches.new.found.items)
    c.add_matches.ensures
