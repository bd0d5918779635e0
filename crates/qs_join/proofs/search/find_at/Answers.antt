use Rattle.std.proofs.Common.{[]}
use Rattle.qs_join.proofs.Finding.{finds_none}
use Rattle.qs_join.proofs.Paths.{refused_left}
use Rattle.qs_join.proofs.search.find_at.Goals as goal

pub returns-then-not-can_stand-clause-found : goal.returns-then-not-can_stand-clause-found
returns-then-not-can_stand-clause-found c =
    let s = c.args.search.now in
    finds_none (refused_left s.number s.rule.now s.view.now s.newest c.args.place [] s.newest (c.can_stand.ensures.never c.if-not-can_stand.true)) c.args.found.now.items
