use Rattle.std.proofs.Common.{rules, ◌≡◌, ◌++◌, ◌∷◌, []}
use Rattle.qs_edge_tests.proofs.Boards.{new_last}
use Rattle.qs_edge_tests.proofs.board_tests.opened.Goals as goal

pub returns-clause-second : goal.returns-clause-second
returns-clause-second g c =
    let b = c.expect-board.result.0 in
    let e : c.expect-board.result.1.items ≡ c.pop.new.self.items ++ c.expect-second.result ∷ [] = search rules in
    (new_last b c.expect-board.result.1.items c.pop.new.self.items c.expect-second.result e (search rules)).1

pub returns-clause-first : goal.returns-clause-first
returns-clause-first g c =
    let b = c.expect-board.result.0 in
    let e : c.expect-board.result.1.items ≡ c.pop.new.self.items ++ c.expect-second.result ∷ [] = search rules in
    let d : c.pop.new.self.items ≡ c.pop-2.new.self.items ++ c.expect-first.result ∷ [] = search rules in
    (new_last b c.pop.new.self.items c.pop-2.new.self.items c.expect-first.result d (new_last b c.expect-board.result.1.items c.pop.new.self.items c.expect-second.result e (search rules)).0).1
