use Rattle.std.proofs.Common.{rules, ◌≤◌, ◌-◌, [], length, take, drop, sym, subst, arith}
use Rattle.std.proofs.lemmas.List.{length-take-le}
use Rattle.qs_tree.specs.Cells.{trees_of}
use Rattle.qs_pattern.specs.Patterns.{patterns, AreInClass}
use Rattle.qs_match.specs.working.Tasks.{IsInClass}
use Rattle.qs_match.specs.working.Remaining.{tasks_of}
use Rattle.qs_match.proofs.Variants.{tasks-Then}
use Rattle.qs_tree.proofs.Kept.{on_ok}
use Rattle.qs_match.proofs.Joining.{all_behind, last_tree, front_in_class, front_singles, cut_appends}
use Rattle.qs_match.proofs.apart.+search_apart.Goals as goal

pub search_apart-requires : goal.search_apart-requires
search_apart-requires t c =
    let side = c.args.side.now in
    let refs = c.args.trees.now in
    let k = length refs - 1 in
    let as_many = c.requires.as_many in
    let some = c.requires.some in
    let more = c.if-last-eq0.false in
    let within : k ≤ length side = omega arith in
    let parts = front_in_class side refs k as_many within c.requires.in_class.0 in (
      omega (arith, length-take-le k refs (omega arith)),
      (
        (parts.0, subst IsInClass (sym (tasks-Then _ c.alone-2.result c.args.remaining)) (subst (λ ps. AreInClass (patterns ps)) (sym (all_behind side k)) parts.1, c.requires.in_class.1)),
        (front_singles side refs k as_many within c.requires.singles, (search rules, search rules)),
      ),
    )

pub returns : goal.returns
returns t c =
    let side = c.args.side.now in
    let refs = c.args.trees.now in
    let k = length refs - 1 in
    let as_many = c.requires.as_many in
    let some = c.requires.some in
    let within : k ≤ length side = omega arith in
    on_ok c.search_apart.result
    (cut_appends side refs k as_many within (tasks_of c.args.remaining.now) (tasks_of _) [] (take (length side - k) (drop k side)) (trees_of c.alone-2.result.cells.now) c.args.found.now.items c.search_apart.new.found.items c.requires.in_class.0 c.requires.singles
    (last_tree refs k c.index-trees-last.result (omega arith) (omega arith) c.index-trees-last.is (trees_of c.alone-2.result.cells.now) c.alone-2.ensures) (all_behind side k) (tasks-Then _ c.alone-2.result c.args.remaining))
    c.search_apart.ensures
