-- A place in the cells of a list of trees, and the next one.
use Rattle.std.proofs.Common.{◌≡◌, ℕ, ◌+◌, ◌-◌, ◌≤◌, List, ◌∷◌, ◌++◌, length, take, drop, Some, sym, ap, ◌∙◌, arith, length-drop}
use Rattle.std.specs.Prelude.{slice_get}
use Rattle.std.proofs.Math.Seq.{take-add}
use Rattle.std.proofs.lemmas.Grind.{common_steps}
use Rattle.std.proofs.lemmas.List.{drop-drop}
use Rattle.qs_tree.specs.declared.cell.Cell.{Cell}
use Rattle.qs_tree.specs.declared.split.Split.{Split}
use Rattle.qs_tree.specs.Cells.{IsForest, trees_of, tree_of}
use Rattle.qs_tree.specs.Splits.{PassesTree}
use Rattle.qs_tree.proofs.Runs.{splits}
use Rattle.qs_tree.proofs.Joined.{joined_tree}

-- `next` is the place behind the tree that stands at `place`
pub record IsNextPlace (cs : List Cell) (place next : ℕ) : Type 0 where
  pub within : next ≤ length cs
  pub front_trees : IsForest (take next cs)
  pub trees_behind : IsForest (drop next cs)
  pub passes : PassesTree (trees_of (take place cs)) (trees_of (drop place cs)) (trees_of (take next cs)) (trees_of (drop next cs))

to_end : (n : ℕ) (cs : List Cell) → take (length cs - n) (drop n cs) ≡ drop n cs
to_end n cs = grind (arith, common_steps)

pub next_place : (s : Split) (c : Cell) → Some c ≡ slice_get (take (length s.cells.now - s.place) (drop s.place s.cells.now)) 0
    → IsNextPlace s.cells.now s.place (s.place + c.extent)
next_place s c is =
    let cs : List Cell = s.cells.now in
    let here : Some c ≡ slice_get (drop s.place cs) 0 = rw (to_end s.place cs) at is in
    let split = splits (drop s.place cs) c here s.trees_behind in
    let j = joined_tree (take s.place cs) (take c.extent (drop s.place cs)) s.front_trees split.first in
    let front : take (s.place + c.extent) cs ≡ take s.place cs ++ take c.extent (drop s.place cs) = take-add s.place c.extent cs in
    let behind : drop (s.place + c.extent) cs ≡ drop c.extent (drop s.place cs) = sym (drop-drop c.extent s.place cs) in
    record {
      within = let fits = s.within in omega (arith, split.within, length-drop s.place cs);
      front_trees = rw front j.cells;
      trees_behind = rw behind split.rest;
      passes = record {
        tree = tree_of (take c.extent (drop s.place cs));
        front_is = ap trees_of front ∙ j.are;
        behind_is = split.are ∙ ap (λ (xs : List Cell). tree_of (take c.extent (drop s.place cs)) ∷ trees_of xs) (sym behind);
      };
    }
