-- Chains as they are written. That a Q-graph is made of chains of trees is Colmerauer's;
-- the places are this project's own.
use Rattle.std.specs.Prelude.{ℕ, List}
use Rattle.qs_tree.specs.Trees.{Tree}

-- A chain leads from one numbered node to another, and has trees. For each tree there is the byte at which it begins.
pub record WrittenChain : Type 0 where
  pub from : ℕ
  pub trees : List Tree
  pub to : ℕ
  pub at : List ℕ
