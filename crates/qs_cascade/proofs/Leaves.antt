-- What a closed grammar leaves.
use Rattle.std.proofs.Common.{◌≡◌, ◌≤◌, ◌<◌, ◌+◌, ◌*◌, ◌^◌, ℕ, List, length, Option, Some, None, sym, subst, arith}
use Rattle.std.specs.Prelude.{IfSome}
use Rattle.qs_tree.specs.Lists.{◌∈◌}
use Rattle.qs_tree.specs.Text.{IsNamed}
use Rattle.qs_pattern.specs.Rules.{Rule}
use Rattle.qs_pattern.specs.Named.{ArePatternsNamed}
use Rattle.qs_graph.specs.Graphs.{Arc, QGraph}
use Rattle.qs_canon.specs.Closures.{ClosureOf, IsClosure}
use Rattle.qs_clean.specs.Cleaning.{Cleans, IsClosureOfValid}
use Rattle.qs_clean.proofs.Closures.{stage_valid}
use Rattle.qs_clean.proofs.Fewer.{fewer_arcs, fewer_nodes, old_tree}
use Rattle.qs_cascade.specs.declared.stages.StageEnd.{StageEnd}
use Rattle.qs_cascade.specs.declared.stages.StageEnd.TheVariants as end
use Rattle.qs_cascade.specs.ClosureEnds.{IsClosureEnd, HasGrownWithin, HasNoNewLabels}
use Rattle.qs_cascade.specs.Stages.{LeavesGraph, IsStageEnd, IsEndBehind, GrowsWithin, MakesNoLabels}

module _ (R : List Rule) (G : QGraph) (L : ℕ) (c : ClosureOf) (H : QGraph) (cleans : Cleans c.stage H) where
  pub leaves : IsClosure R G c × (length c.stage.done ≤ L) → (firings : ℕ) → firings ≡ length c.stage.done → LeavesGraph R G L firings H
  leaves x firings e = record { closure = c.stage; closes = x.0.closes; few = x.1; firings_are = e; cleans = cleans }

  -- it has few arcs and nodes more
  pub left_grows : IsClosureOfValid c → HasGrownWithin G L c → (length H.arcs ≤ length G.arcs + 16 * L) × (H.nodes ≤ G.nodes + 16 * L)
  left_grows valid grown =
      let arcs = grown.0 in
      let nodes = grown.1 in
      (omega (arith, fewer_arcs c.stage H cleans), omega (arith, fewer_nodes c.stage H cleans (stage_valid c valid)))

  -- and no other labels
  pub left_named : HasNoNewLabels R G c → (n : ℕ) → ((rule : Rule) → rule ∈ R → ArePatternsNamed n rule.right) → ((arc : Arc) → arc ∈ G.arcs → IsNamed n arc.tree) → (arc : Arc) → arc ∈ H.arcs → IsNamed n arc.tree
  left_named none_new n right named arc i =
      let (was, j, e) = old_tree c.stage H cleans arc i in
      subst (IsNamed n) (sym e) (none_new n right named was j)

-- so it is with what is left by a closure, where there is one
module _ (R : List Rule) (G : QGraph) (L : ℕ) where
  pub behind_end : (closure : Option ClosureOf) (e : StageEnd) → IsEndBehind closure e → IsClosureEnd R G L closure → IsStageEnd R G L e
  behind_end None (end.Left H firings) is x = absurd is
  behind_end None (end.Empty firings) is x = absurd is
  behind_end None end.Over is x = x
  behind_end (Some c) (end.Left H firings) is x = (leaves R G L c H is.0 x firings is.2, is.1)
  behind_end (Some c) (end.Empty firings) is x = (is.0, leaves R G L c is.0 is.1 x firings is.3, is.2)
  behind_end (Some c) end.Over is x = absurd is

  pub behind_grows : (closure : Option ClosureOf) (e : StageEnd) → IsEndBehind closure e → IfSome closure IsClosureOfValid → IfSome closure (HasGrownWithin G L) → GrowsWithin G L e
  behind_grows None (end.Left H firings) is valid grown = absurd is
  behind_grows None (end.Empty firings) is valid grown = tt
  behind_grows None end.Over is valid grown = tt
  behind_grows (Some c) (end.Left H firings) is valid grown = left_grows R G L c H is.0 valid grown
  behind_grows (Some c) (end.Empty firings) is valid grown = tt
  behind_grows (Some c) end.Over is valid grown = tt

  pub behind_named : (closure : Option ClosureOf) (e : StageEnd) → IsEndBehind closure e → IfSome closure (HasNoNewLabels R G) → MakesNoLabels R G e
  behind_named None (end.Left H firings) is none_new = absurd is
  behind_named None (end.Empty firings) is none_new = λ n right named. tt
  behind_named None end.Over is none_new = λ n right named. tt
  behind_named (Some c) (end.Left H firings) is none_new = left_named R G L c H is.0 none_new
  behind_named (Some c) (end.Empty firings) is none_new = λ n right named. tt
  behind_named (Some c) end.Over is none_new = λ n right named. tt

  -- the limit is far below what a number holds
  pub closure_few : (closure : Option ClosureOf) → IsClosureEnd R G L closure → L < 2 ^ 32 → IfSome closure (λ c. length c.stage.done < 2 ^ 32)
  closure_few None x low = tt
  closure_few (Some c) x low = omega (arith, x.1)
