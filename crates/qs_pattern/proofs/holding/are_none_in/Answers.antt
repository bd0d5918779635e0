use Rattle.qs_tree.specs.Lists.{◌∈◌}
use Rattle.qs_tree.specs.Cells.{trees_of}
use Rattle.qs_pattern.proofs.HoldingLemmas.{each_none, each_first, each_more}
use Rattle.qs_pattern.proofs.holding.are_none_in.Goals as goal

pub returns-then-is_in : goal.returns-then-is_in
returns-then-is_in c = (
  λ h. absurd cc,
  λ none. absurd (each_first (λ t. t ∈ trees_of c.args.list.cells.now → ⊥) _ _ _ c.in-Some.ensures.some (c.loop-first.invariant.1 none) (c.is_in.ensures.0 cc)),
)

pub loop-first-preserved : goal.loop-first-preserved
loop-first-preserved c =
    each_more (λ t. t ∈ trees_of c.args.list.cells.now → ⊥) _ _ _ _ c.in-Some.ensures.some (λ i. let k = c.is_in.ensures.1 i in absurd cc) c.loop-first.invariant

pub returns : goal.returns
returns c = (λ h. c.loop-first.invariant.0 (each_none (λ t. t ∈ trees_of c.args.list.cells.now → ⊥) _ (c.in_default.ensures.none.0 cc)), λ none. cc)
