-- The substitution that the bindings of the search stand for, which borrow from the trees. No public clause cites this.
use Rattle.std.specs.Prelude.{[], ◌∷◌, ◌++◌}
use Rattle.qs_tree.specs.Cells.{tree_of, trees_of}
use Rattle.qs_pattern.specs.declared.subst.Value.{Value}
use Rattle.qs_pattern.specs.declared.subst.Value.TheVariants as value
use Rattle.qs_match.specs.declared.bindings.ValueRef.{ValueRef}
use Rattle.qs_match.specs.declared.bindings.ValueRef.TheVariants as reference
use Rattle.qs_match.specs.declared.bindings.Bindings.{Bindings}
use Rattle.qs_match.specs.declared.bindings.Bindings.TheOpen.{Bindings-F}
use Rattle.qs_match.specs.declared.bindings.Bindings.TheFolds.{fold-Bindings}
use Rattle.qs_pattern.specs.Substitutions.{Substitution}

-- The label, tree or list of trees that is borrowed.
abbrev pub value_of_ref : ValueRef → Value
value_of_ref (reference.Label l) = value.Label l
value_of_ref (reference.Tree t) = value.Tree (tree_of t.cells.now)
value_of_ref (reference.Forest f) = value.Forest (trees_of f.cells.now)

-- The last binding is the last pair. (One level, in which the earlier bindings are seen as a substitution already.)
abbrev pub substitution_step : Bindings-F Substitution → Substitution
substitution_step Bindings-F.Nothing = []
substitution_step (Bindings-F.More var b earlier) = earlier.now ++ (var, value_of_ref b) ∷ []

abbrev pub substitution_of : Bindings → Substitution
substitution_of = fold-Bindings Substitution substitution_step
