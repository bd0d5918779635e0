-- The tasks and the substitution of each variant.
use Rattle.std.proofs.Common.{◌≡◌, [], ◌∷◌, ◌++◌, sym, ap, ◌∙◌}
use Rattle.qs_tree.specs.Cells.{trees_of}
use Rattle.qs_pattern.specs.Patterns.{patterns}
use Rattle.qs_match.specs.declared.remaining.Remaining.TheOpen.{Remaining-F}
use Rattle.qs_match.specs.declared.remaining.Remaining.TheFolds.{fold-roll-Remaining}
use Rattle.qs_match.specs.declared.remaining.Remaining.TheVariants.{Nothing, Then, rolls-Nothing, rolls-Then}
use Rattle.qs_match.specs.declared.bindings.Bindings.TheOpen.{Bindings-F}
use Rattle.qs_match.specs.declared.bindings.Bindings.TheFolds.{fold-roll-Bindings}
use Rattle.qs_match.specs.declared.bindings.Bindings.TheVariants.{Nothing as NoBinding, More, rolls-Nothing as rolls-NoBinding, rolls-More}
use Rattle.qs_match.specs.working.Bindings.{substitution_of, substitution_step, value_of_ref}
use Rattle.qs_pattern.specs.Substitutions.{Substitution}
use Rattle.qs_match.specs.working.Tasks.{Tasks}
use Rattle.qs_match.specs.working.Remaining.{tasks_of, tasks_step}

pub tasks-Nothing : tasks_of Nothing ≡ []
tasks-Nothing = ap tasks_of (sym rolls-Nothing) ∙ fold-roll-Remaining Tasks tasks_step Remaining-F.Nothing

pub tasks-Then : (side : _) (trees : _) (remaining : _) → tasks_of (Then side trees remaining) ≡ (patterns side.now, trees_of trees.cells.now) ∷ tasks_of remaining.now
tasks-Then side trees remaining = ap tasks_of (sym (rolls-Then side trees remaining)) ∙ fold-roll-Remaining Tasks tasks_step (Remaining-F.Then side trees remaining)

pub substitution-Nothing : substitution_of NoBinding ≡ []
substitution-Nothing = ap substitution_of (sym rolls-NoBinding) ∙ fold-roll-Bindings Substitution substitution_step Bindings-F.Nothing

pub substitution-More : (v : _) (b : _) (earlier : _) → substitution_of (More v b earlier) ≡ substitution_of earlier.now ++ (v, value_of_ref b) ∷ []
substitution-More v b earlier = ap substitution_of (sym (rolls-More v b earlier)) ∙ fold-roll-Bindings Substitution substitution_step (Bindings-F.More v b earlier)
