-- A firing fires where its own rule makes it fire.
use Rattle.std.proofs.Common.{◌≡◌, List, sym, subst, Some, slice_get}
use Rattle.qs_tree.proofs.Decisions.{same_there}
use Rattle.qs_tree.specs.Trees.{Tree as LabelledTree}
use Rattle.qs_pattern.specs.Patterns.{Patterns}
use Rattle.qs_pattern.specs.Substitutions.{Substitution}
use Rattle.qs_pattern.specs.Instances.{IsMatch}
use Rattle.qs_pattern.specs.Rules.{Rule}
use Rattle.qs_graph.specs.Graphs.{Arc}
use Rattle.qs_firing.specs.Firings.{Firing, Fires}
use Rattle.qs_firing.proofs.FiringDecisions.{FiresBy}

module _ (R : List Rule) (arcs : List Arc) (f g : Firing) (same : f ≡ g) (rule : Rule) (is : slice_get R f.rule ≡ Some rule) where
  pub by_rule : Fires R arcs g → FiresBy arcs f rule
  by_rule h =
      let r : Fires R arcs f = subst (Fires R arcs) (sym same) h in
      subst (FiresBy arcs f) (same_there r.is_rule is) (record { path = (r.from, r.to, r.path); long = r.long; matches = r.matches; holds = r.holds })

  pub fires-by_rule : FiresBy arcs f rule → Fires R arcs g
  fires-by_rule r =
      subst (Fires R arcs) same (record { rule = rule; is_rule = is; from = r.path.0; to = r.path.1; path = r.path.2; long = r.long; matches = r.matches; holds = r.holds })

pub same_match : (side other : Patterns) (ts us : List LabelledTree) (s : Substitution) → side ≡ other → ts ≡ us → IsMatch side ts s → IsMatch other us s
same_match side other ts us s e d m = subst (λ p. IsMatch p us s) e (subst (λ xs. IsMatch side xs s) d m)
