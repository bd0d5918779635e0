-- Substitutions, firings and stages with other numbers for their labels.
use Rattle.std.specs.Prelude.{ℕ, map}
use Rattle.qs_pattern.specs.declared.variable.Var.{Var}
use Rattle.qs_pattern.specs.declared.subst.Value.{Value}
use Rattle.qs_pattern.specs.declared.subst.Value.TheVariants as value
use Rattle.qs_pattern.specs.Substitutions.{Substitution}
use Rattle.qs_firing.specs.Firings.{Firing}
use Rattle.qs_canon.specs.Rounds.{Done, Stage}
use Rattle.qs_clean.specs.Renaming.{renamed_label, renamed_tree, renamed_graph}

-- A substitution has its values written so.
abbrev pub renamed_value : (ℕ → ℕ) → Value → Value
renamed_value f (value.Label l) = value.Label (renamed_label f l)
renamed_value f (value.Tree t) = value.Tree (renamed_tree f t)
renamed_value f (value.Forest ts) = value.Forest (map (renamed_tree f) ts)

abbrev pub renamed_pair : (ℕ → ℕ) → Var × Value → Var × Value
renamed_pair f p = (p.0, renamed_value f p.1)

abbrev pub renamed_substitution : (ℕ → ℕ) → Substitution → Substitution
renamed_substitution f s = map (renamed_pair f) s

-- A firing has its substitution written so; its rule and its path are numbers of other things, and stay.
abbrev pub renamed_firing : (ℕ → ℕ) → Firing → Firing
renamed_firing f x = record { rule = x.rule; path = x.path; values = renamed_substitution f x.values }

-- A stage has its graph and the firings that are done written so.
abbrev pub renamed_done : (ℕ → ℕ) → Done → Done
renamed_done f d = record { firing = renamed_firing f d.firing; first = d.first; round = d.round; met = d.met }

abbrev pub renamed_stage : (ℕ → ℕ) → Stage → Stage
renamed_stage f S = record { graph = renamed_graph f S.graph; done = map (renamed_done f) S.done }
