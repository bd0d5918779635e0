-- How the logic tells firings apart. Nothing that a reader has to believe stands here.
use Rattle.std.specs.Prelude.{ℕ, List, refl}
use Rattle.std.specs.Coded.{Coded, code_by, coded×, coded_list, coded_ℕ}
use Rattle.qs_pattern.specs.contracts.variable.Var as var
use Rattle.qs_pattern.specs.contracts.subst.Value as value
use Rattle.qs_pattern.specs.Substitutions.{Substitution}
use Rattle.qs_tree.specs.Trees.{Tree}
use Rattle.qs_tree.specs.working.Cells.{tree_code}
use Rattle.qs_firing.specs.Firings.{Firing}
use Rattle.qs_firing.specs.Work.{WithTrees, WorkWithTrees}

abbrev pub substitution_code : Coded Substitution
substitution_code = coded_list (coded× var.the_row.coded value.the_row.coded)

abbrev pub firing_code : Coded Firing
firing_code =
    code_by (ℕ × (List ℕ × Substitution)) (coded× coded_ℕ (coded× (coded_list coded_ℕ) substitution_code))
    (λ f. (f.rule, (f.path, f.values))) (λ p. record { rule = p.0; path = p.1.0; values = p.1.1 }) (λ _. refl)

abbrev pub made_code : Coded WithTrees
made_code =
    code_by (Firing × List Tree) (coded× firing_code (coded_list tree_code))
    (λ m. (m.firing, m.trees)) (λ p. record { firing = p.0; trees = p.1 }) (λ _. refl)

abbrev pub joined_code : Coded WorkWithTrees
joined_code =
    code_by (ℕ × List WithTrees) (coded× coded_ℕ (coded_list made_code))
    (λ j. (j.arc, j.made)) (λ p. record { arc = p.0; made = p.1 }) (λ _. refl)
