-- Labels with levels that are among the first n.
use Rattle.std.specs.Prelude.{ℕ, ◌<◌, List, Option, None, Some}
use Rattle.qs_tree.specs.Lists.{◌∈◌}
use Rattle.qs_tree.specs.declared.cell.Label.{Label}
use Rattle.qs_levels.specs.Certificates.{LevelCertificate}

abbrev pub AreLabelsNamed : ℕ → List (Label × ℕ) → Type 0
AreLabelsNamed n levels = (level : Label × ℕ) → level ∈ levels → level.0.0 < n

abbrev pub AreLevelsNamed : ℕ → Option LevelCertificate → Type 0
AreLevelsNamed n None = Unit {0}
AreLevelsNamed n (Some levels) = AreLabelsNamed n levels.of
