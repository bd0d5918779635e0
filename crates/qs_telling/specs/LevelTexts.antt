-- The text on the levels of grammars. Its spelling is this project's own.
use Rattle.std.specs.Prelude.{◌≡◌, ℕ, List, [], ◌∷◌, ◌++◌, Option, None, Some, flat_map, codes, decimal}
use Rattle.qs_tree.specs.declared.cell.Label.{Label}
use Rattle.qs_tree.specs.Text.{name_of, label_text}
use Rattle.qs_graphtext.specs.Texts.{line}
use Rattle.qs_levels.specs.Certificates.{LevelCertificate, IsFound}
use Rattle.qs_deck.specs.Decks.{Grammar}

-- What stands in front of the number of levels: `-NIVEAUX- S `
abbrev pub levels_front : List (List ℕ) → Label → List ℕ
levels_front names name = codes "-NIVEAUX- " ++ (label_text (name_of names name) ++ codes " ")

-- The line of a label with its level: `1 GN`
abbrev pub level_line : List (List ℕ) → Label × ℕ → List ℕ
level_line names level = line (decimal level.1 ++ (codes " " ++ label_text (name_of names level.0)))

-- The lines of a grammar with this name: how many levels its rules have, `-NIVEAUX- S 3.`, and the level of each label;
-- or `-NIVEAUX- S -.` where they have none.
abbrev pub levels_block : List (List ℕ) → Label → Option LevelCertificate → List ℕ
levels_block names name None = levels_front names name ++ line (codes "-.")
levels_block names name (Some levels) =
    levels_front names name ++ (line (decimal levels.count ++ codes ".") ++ flat_map (level_line names) levels.of)

-- The text has, for each of these grammars in order, the lines of what is found for its rules: their least level
-- certificate, or that none fits.
abbrev pub TellsLevels : List (List ℕ) → List Grammar → List ℕ → Type 0
TellsLevels names [] text = text ≡ []
TellsLevels names (grammar ∷ grammars) text =
    (found : Option LevelCertificate) × IsFound grammar.rules found
    × (rest : List ℕ) × TellsLevels names grammars rest × (text ≡ levels_block names grammar.name found ++ rest)
