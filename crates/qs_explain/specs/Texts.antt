-- How a support is written: a comment for each arc and for each firing, as `# arc 3 -1- S(NP,VP) -2-.` and
-- `# rule 0 on 0,1 gives 3.` (This project.)
use Rattle.std.specs.Prelude.{ℕ, List, [], ◌++◌, map, flat_map, codes, decimal, slice_get, unwrap_or}
use Rattle.std.specs.Option.{option_map}
use Rattle.qs_ruletext.specs.Texts.{joined}
use Rattle.qs_graphtext.specs.Texts.{line, arc_line}
use Rattle.qs_canon.specs.Rounds.{Stage}
use Rattle.qs_explain.specs.Support.{SupportOf, path_at, added_at}

-- An arc: its number, and behind it what stands for the arc in a graph.
abbrev pub arc_comment : List (List ℕ) → Stage → ℕ → List ℕ
arc_comment names S k =
    codes "# arc " ++ (decimal k
    ++ (codes " " ++ unwrap_or (option_map (arc_line names) (slice_get S.graph.arcs k)) []))

-- Numbers with a comma between two: `3,4`
abbrev pub numbers_text : List ℕ → List ℕ
numbers_text numbers = joined (codes ",") (map decimal numbers)

-- The rule of the firing at a place, by its number from 0.
abbrev pub rule_at : Stage → ℕ → ℕ
rule_at S i = unwrap_or (option_map (λ d. d.firing.rule) (slice_get S.done i)) 0

-- A firing: its rule, the arcs of its path, and the arcs that it added.
abbrev pub firing_comment : Stage → ℕ → List ℕ
firing_comment S i =
    line (codes "# rule " ++ (decimal (rule_at S i)
    ++ (codes " on " ++ (numbers_text (path_at S i)
    ++ (codes " gives " ++ (numbers_text (added_at S i) ++ codes "."))))))

-- A support: its arcs, and then its firings, each on its line.
abbrev pub support_text : List (List ℕ) → Stage → SupportOf → List ℕ
support_text names S s = flat_map (arc_comment names S) s.arcs ++ flat_map (firing_comment S) s.firings
