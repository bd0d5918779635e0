-- What a firing adds to a graph, and which arcs are its result. (That a firing adds a path of trees beside its own is
-- Colmerauer's, 1970; what becomes of equal arcs is this project's own.)
use Rattle.std.specs.Prelude.{◌≡◌, ℕ, zero, suc, ◌+◌, Bool, ◌&&◌, ◌==◌, if◌then◌else◌, List, [], ◌∷◌, length, slice_get}
use Rattle.std.specs.Prelude.{unwrap_or, Option, Some, None, is_some}
use Rattle.std.specs.Option.{option_map}
use Rattle.qs_tree.specs.Trees.{Tree}
use Rattle.qs_tree.specs.Sameness.{same_tree}
use Rattle.qs_pattern.specs.Instances.{inst}
use Rattle.qs_pattern.specs.Rules.{Rule, all_unique}
use Rattle.qs_graph.specs.Graphs.{Arc, QGraph}
use Rattle.qs_graph.specs.Chains.{with_chain}
use Rattle.qs_firing.specs.Firings.{Firing}

-- The node at which a path starts, and the one at which it ends.
abbrev pub start_of : List Arc → List ℕ → ℕ
start_of arcs [] = 0
start_of arcs (k ∷ ks) = unwrap_or (option_map (λ arc. arc.from) (slice_get arcs k)) 0

abbrev pub end_of : List Arc → List ℕ → ℕ
end_of arcs [] = 0
end_of arcs (k ∷ []) = unwrap_or (option_map (λ arc. arc.to) (slice_get arcs k)) 0
end_of arcs (k ∷ l ∷ ks) = end_of arcs (l ∷ ks)

-- The trees that a firing builds: its rule's right side under its substitution. (Colmerauer 1970.)
abbrev pub built : List Rule → Firing → List Tree
built R f = unwrap_or (option_map (λ rule. inst f.values rule.right) (slice_get R f.rule)) []

-- Equal arcs lead from the same node to the same node and carry equal trees. Whether the arc leads from a to b and
-- carries the tree t.
abbrev pub is_from_to : ℕ → ℕ → Tree → Arc → Bool
is_from_to a b t arc = arc.from == a && (arc.to == b && same_tree arc.tree t)

-- The least number of an arc of the list that leads from a to b and carries the tree t, where there is one.
abbrev pub least_arc : List Arc → ℕ → ℕ → Tree → Option ℕ
least_arc [] a b t = None
least_arc (arc ∷ arcs) a b t = if is_from_to a b t arc then Some 0 else option_map suc (least_arc arcs a b t)

-- Of one tree between a and b, the arc that stands already: the least such arc, where there is one. Where there is no
-- tree, or there are several, no arc counts as standing.
abbrev pub standing : List Arc → ℕ → List Tree → ℕ → Option ℕ
standing arcs a [] b = None
standing arcs a (t ∷ []) b = least_arc arcs a b t
standing arcs a (t ∷ u ∷ ts) b = None

-- The arc that a firing meets: where the rules are all unique and it builds one tree, the least arc that already leads
-- from the start of its path to the end and carries that tree. Elsewhere it meets none.
abbrev pub met : List Rule → QGraph → Firing → Option ℕ
met R G f = if all_unique R then standing G.arcs (start_of G.arcs f.path) (built R f) (end_of G.arcs f.path) else None

-- A firing that meets an arc adds no tree; each other one adds the trees that it builds.
abbrev pub unless_met : Option ℕ → List Tree → List Tree
unless_met (Some l) ts = []
unless_met None ts = ts

abbrev pub added : List Rule → QGraph → Firing → List Tree
added R G f = unless_met (met R G f) (built R f)

-- A firing adds a chain of these trees between the ends of its path, behind all arcs that stand already; where it adds
-- no tree the graph stays as it is. Where it meets no arc, an equal arc that stands already changes nothing.
abbrev pub adds : List Rule → QGraph → Firing → QGraph
adds R G f = with_chain G (start_of G.arcs f.path) (added R G f) (end_of G.arcs f.path)

-- The arc that leads from the start of a firing's path to its end and carries this tree.
abbrev pub between : QGraph → Firing → Tree → Arc
between G f t = record { from = start_of G.arcs f.path; to = end_of G.arcs f.path; tree = t }

-- The arc with this number is such an arc.
abbrev pub StandsAt : QGraph → Firing → Tree → ℕ → Type 0
StandsAt G f t k = slice_get G.arcs k ≡ Some (between G f t)

-- So many numbers, from n on.
abbrev pub from_on : ℕ → ℕ → List ℕ
from_on n zero = []
from_on n (suc many) = n ∷ from_on (n + 1) many

-- The arcs that are the result of a firing, by their numbers: the one that it meets, or else those that it adds, which
-- follow the arcs that stand already.
abbrev pub result_by : Option ℕ → ℕ → ℕ → List ℕ
result_by (Some l) arcs many = l ∷ []
result_by None arcs many = from_on arcs many

abbrev pub result_arcs : List Rule → QGraph → Firing → List ℕ
result_arcs R G f = result_by (met R G f) (length G.arcs) (length (built R f))

-- The first arc of its result.
abbrev pub first_arc : List Rule → QGraph → Firing → ℕ
first_arc R G f = unwrap_or (met R G f) (length G.arcs)

-- Whether it meets an arc.
abbrev pub meets : List Rule → QGraph → Firing → Bool
meets R G f = is_some (met R G f)
