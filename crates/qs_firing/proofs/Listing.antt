-- A list of firings in which each firing over some arcs is.
use Rattle.std.proofs.Common.{◌≡◌, ℕ, zero, suc, ◌+◌, ◌<◌, List, [], ◌∷◌, ◌++◌, length, map, subst, inl, inr, arith, Some, slice_get}
use Rattle.std.specs.List.{flat_map}
use Rattle.std.proofs.lemmas.Option.{slice_get_within}
use Rattle.qs_tree.specs.Lists.{◌∈◌}
use Rattle.qs_pattern.specs.Patterns.{count}
use Rattle.qs_pattern.specs.Substitutions.{Substitution}
use Rattle.qs_pattern.specs.Rules.{Rule, AreLeftSidesInClass}
use Rattle.qs_graph.specs.Graphs.{Arc, Leads, trees_on}
use Rattle.qs_firing.specs.Firings.{Firing, Fires}
use Rattle.qs_tree.proofs.Members.{in_append_left, in_append_right, in_map, in_flat_map, in_at, numbers_from, in_numbers, sequences, in_sequences}
use Rattle.qs_pattern.proofs.Candidates.{candidates, is_candidate}

-- the arcs of a path are arcs of the list
pub in_range : (arcs : List Arc) (a : ℕ) (ks : List ℕ) (b : ℕ) → Leads arcs a ks b → (k : ℕ) → k ∈ ks → k ∈ numbers_from 0 arcs
in_range arcs a [] b l k i = absurd i
in_range arcs a (j ∷ ks) b (arc, is, e, l) k (inl same) =
    let within : j < length arcs = slice_get_within arcs j arc is in
    in_numbers 0 arcs k (omega arith) (omega arith)
in_range arcs a (j ∷ ks) b (arc, is, e, l) k (inr i) = in_range arcs arc.to ks b l k i

-- the rule of number i with each candidate for each list of arcs as long as its left side
abbrev pub firings_on : ℕ → Rule → List Arc → List ℕ → List Firing
firings_on i rule arcs path = map (λ s. record { rule = i; path = path; values = s }) (candidates rule.left (trees_on arcs path))

abbrev pub firings_of : ℕ → Rule → List Arc → List Firing
firings_of i rule arcs = flat_map (firings_on i rule arcs) (sequences (count rule.left) (numbers_from 0 arcs))

-- those of rules that are numbered from i on
abbrev pub all_firings : ℕ → List Rule → List Arc → List Firing
all_firings i [] arcs = []
all_firings i (r ∷ rs) arcs = firings_of i r arcs ++ all_firings (suc i) rs arcs

in_firings_of : (i : ℕ) (rule : Rule) (arcs : List Arc) (path : List ℕ) (s : Substitution) → length path ≡ count rule.left → ((k : ℕ) → k ∈ path → k ∈ numbers_from 0 arcs)
    → s ∈ candidates rule.left (trees_on arcs path) → record { rule = i; path = path; values = s } ∈ firings_of i rule arcs
in_firings_of i rule arcs path s long each c =
    let f : Firing = record { rule = i; path = path; values = s } in
    in_flat_map (firings_on i rule arcs) (sequences (count rule.left) (numbers_from 0 arcs)) path f (in_sequences (numbers_from 0 arcs) path (count rule.left) long each)
    (in_map (λ s. record { rule = i; path = path; values = s }) (candidates rule.left (trees_on arcs path)) s c)

in_all_firings : (i : ℕ) (rs : List Rule) (arcs : List Arc) (n : ℕ) (path : List ℕ) (s : Substitution) (rule : Rule) → slice_get rs n ≡ Some rule → length path ≡ count rule.left
    → ((k : ℕ) → k ∈ path → k ∈ numbers_from 0 arcs) → s ∈ candidates rule.left (trees_on arcs path) → record { rule = i + n; path = path; values = s } ∈ all_firings i rs arcs
in_all_firings i [] arcs n path s rule is long each c = absurd cc
in_all_firings i (r ∷ rs) arcs zero path s rule is long each c =
    let same : rule ≡ r = cc in
    let here : i + 0 ≡ i = omega arith in
    let f : Firing = record { rule = i; path = path; values = s } in
    rw here (in_append_left (firings_of i r arcs) (all_firings (suc i) rs arcs) f (subst (λ (x : Rule). f ∈ firings_of i x arcs) same (in_firings_of i rule arcs path s long each c)))
in_all_firings i (r ∷ rs) arcs (suc n) path s rule is long each c =
    let there : i + suc n ≡ suc i + n = omega arith in
    let f : Firing = record { rule = suc i + n; path = path; values = s } in
    rw there (in_append_right (firings_of i r arcs) (all_firings (suc i) rs arcs) f (in_all_firings (suc i) rs arcs n path s rule is long each c))

pub is_listed : (R : List Rule) → AreLeftSidesInClass R → (arcs : List Arc) (f : Firing) → Fires R arcs f → f ∈ all_firings 0 R arcs
is_listed R ok arcs f r =
    let c = is_candidate r.rule.left (ok r.rule (in_at R f.rule r.rule r.is_rule)) (trees_on arcs f.path) f.values r.matches in
    let i : record { rule = 0 + f.rule; path = f.path; values = f.values } ∈ all_firings 0 R arcs =
    in_all_firings 0 R arcs f.rule f.path f.values r.rule r.is_rule r.long (in_range arcs r.from f.path r.to r.path.leads) c in
    let start : 0 + f.rule ≡ f.rule = omega arith in
    let same : record { rule = 0 + f.rule; path = f.path; values = f.values } ≡ f = (λ j. record { rule = start j; path = f.path; values = f.values }) in
    subst (λ g. g ∈ all_firings 0 R arcs) same i
