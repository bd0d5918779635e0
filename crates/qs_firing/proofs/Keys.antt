-- Within one graph, firings with equal keys are equal.
use Rattle.std.proofs.Common.{◌≡◌, List, sym, ◌∙◌, ap, subst, Some, slice_get}
use Rattle.qs_pattern.specs.Rules.{Rule, AreLeftSidesInClass}
use Rattle.qs_pattern.specs.Substitutions.{forest_lengths}
use Rattle.qs_pattern.specs.Instances.{IsMatch}
use Rattle.qs_graph.specs.Graphs.{Arc, trees_on}
use Rattle.qs_firing.specs.Firings.{Firing, Fires, key}
use Rattle.qs_tree.proofs.Members.{in_at}
use Rattle.qs_pattern.proofs.MatchLemmas.{lengths_tell}

pub one_firing : (R : List Rule) → AreLeftSidesInClass R → (arcs : List Arc) (f g : Firing) → Fires R arcs f → Fires R arcs g → key f ≡ key g → f ≡ g
one_firing R ok arcs f g r q e =
    let n : f.rule ≡ g.rule = cc in
    let p : f.path ≡ g.path = cc in
    let l : forest_lengths f.values ≡ forest_lengths g.values = cc in
    let some : Some q.rule ≡ Some r.rule = sym q.is_rule ∙ ap (slice_get R) (sym n) ∙ r.is_rule in
    let same : q.rule ≡ r.rule = cc in
    let m : IsMatch q.rule.left (trees_on arcs f.path) g.values = subst (λ ks. IsMatch q.rule.left (trees_on arcs ks) g.values) (sym p) q.matches in
    let m' : IsMatch r.rule.left (trees_on arcs f.path) g.values = subst (λ (x : Rule). IsMatch x.left (trees_on arcs f.path) g.values) same m in
    let v = lengths_tell r.rule.left (trees_on arcs f.path) f.values g.values (ok r.rule (in_at R f.rule r.rule r.is_rule)) r.matches m' l in
    λ i. record { rule = n i; path = p i; values = v i }
