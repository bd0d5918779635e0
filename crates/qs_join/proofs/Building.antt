-- What a firing builds, by the rule that is found at its number.
use Rattle.std.proofs.Common.{◌≡◌, ℕ, List, [], get_or, Option, Some, slice_get, unwrap_or, ap, subst, arith}
use Rattle.std.specs.Option.{option_map}
use Rattle.std.proofs.lemmas.Option.{slice_get_within}
use Rattle.qs_tree.proofs.Members.{at_place}
use Rattle.qs_pattern.specs.Instances.{inst, IsCovered, IsMatch}
use Rattle.qs_pattern.specs.Rules.{Rule, IsAccepted}
use Rattle.qs_pattern.proofs.Covering.{right_covered}
use Rattle.qs_graph.specs.Graphs.{Arc, trees_on}
use Rattle.qs_firing.specs.Firings.{Firing, Fires}
use Rattle.qs_firing.specs.Adding.{built}

module _ (R : List Rule) (arcs : List Arc) (f : Firing) (n : ℕ) (rule : Rule) (x : Fires R arcs f) (e : n ≡ f.rule) (at : rule ≡ get_or R n rule) where
  here : slice_get R f.rule ≡ Some rule
  here = subst (λ k. slice_get R k ≡ Some rule) e (at_place R n rule (let w = slice_get_within R f.rule x.rule x.is_rule in omega arith) at)

  pub covered : IsAccepted rule → IsCovered f.values rule.right
  covered ok =
      let is = x.is_rule in
      let there = here in
      let same : x.rule ≡ rule = cc in
      right_covered rule ok (trees_on arcs f.path) f.values (subst (λ (r : Rule). IsMatch r.left (trees_on arcs f.path) f.values) same x.matches)

  pub builds : built R f ≡ inst f.values rule.right
  builds = ap (λ (o : Option Rule). unwrap_or (option_map (λ (r : Rule). inst f.values r.right) o) []) here
