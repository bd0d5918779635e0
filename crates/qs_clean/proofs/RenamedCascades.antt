-- A cascade does the same under other numbers for the labels.
use Rattle.std.proofs.Common.{◌≡◌, ℕ, ◌<◌, ◌≤◌, List, [], ◌∷◌, length, map, refl, sym, ap, subst, inl, inr}
use Rattle.std.proofs.lemmas.List.{length-map}
use Rattle.qs_pattern.specs.Rules.{Rule}
use Rattle.qs_graph.specs.Graphs.{QGraph}
use Rattle.qs_canon.specs.Rounds.{Stage}
use Rattle.qs_clean.specs.Cascades.{Cascade, Left, Ending, a_graph, no_arc, all_done, no_more, limit, empty, goes_on}
use Rattle.qs_clean.specs.Renaming.{IsRenaming, renamed_rule, renamed_arc, renamed_graph, renamed_left}
use Rattle.qs_clean.specs.working.Renaming.{renamed_done, renamed_stage}
use Rattle.qs_clean.proofs.CascadeExistence.{AllAccepted}
use Rattle.qs_clean.proofs.RenamedFirings.{accepted_bound}
use Rattle.qs_clean.proofs.RenamedRounds.{closes_renamed, needs_renamed}
use Rattle.qs_clean.proofs.RenamedCleaning.{cleans_renamed}

module _ (f g : ℕ → ℕ) (is : IsRenaming f g) (L : ℕ) where
  abbrev others : List (List Rule) → List (List Rule)
  others Rs = map (map (renamed_rule f)) Rs

  -- as many firings are done
  same_count : (C : Stage) → length (renamed_stage f C).done ≡ length C.done
  same_count C = length-map C.done (renamed_done f)

  few_renamed : (C : Stage) → length C.done ≤ L → length (renamed_stage f C).done ≤ L
  few_renamed C few = subst (λ n. n ≤ L) (sym (same_count C)) few

  some_renamed : (H : QGraph) → 0 < length H.arcs → 0 < length (renamed_graph f H).arcs
  some_renamed H some = subst (λ n. 0 < n) (sym (length-map H.arcs (renamed_arc f))) some

  pub cascade_renamed : {G : QGraph} {Rs : List (List Rule)} {lefts : List Left} {end : Ending} → AllAccepted Rs → Cascade L G Rs lefts end
      → Cascade L (renamed_graph f G) (others Rs) (map (renamed_left f) lefts) end
  cascade_renamed accepted no_more = no_more
  cascade_renamed accepted (limit {G = G} {R = R} n) =
      limit (needs_renamed f g is R (λ rule i. accepted_bound rule (accepted R (inl refl) rule i)) G L n)
  cascade_renamed accepted (empty {G = G} {E = E} {R = R} {Rs = Rs} {C = C} c few k z) =
      subst (λ n. Cascade L (renamed_graph f G) (others (R ∷ Rs)) (no_arc n ∷ []) all_done) (same_count C)
      (empty
      (closes_renamed f g is R (λ rule i. accepted_bound rule (accepted R (inl refl) rule i)) G C c)
      (few_renamed C few)
      (cleans_renamed f g is C E k)
      (ap (map (renamed_arc f)) z))
  cascade_renamed accepted (goes_on {G = G} {H = H} {R = R} {Rs = Rs} {C = C} {rest = rest} {end = end} c few k p o) =
      subst (λ n. Cascade L (renamed_graph f G) (others (R ∷ Rs)) (a_graph n (renamed_graph f H) ∷ map (renamed_left f) rest) end) (same_count C)
      (goes_on
      (closes_renamed f g is R (λ rule i. accepted_bound rule (accepted R (inl refl) rule i)) G C c)
      (few_renamed C few)
      (cleans_renamed f g is C H k)
      (some_renamed H p)
      (cascade_renamed (λ Q i. accepted Q (inr i)) o))
