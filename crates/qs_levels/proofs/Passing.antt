-- Passing one step into a node.
use Rattle.std.proofs.Common.{◌≡◌, ◌⊎◌, ℕ, ◌+◌, ◌<◌, ◌≤◌, inl, inr, ⊎_elim, max, List, length, take, drop, get_or, Option, Some, None, slice_get, refl, ◌∙◌, subst, arith}
use Rattle.std.proofs.lemmas.List.{take-append-drop, length-take}
use Rattle.std.proofs.lemmas.Option.{slice_get_within, slice_get-get_or}
use Rattle.std.proofs.lemmas.Bool.{cases_lt}
use Rattle.qs_tree.proofs.Elements.{slice_get-take}
use Rattle.qs_tree.proofs.Members.{in_read, at_place}
use Rattle.qs_graph.proofs.Paths.{slice_get-append}
use Rattle.qs_firing.specs.Neighbours.{IsLastPlace}
use Rattle.qs_levels.specs.declared.ordering.Node.{Node}
use Rattle.qs_levels.specs.working.Steps.{AreChains}
use Rattle.qs_levels.specs.working.Ordering.{AreSteps, IsDone, IsBehind, IsFromBelow, IsReached, IsPassed, places_left}

pub from_take : {X : Type 0} (n : ℕ) (xs : List X) (k : ℕ) (x : X) → slice_get (take n xs) k ≡ Some x → slice_get xs k ≡ Some x
from_take n xs k x e = subst (λ ys. slice_get ys k ≡ Some x) (take-append-drop n xs) (slice_get-append (take n xs) (drop n xs) k x e)

-- no step is passed over where the last one of all is open
pub nothing_passed : (sources targets : List ℕ) (nodes : List Node) (n : ℕ) (o : Option ℕ) → IsLastPlace targets n o → IsPassed sources targets nodes n 0 o
nothing_passed sources targets nodes n None l = record { behind = λ k e b. absurd (l k e); stands = λ k e. absurd cc; reached = λ h. absurd (omega arith) }
nothing_passed sources targets nodes n (Some p) l = record {
  behind = λ k e b. absurd (omega (arith, l.1 k e));
  stands = λ k e. (let s : p ≡ k = cc in subst (λ j. slice_get targets j ≡ Some n) s l.0);
  reached = λ h. absurd (omega arith);
}

module _ (sources targets : List ℕ) (nodes : List Node) (limit : ℕ) (last before : List (Option ℕ)) (ch : AreChains limit targets last before) (n depth place : ℕ) (p : IsPassed sources targets nodes n depth (Some place)) where
  next : IsLastPlace (take place targets) n (get_or before place None)
  next = ch.before_of place n (p.stands place refl)

  pub place_within : place < length targets
  place_within = slice_get_within targets place n (p.stands place refl)

  pub fewer_left : places_left (get_or before place None) < places_left (Some place)
  fewer_left = by (get_or before place None) next
    where
      by : (o : Option ℕ) → IsLastPlace (take place targets) n o → places_left o < places_left (Some place)
      by None l = omega arith
      by (Some q) l = omega (arith, slice_get_within (take place targets) q n l.0, length-take place targets)

  pub passed_more : (source : ℕ) → slice_get sources place ≡ Some source → (x : Node) → IsDone nodes source x → (new : ℕ) → new ≡ max depth (x.depth + 1) → IsPassed sources targets nodes n new (get_or before place None)
  passed_more source from x d new e = record {
    behind = λ k to b. behind k to (get_or before place None) next b (cases_lt place k) (cases_lt k place);
    stands = λ k s. from_take place targets k n (subst (IsLastPlace (take place targets) n) s next).0;
    reached = λ h. ⊎_elim (kept h) (here h) (cases_lt depth (x.depth + 1));
  }
    where
      raised : (k : ℕ) → IsFromBelow sources nodes k depth → IsFromBelow sources nodes k new
      raised k f = record { source = f.source; at = f.at; node = f.node; done = f.done; below = (let l = f.below in omega arith) }

      behind : (k : ℕ) → slice_get targets k ≡ Some n → (o : Option ℕ) → IsLastPlace (take place targets) n o → IsBehind o k → (place < k) ⊎ (k ≤ place) → (k < place) ⊎ (place ≤ k) → IsFromBelow sources nodes k new
      behind k to o l b (inl later) w = raised k (p.behind k to later)
      behind k to None l b (inr h) (inl before) = absurd (l k (slice_get-take place targets k before ∙ to))
      behind k to (Some q) l b (inr h) (inl before) = absurd (omega (arith, l.1 k (slice_get-take place targets k before ∙ to)))
      behind k to o l b (inr h) (inr g) =
          let same : place ≡ k = omega arith in
          record { source = source; at = subst (λ j. slice_get sources j ≡ Some source) same from; node = x; done = d; below = omega arith }

      kept : 0 < new → depth < x.depth + 1 → IsReached sources targets nodes n new
      kept h l = record { step = place; to = p.stands place refl; source = source; from = from; node = x; done = d; just_below = omega arith }

      here : 0 < new → x.depth + 1 ≤ depth → IsReached sources targets nodes n new
      here h l = let same : depth ≡ new = omega arith in subst (IsReached sources targets nodes n) same (p.reached (omega arith))

-- what the program has read of an open step
pub record IsOpen (sources targets : List ℕ) (nodes : List Node) (before : List (Option ℕ)) (n depth place source : ℕ) (d : Node) : Type 0 where
  pub low : place < length sources
  pub low_before : place < length before
  pub from : slice_get sources place ≡ Some source
  pub within : source < length nodes
  pub is : slice_get nodes source ≡ Some (get_or nodes source d)
  pub fewer : places_left (get_or before place None) < places_left (Some place)

pub opened : (sources targets : List ℕ) (nodes : List Node) (last before : List (Option ℕ)) → AreSteps (length nodes) sources targets → AreChains (length nodes) targets last before → (n depth : ℕ) (o : Option ℕ) (place source : ℕ)
    → IsPassed sources targets nodes n depth o → o ≡ Some place → source ≡ get_or sources place source → (d : Node) → IsOpen sources targets nodes before n depth place source d
opened sources targets nodes last before s ch n depth o place source p e read d =
    let q : IsPassed sources targets nodes n depth (Some place) = subst (IsPassed sources targets nodes n depth) e p in
    let low : place < length targets = place_within sources targets nodes (length nodes) last before ch n depth place q in
    let here : place < length sources = omega (arith, s.long) in
    let within : source < length nodes = s.sources_in source (in_read sources place source here read) in
    record {
      low = here;
      low_before = omega (arith, ch.long_before);
      from = at_place sources place source here read;
      within = within;
      is = slice_get-get_or nodes source d within;
      fewer = fewer_left sources targets nodes (length nodes) last before ch n depth place q;
    }

pub below_limit : (sources targets : List ℕ) (nodes : List Node) (last before : List (Option ℕ)) → AreSteps (length nodes) sources targets → AreChains (length nodes) targets last before → (n depth : ℕ) (o : Option ℕ) (place : ℕ)
    → IsPassed sources targets nodes n depth o → o ≡ Some place → place < length sources
below_limit sources targets nodes last before s ch n depth o place p e =
    omega (arith, s.long, place_within sources targets nodes (length nodes) last before ch n depth place (subst (IsPassed sources targets nodes n depth) e p))

-- a place before another leaves fewer
pub fewer_before : (limit : ℕ) (numbers : List ℕ) (last before : List (Option ℕ)) → AreChains limit numbers last before → (place n : ℕ) → slice_get numbers place ≡ Some n
    → places_left (get_or before place None) < places_left (Some place)
fewer_before limit numbers last before ch place n at = by (get_or before place None) (ch.before_of place n at)
  where
    by : (o : Option ℕ) → IsLastPlace (take place numbers) n o → places_left o < places_left (Some place)
    by None l = omega arith
    by (Some q) l = omega (arith, slice_get_within (take place numbers) q n l.0, length-take place numbers)
