-- Firings whose paths have a part in common, and how that part grows to the left and to the right.
use Rattle.std.proofs.Common.{◌≡◌, ℕ, ◌-◌, ◌<◌, ◌≤◌, inl, inr, ⊎_elim, List, [], ◌∷◌, ◌++◌, length, Some, slice_get, refl, sym, ap, ◌∙◌, subst, arith, append_assoc, append-nil, length-append}
use Rattle.std.specs.Option.{option_map}
use Rattle.std.proofs.lemmas.Option.{slice_get-map}
use Rattle.std.proofs.lemmas.List.{nil_from_length}
use Rattle.qs_tree.specs.Lists.{◌∈◌}
use Rattle.qs_tree.proofs.Members.{from_append}
use Rattle.qs_pattern.specs.Patterns.{count}
use Rattle.qs_pattern.specs.Substitutions.{Substitution}
use Rattle.qs_pattern.specs.Instances.{IsMatch}
use Rattle.qs_pattern.specs.Rules.{Rule}
use Rattle.qs_graph.specs.Graphs.{Arc, Leads, IsPath, trees_on}
use Rattle.qs_graph.proofs.Paths.{leads-append}
use Rattle.qs_firing.proofs.Merging.{at_seam}
use Rattle.qs_firing.specs.Firings.{Firing}
use Rattle.qs_firing.specs.Neighbours.{starts, ends}
use Rattle.qs_join.specs.working.Searching.{FiresBy, AreUpTo, Through, Finds}
use Rattle.qs_join.specs.working.Matching.{HasValues}
use Rattle.qs_join.proofs.Finding.{finds_same}

-- ---- parts of lists

pub split_last : (xs : List ℕ) → 0 < length xs → (ys : List ℕ) × (y : ℕ) × (xs ≡ ys ++ y ∷ []) × (length ys ≡ length xs - 1)
split_last [] h = absurd (omega arith)
split_last (x ∷ []) h = ([], x, refl, refl)
split_last (x ∷ z ∷ xs) h =
    let (ys, y, e, l) = split_last (z ∷ xs) (omega arith) in
    (x ∷ ys, y, ap (λ zs. x ∷ zs) e, omega arith)

first_of : {X : Type 0} (xs : List X) → 0 < length xs → (x : X) × (more : List X) × (xs ≡ x ∷ more)
first_of [] h = absurd (omega arith)
first_of (x ∷ xs) h = (x, xs, refl)

-- ---- parts of paths

module _ (arcs : List Arc) where
  pub leads_split : (a : ℕ) (xs ys : List ℕ) (b : ℕ) → Leads arcs a (xs ++ ys) b → (m : ℕ) × Leads arcs a xs m × Leads arcs m ys b
  leads_split a [] ys b l = (a, refl, l)
  leads_split a (x ∷ xs) ys b (arc, at, f, l) = let (m, p, q) = leads_split arc.to xs ys b l in (m, (arc, at, f, p), q)

  -- a path that isn't empty has one start and one end
  one_start : (a b : ℕ) (ks : List ℕ) (m n : ℕ) → 0 < length ks → Leads arcs a ks m → Leads arcs b ks n → a ≡ b
  one_start a b [] m n h p q = absurd (omega arith)
  one_start a b (k ∷ ks) m n h (arc, at, f, p) (other, there, g, q) = let same : arc ≡ other = cc in sym f ∙ ap (λ (x : Arc). x.from) same ∙ g

  one_end : (a b k : ℕ) (ks : List ℕ) (m n : ℕ) → Leads arcs a (k ∷ ks) m → Leads arcs b (k ∷ ks) n → m ≡ n
  one_end a b k [] m n (arc, at, f, p) (other, there, g, q) = let same : arc ≡ other = cc in sym p ∙ ap (λ (x : Arc). x.to) same ∙ q
  one_end a b k (l ∷ ks) m n (arc, at, f, p) (other, there, g, q) = one_end arc.to other.to l ks m n p q

  same_end : (a b : ℕ) (ks : List ℕ) (m n : ℕ) → 0 < length ks → Leads arcs a ks m → Leads arcs b ks n → m ≡ n
  same_end a b [] m n h p q = absurd (omega arith)
  same_end a b (k ∷ ks) m n h p q = one_end a b k ks m n p q

  -- where an arc starts and ends
  pub from_starts : (k : ℕ) (arc : Arc) (n : ℕ) → slice_get arcs k ≡ Some arc → slice_get (starts arcs) k ≡ Some n → arc.from ≡ n
  from_starts k arc n at e =
      let both : Some arc.from ≡ Some n = ap (option_map (λ (x : Arc). x.from)) (sym at) ∙ sym (slice_get-map (λ (x : Arc). x.from) arcs k) ∙ e in
      cc

  pub to_starts : (k : ℕ) (arc : Arc) → slice_get arcs k ≡ Some arc → slice_get (starts arcs) k ≡ Some arc.from
  to_starts k arc at = slice_get-map (λ (x : Arc). x.from) arcs k ∙ ap (option_map (λ (x : Arc). x.from)) at

  pub from_ends : (k : ℕ) (arc : Arc) (n : ℕ) → slice_get arcs k ≡ Some arc → slice_get (ends arcs) k ≡ Some n → arc.to ≡ n
  from_ends k arc n at e =
      let both : Some arc.to ≡ Some n = ap (option_map (λ (x : Arc). x.to)) (sym at) ∙ sym (slice_get-map (λ (x : Arc). x.to) arcs k) ∙ e in
      cc

  pub to_ends : (k : ℕ) (arc : Arc) → slice_get arcs k ≡ Some arc → slice_get (ends arcs) k ≡ Some arc.to
  to_ends k arc at = slice_get-map (λ (x : Arc). x.to) arcs k ∙ ap (option_map (λ (x : Arc). x.to)) at

  -- a path with one more arc in front of it, and behind it
  pub longer_left : (k : ℕ) (arc : Arc) (n : ℕ) (path : List ℕ) (b : ℕ) → slice_get arcs k ≡ Some arc → slice_get (ends arcs) k ≡ Some n → IsPath arcs n path b → IsPath arcs arc.from (k ∷ path) b
  longer_left k arc n path b at e p = record {
    some = omega arith;
    leads = (arc, at, refl, subst (λ m. Leads arcs m path b) (sym (from_ends k arc n at e)) p.leads);
  }

  pub longer_right : (k : ℕ) (arc : Arc) (a : ℕ) (path : List ℕ) (n : ℕ) → slice_get arcs k ≡ Some arc → slice_get (starts arcs) k ≡ Some n → IsPath arcs a path n → IsPath arcs a (path ++ k ∷ []) arc.to
  longer_right k arc a path n at e p = record {
    some = omega (arith, length-append path (k ∷ []));
    leads = leads-append arcs a path n (k ∷ []) arc.to p.leads (arc, at, from_starts k arc n at e, refl);
  }

-- numbers that are up to m, with one more
pub up_to_left : (m k : ℕ) (ks : List ℕ) → k ≤ m → AreUpTo m ks → AreUpTo m (k ∷ ks)
up_to_left m k ks h all j (inl e) = omega arith
up_to_left m k ks h all j (inr i) = all j i

pub up_to_right : (m k : ℕ) (ks : List ℕ) → k ≤ m → AreUpTo m ks → AreUpTo m (ks ++ k ∷ [])
up_to_right m k ks h all j i = ⊎_elim (λ l. all j l) (λ l. up_to_left m k [] h (λ n z. absurd z) j l) (from_append ks (k ∷ []) j i)

-- ---- firings through a part of their path

module _ (number : ℕ) (rule : Rule) (arcs : List Arc) (m : ℕ) where
  -- the part goes on to the left
  pub left_of : (before : ℕ) (path : List ℕ) → 0 < before → (f : Firing) → Through number rule arcs m before path f → (k : ℕ) × Through number rule arcs m (before - 1) (k ∷ path) f
  left_of before path h f t =
      let (front, k, e, l) = split_last t.front (let n = t.long in omega arith) in (
        k,
        record {
          by = t.by;
          few = t.few;
          front = front;
          long = (let n = t.long in omega arith);
          rest = t.rest;
          path_is = t.path_is ∙ ap (λ ks. ks ++ (path ++ t.rest)) e ∙ append_assoc front (k ∷ []) (path ++ t.rest);
        },
      )

  pub of_left : (before : ℕ) (path : List ℕ) → 0 < before → (f : Firing) (k : ℕ) → Through number rule arcs m (before - 1) (k ∷ path) f → Through number rule arcs m before path f
  of_left before path h f k t = record {
    by = t.by;
    few = t.few;
    front = t.front ++ k ∷ [];
    long = omega (arith, length-append t.front (k ∷ []), t.long);
    rest = t.rest;
    path_is = t.path_is ∙ sym (append_assoc t.front (k ∷ []) (path ++ t.rest));
  }

  -- the next arc on the left ends where the part begins
  pub stands_left : (before : ℕ) (a : ℕ) (path : List ℕ) (b : ℕ) → IsPath arcs a path b → (k : ℕ) (f : Firing) → Through number rule arcs m before (k ∷ path) f → slice_get (ends arcs) k ≡ Some a
  stands_left before a path b p k f t =
      let (n, x, y) = leads_split arcs t.by.from t.front (k ∷ (path ++ t.rest)) t.by.to (subst (λ (ks : List ℕ). Leads arcs t.by.from ks t.by.to) t.path_is t.by.path.leads) in
      let (arc, at, g, z) = y in
      let (o, u, v) = leads_split arcs arc.to path t.rest t.by.to z in
      let here : arc.to ≡ a = one_start arcs arc.to a path o b p.some u p.leads in
      to_ends arcs k arc at ∙ ap (λ i. Some i) here

  -- an arc that no firing's path has there
  pub refused_left : (before : ℕ) (path : List ℕ) (k : ℕ) → ((f : Firing) → FiresBy number rule arcs f → AreUpTo m f.path → slice_get f.path before ≡ Some k → ⊥)
      → (f : Firing) → Through number rule arcs m before (k ∷ path) f → ⊥
  refused_left before path k never f t =
      never f t.by t.few (ap (λ ks. slice_get ks before) t.path_is ∙ ap (slice_get (t.front ++ (k ∷ (path ++ t.rest)))) (sym t.long) ∙ at_seam t.front k (path ++ t.rest))

  -- the part goes on to the right
  pub right_of : (path : List ℕ) → length path < count rule.left → (f : Firing) → Through number rule arcs m 0 path f → (k : ℕ) × Through number rule arcs m 0 (path ++ k ∷ []) f
  right_of path h f t =
      let all = ap (λ (ks : List ℕ). length ks) t.path_is in
      let some : 0 < length t.rest = omega (arith, all, t.by.long, t.long, length-append t.front (path ++ t.rest), length-append path t.rest) in
      let (k, rest, e) = first_of t.rest some in (
        k,
        record {
          by = t.by;
          few = t.few;
          front = t.front;
          long = t.long;
          rest = rest;
          path_is = t.path_is ∙ ap (λ ks. t.front ++ (path ++ ks)) e ∙ ap (λ ks. t.front ++ ks) (sym (append_assoc path (k ∷ []) rest));
        },
      )

  pub of_right : (path : List ℕ) (f : Firing) (k : ℕ) → Through number rule arcs m 0 (path ++ k ∷ []) f → Through number rule arcs m 0 path f
  of_right path f k t = record {
    by = t.by;
    few = t.few;
    front = t.front;
    long = t.long;
    rest = k ∷ t.rest;
    path_is = t.path_is ∙ ap (λ ks. t.front ++ ks) (append_assoc path (k ∷ []) t.rest);
  }

  pub stands_right : (a : ℕ) (path : List ℕ) (b : ℕ) → IsPath arcs a path b → (k : ℕ) (f : Firing) → Through number rule arcs m 0 (path ++ k ∷ []) f → slice_get (starts arcs) k ≡ Some b
  stands_right a path b p k f t =
      let whole : f.path ≡ t.front ++ (path ++ (k ∷ t.rest)) = t.path_is ∙ ap (λ ks. t.front ++ ks) (append_assoc path (k ∷ []) t.rest) in
      let (n, x, y) = leads_split arcs t.by.from t.front (path ++ (k ∷ t.rest)) t.by.to (subst (λ (ks : List ℕ). Leads arcs t.by.from ks t.by.to) whole t.by.path.leads) in
      let (o, u, v) = leads_split arcs n path (k ∷ t.rest) t.by.to y in
      let (arc, at, g, z) = v in
      let here : o ≡ b = same_end arcs n a path o b p.some u p.leads in
      to_starts arcs k arc at ∙ ap (λ i. Some i) (g ∙ here)

  pub refused_right : (path : List ℕ) (k : ℕ) → ((f : Firing) → FiresBy number rule arcs f → AreUpTo m f.path → slice_get f.path (length path) ≡ Some k → ⊥)
      → (f : Firing) → Through number rule arcs m 0 (path ++ k ∷ []) f → ⊥
  refused_right path k never f t =
      let none = nil_from_length t.front t.long in
      let whole : f.path ≡ path ++ (k ∷ t.rest) = t.path_is ∙ ap (λ ks. ks ++ ((path ++ k ∷ []) ++ t.rest)) none ∙ append_assoc path (k ∷ []) t.rest in
      never f t.by t.few (ap (λ ks. slice_get ks (length path)) whole ∙ at_seam path k t.rest)

  -- a part that is as long as the left side is the whole path
  whole_path : (path : List ℕ) → length path ≡ count rule.left → (f : Firing) → Through number rule arcs m 0 path f → f.path ≡ path
  whole_path path h f t =
      let all = ap (λ (ks : List ℕ). length ks) t.path_is in
      let none = nil_from_length t.front t.long in
      let nothing = nil_from_length t.rest (omega (arith, all, t.by.long, length-append t.front (path ++ t.rest), length-append path t.rest)) in
      t.path_is ∙ ap (λ ks. ks ++ (path ++ t.rest)) none ∙ ap (λ ks. path ++ ks) nothing ∙ append-nil path

  -- the firings of all matches on it are those through it
  pub through_whole : (a : ℕ) (path : List ℕ) (b : ℕ) (M : List Substitution) → IsPath arcs a path b → AreUpTo m path → length path ≡ count rule.left
      → ((s : Substitution) → s ∈ M → IsMatch rule.left (trees_on arcs path) s) → ((s : Substitution) → IsMatch rule.left (trees_on arcs path) s → s ∈ M)
      → (old new : List Firing) → Finds (HasValues number rule path M) old new → Finds (Through number rule arcs m 0 path) old new
  through_whole a path b M p few long sound all old new = finds_same
      (λ f h. record {
        by = record {
          rule_is = h.rule_is;
          from = a;
          to = b;
          path = subst (λ (ks : List ℕ). IsPath arcs a ks b) (sym h.path_is) p;
          long = ap (λ (ks : List ℕ). length ks) h.path_is ∙ long;
          matches = subst (λ (ks : List ℕ). IsMatch rule.left (trees_on arcs ks) f.values) (sym h.path_is) (sound f.values h.among);
          holds = h.holds;
        };
        few = subst (λ (ks : List ℕ). AreUpTo m ks) (sym h.path_is) few;
        front = [];
        long = refl;
        rest = [];
        path_is = h.path_is ∙ sym (append-nil path);
      })
      (λ f t. let e = whole_path path long f t in record {
        rule_is = t.by.rule_is;
        path_is = e;
        among = all f.values (subst (λ (ks : List ℕ). IsMatch rule.left (trees_on arcs ks) f.values) e t.by.matches);
        holds = t.by.holds;
      })
