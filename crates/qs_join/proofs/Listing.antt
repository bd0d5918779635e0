-- The places of left sides, one rule and one place after the other.
use Rattle.std.proofs.Common.{◌≡◌, ℕ, zero, suc, ◌+◌, ◌<◌, ◌≤◌, inl, inr, ⊎_elim, Bool, true, false, cond, List, [], ◌∷◌, ◌++◌, length, map, take, get_or, Option, Some, None, slice_get, refl, sym, ap, ◌∙◌, subst, arith, append_assoc, append-nil, eq-eqb}
use Rattle.std.specs.Prelude.{if◌then◌else◌}
use Rattle.std.proofs.lemmas.List.{take_more, take_all, map-append, length-map, length-take-le}
use Rattle.qs_tree.specs.Lists.{◌∈◌}
use Rattle.qs_tree.specs.declared.cell.Label.{Label}
use Rattle.qs_tree.proofs.Members.{in_append_left, in_append_right, from_append, in_map, mapped}
use Rattle.qs_pattern.specs.declared.pattern.Pattern.{Pattern, Node', Tree, Forest}
use Rattle.qs_pattern.specs.Patterns.{Patterns, no_pattern, node_first, tree_var_first, forest_var_first, patterns, pattern_before, count}
use Rattle.qs_pattern.specs.Rules.{Rule, IsAccepted}
use Rattle.qs_join.specs.Heads.{roots_asked, is_same_root, places_from, asking_from}
use Rattle.qs_join.specs.working.Listing.{root_of}

-- ---- what is asked for

pub roots-patterns : (ps : List Pattern) → roots_asked (patterns ps) ≡ map root_of ps
roots-patterns [] = refl
roots-patterns (p ∷ ps) = first p (patterns ps) ∙ ap (λ rs. root_of p ∷ rs) (roots-patterns ps)
  where
    first : (p : Pattern) (behind : Patterns) → roots_asked (pattern_before p behind) ≡ root_of p ∷ roots_asked behind
    first (Node' h shape ks) behind = refl
    first (Tree v) behind = refl
    first (Forest v) behind = refl

pub length-roots : (side : Patterns) → length (roots_asked side) ≡ count side
length-roots no_pattern = refl
length-roots (node_first h kids behind) = let e = length-roots behind in omega arith
length-roots (tree_var_first v behind) = let e = length-roots behind in omega arith
length-roots (forest_var_first v behind) = let e = length-roots behind in omega arith

pub same_root : (r : Option Label) → is_same_root r r ≡ true
same_root None = refl
same_root (Some l) = eq-eqb l.0 l.0 refl

-- ---- one place more

abbrev pub if_same : {X : Type 0} → Bool → X → List X
if_same b x = if b then x ∷ [] else []

module _ (r : Option Label) where
  places_from-more : (i : ℕ) (ss : List (Option Label)) (s : Option Label) → places_from r i (ss ++ s ∷ []) ≡ places_from r i ss ++ if_same (is_same_root r s) (i + length ss)
  places_from-more i [] s = by (is_same_root r s)
    where
      zero_more : i ≡ i + 0
      zero_more = omega arith

      by : (b : Bool) → cond b (i ∷ []) [] ≡ if_same b (i + 0)
      by true = ap (λ k. k ∷ []) zero_more
      by false = refl
  places_from-more i (a ∷ ss) s = by (is_same_root r a) (places_from-more (i + 1) ss s ∙ ap (λ k. places_from r (i + 1) ss ++ if_same (is_same_root r s) k) further)
    where
      further : i + 1 + length ss ≡ i + suc (length ss)
      further = omega arith

      by : (b : Bool) → places_from r (i + 1) (ss ++ s ∷ []) ≡ places_from r (i + 1) ss ++ if_same (is_same_root r s) (i + suc (length ss))
          → cond b (i ∷ places_from r (i + 1) (ss ++ s ∷ [])) (places_from r (i + 1) (ss ++ s ∷ []))
          ≡ cond b (i ∷ places_from r (i + 1) ss) (places_from r (i + 1) ss) ++ if_same (is_same_root r s) (i + suc (length ss))
      by true e = ap (λ ks. i ∷ ks) e
      by false e = e

  mapped_if : {X Y : Type 0} (f : X → Y) (b : Bool) (x : X) → map f (if_same b x) ≡ if_same b (f x)
  mapped_if f true x = refl
  mapped_if f false x = refl

  pub one_place : (old now new : List (ℕ × ℕ)) (number place : ℕ) (side : List Pattern) (p : Pattern) (root : Option Label) → place < length side → p ≡ get_or side place p → root ≡ root_of p
      → now ≡ old ++ map (λ p. (number, p)) (places_from r 0 (roots_asked (patterns (take place side)))) → new ≡ now ++ (if is_same_root r root then (number, place) ∷ [] else [])
      → new ≡ old ++ map (λ p. (number, p)) (places_from r 0 (roots_asked (patterns (take (place + 1) side))))
  one_place old now new number place side p root h is e x y =
      let pair : ℕ → ℕ × ℕ = λ k. (number, k) in
      let front = take place side in
      let long : length (map root_of front) ≡ place = length-map front root_of ∙ length-take-le place side (omega arith) in
      let roots : roots_asked (patterns (take (place + 1) side)) ≡ map root_of front ++ root_of p ∷ [] =
      ap (λ ps. roots_asked (patterns ps)) (take_more side place p h ∙ ap (λ q. front ++ q ∷ []) (sym is)) ∙ roots-patterns (front ++ p ∷ []) ∙ map-append root_of front (p ∷ []) in
      let places : places_from r 0 (roots_asked (patterns (take (place + 1) side))) ≡ places_from r 0 (map root_of front) ++ if_same (is_same_root r root) place =
      ap (places_from r 0) roots ∙ places_from-more 0 (map root_of front) (root_of p) ∙ ap (λ k. places_from r 0 (map root_of front) ++ if_same (is_same_root r (root_of p)) k) (let z : 0 + length (map root_of front) ≡ place = omega (arith, long) in z)
      ∙ ap (λ q. places_from r 0 (map root_of front) ++ if_same (is_same_root r q) place) (sym e) in
      let pairs : map pair (places_from r 0 (roots_asked (patterns (take (place + 1) side)))) ≡ map pair (places_from r 0 (roots_asked (patterns front))) ++ if_same (is_same_root r root) (number, place) =
      ap (map pair) places ∙ map-append pair (places_from r 0 (map root_of front)) (if_same (is_same_root r root) place)
      ∙ ap (λ ks. map pair (places_from r 0 (map root_of front)) ++ ks) (mapped_if pair (is_same_root r root) place)
      ∙ ap (λ rs. map pair (places_from r 0 rs) ++ if_same (is_same_root r root) (number, place)) (sym (roots-patterns front)) in
      y ∙ ap (λ ks. ks ++ if_same (is_same_root r root) (number, place)) x
      ∙ append_assoc old (map pair (places_from r 0 (roots_asked (patterns front)))) (if_same (is_same_root r root) (number, place))
      ∙ ap (λ ks. old ++ ks) (sym pairs)

  -- ---- one rule more

  asking_from-more : (n : ℕ) (R : List Rule) (rule : Rule) → asking_from r n (R ++ rule ∷ []) ≡ asking_from r n R ++ map (λ p. (n + length R, p)) (places_from r 0 (roots_asked rule.left))
  asking_from-more n [] rule =
      let e : n ≡ n + 0 = omega arith in
      append-nil (map (λ p. (n, p)) (places_from r 0 (roots_asked rule.left))) ∙ ap (λ k. map (λ p. (k, p)) (places_from r 0 (roots_asked rule.left))) e
  asking_from-more n (a ∷ R) rule =
      let e : n + 1 + length R ≡ n + suc (length R) = omega arith in
      let first = map (λ p. (n, p)) (places_from r 0 (roots_asked a.left)) in
      ap (λ ks. first ++ ks) (asking_from-more (n + 1) R rule ∙ ap (λ k. asking_from r (n + 1) R ++ map (λ p. (k, p)) (places_from r 0 (roots_asked rule.left))) e)
      ∙ sym (append_assoc first (asking_from r (n + 1) R) (map (λ p. (n + suc (length R), p)) (places_from r 0 (roots_asked rule.left))))

  pub one_rule : (now new : List (ℕ × ℕ)) (n : ℕ) (R : List Rule) (rule : Rule) → n < length R → rule ≡ get_or R n rule → now ≡ asking_from r 0 (take n R)
      → new ≡ now ++ map (λ p. (n, p)) (places_from r 0 (roots_asked rule.left)) → new ≡ asking_from r 0 (take (n + 1) R)
  one_rule now new n R rule h e x y =
      let long : 0 + length (take n R) ≡ n = omega (arith, length-take-le n R (omega arith)) in
      y ∙ ap (λ ks. ks ++ map (λ p. (n, p)) (places_from r 0 (roots_asked rule.left))) x
      ∙ ap (λ k. asking_from r 0 (take n R) ++ map (λ p. (k, p)) (places_from r 0 (roots_asked rule.left))) (sym long)
      ∙ sym (asking_from-more 0 (take n R) rule)
      ∙ ap (λ a. asking_from r 0 (take n R ++ a ∷ [])) e
      ∙ ap (asking_from r 0) (sym (take_more R n rule h))

  -- ---- which pairs are listed

  in_places : (i : ℕ) (ss : List (Option Label)) (p : ℕ) → p ∈ places_from r i ss → p < i + length ss
  in_places i [] p m = absurd m
  in_places i (s ∷ ss) p m = by (is_same_root r s) m (in_places (i + 1) ss p)
    where
      by : (b : Bool) → p ∈ cond b (i ∷ places_from r (i + 1) ss) (places_from r (i + 1) ss) → (p ∈ places_from r (i + 1) ss → p < i + 1 + length ss) → p < i + suc (length ss)
      by true (inl e) behind = omega arith
      by true (inr j) behind = let l = behind j in omega arith
      by false j behind = let l = behind j in omega arith

  to_places : (i : ℕ) (ss : List (Option Label)) (p : ℕ) → slice_get ss p ≡ Some r → (i + p) ∈ places_from r i ss
  to_places i [] p at = absurd cc
  to_places i (s ∷ ss) zero at =
      let same : s ≡ r = cc in
      let t : is_same_root r s ≡ true = ap (is_same_root r) same ∙ same_root r in
      subst (λ b. (i + 0) ∈ cond b (i ∷ places_from r (i + 1) ss) (places_from r (i + 1) ss)) (sym t) (inl (omega arith))
  to_places i (s ∷ ss) (suc p) at =
      let e : i + 1 + p ≡ i + suc p = omega arith in
      either (is_same_root r s) (subst (λ k. k ∈ places_from r (i + 1) ss) e (to_places (i + 1) ss p at))
    where
      either : (b : Bool) → (i + suc p) ∈ places_from r (i + 1) ss → (i + suc p) ∈ cond b (i ∷ places_from r (i + 1) ss) (places_from r (i + 1) ss)
      either true m = inr m
      either false m = m

  in_asking : (n : ℕ) (R : List Rule) (pair : ℕ × ℕ) → pair ∈ asking_from r n R → (j : ℕ) × (pair.0 ≡ n + j) × (rule : Rule) × (slice_get R j ≡ Some rule) × (pair.1 < count rule.left)
  in_asking n [] pair m = absurd m
  in_asking n (a ∷ R) pair m = ⊎_elim
      (λ i. let (p, j, e) = mapped (λ k. (n, k)) (places_from r 0 (roots_asked a.left)) pair i in
      let low = in_places 0 (roots_asked a.left) p j in
      let one = ap (λ (q : ℕ × ℕ). q.0) e in
      let two = ap (λ (q : ℕ × ℕ). q.1) e in
      (0, omega arith, a, refl, omega (arith, length-roots a.left)))
      (λ i. let (j, e, rule, at, l) = in_asking (n + 1) R pair i in (suc j, omega arith, rule, at, l))
      (from_append (map (λ k. (n, k)) (places_from r 0 (roots_asked a.left))) (asking_from r (n + 1) R) pair m)

  pub are_places : (R : List Rule) (pair : ℕ × ℕ) → pair ∈ asking_from r 0 R → (rule : Rule) × (slice_get R pair.0 ≡ Some rule) × (pair.1 < count rule.left)
  are_places R pair m =
      let (j, e, rule, at, l) = in_asking 0 R pair m in
      let same : j ≡ pair.0 = omega arith in
      (rule, subst (λ k. slice_get R k ≡ Some rule) same at, l)

  to_asking : (n : ℕ) (R : List Rule) (j p : ℕ) (rule : Rule) → slice_get R j ≡ Some rule → slice_get (roots_asked rule.left) p ≡ Some r → (n + j, p) ∈ asking_from r n R
  to_asking n [] j p rule at asked = absurd cc
  to_asking n (a ∷ R) zero p rule at asked =
      let same : a ≡ rule = cc in
      let z : 0 + p ≡ p = omega arith in
      let here : p ∈ places_from r 0 (roots_asked a.left) =
      subst (λ k. k ∈ places_from r 0 (roots_asked a.left)) z (to_places 0 (roots_asked a.left) p (ap (λ (x : Rule). slice_get (roots_asked x.left) p) same ∙ asked)) in
      let e : n ≡ n + 0 = omega arith in
      in_append_left (map (λ k. (n, k)) (places_from r 0 (roots_asked a.left))) (asking_from r (n + 1) R) (n + 0, p)
      (subst (λ k. ◌∈◌ {X = ℕ × ℕ} (k, p) (map (λ q. (n, q)) (places_from r 0 (roots_asked a.left)))) e (in_map (λ k. (n, k)) (places_from r 0 (roots_asked a.left)) p here))
  to_asking n (a ∷ R) (suc j) p rule at asked =
      let e : n + 1 + j ≡ n + suc j = omega arith in
      in_append_right (map (λ k. (n, k)) (places_from r 0 (roots_asked a.left))) (asking_from r (n + 1) R) (n + suc j, p)
      (subst (λ k. ◌∈◌ {X = ℕ × ℕ} (k, p) (asking_from r (n + 1) R)) e (to_asking (n + 1) R j p rule at asked))

  pub is_listed : (R : List Rule) (n p : ℕ) (rule : Rule) → slice_get R n ≡ Some rule → slice_get (roots_asked rule.left) p ≡ Some r → (n, p) ∈ asking_from r 0 R
  is_listed R n p rule at asked = let e : 0 + n ≡ n = omega arith in subst (λ k. ◌∈◌ {X = ℕ × ℕ} (k, p) (asking_from r 0 R)) e (to_asking 0 R n p rule at asked)

-- ---- rules that were seen are accepted

more_accepted : (R : List Rule) (n : ℕ) (rule : Rule) → n < length R → rule ≡ get_or R n rule → ((x : Rule) → x ∈ take n R → IsAccepted x) → IsAccepted rule → (x : Rule) → x ∈ (take n R ++ rule ∷ []) → IsAccepted x
more_accepted R n rule h e all ok x i = ⊎_elim (λ j. all x j) (λ j. ⊎_elim (λ d. subst IsAccepted (sym d) ok) (λ z. absurd z) j) (from_append (take n R) (rule ∷ []) x i)

pub one_accepted : (R : List Rule) (n : ℕ) (rule : Rule) → n < length R → rule ≡ get_or R n rule → ((x : Rule) → x ∈ take n R → IsAccepted x) → IsAccepted rule → (x : Rule) → x ∈ take (n + 1) R → IsAccepted x
one_accepted R n rule h e all ok x i =
    more_accepted R n rule h e all ok x (subst (λ xs. x ∈ xs) (take_more R n rule h ∙ ap (λ a. take n R ++ a ∷ []) (sym e)) i)

-- all places of the side were listed
pub all_places : (r : Option Label) (old now : List (ℕ × ℕ)) (number place : ℕ) (side : List Pattern) (rule : Rule) → patterns side ≡ rule.left → length side ≤ place
    → now ≡ old ++ map (λ p. (number, p)) (places_from r 0 (roots_asked (patterns (take place side)))) → now ≡ old ++ map (λ p. (number, p)) (places_from r 0 (roots_asked rule.left))
all_places r old now number place side rule e h x = x ∙ ap (λ ps. old ++ map (λ p. (number, p)) (places_from r 0 (roots_asked ps))) (ap patterns (take_all place side h) ∙ e)
