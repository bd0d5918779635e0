-- The certificate of the lengths of the longest chains, and that it is the least.
use Rattle.std.proofs.Common.{◌≡◌, ◌⊎◌, ℕ, zero, suc, ◌+◌, ◌-◌, ◌<◌, ◌≤◌, ◌/◌, inl, inr, ⊎_elim, max, true, false, List, [], ◌∷◌, ◌++◌, length, map, take, get_or, Some, None, slice_get, refl, sym, ap, ◌∙◌, subst, arith}
use Rattle.std.proofs.lemmas.List.{length-map, length-take}
use Rattle.std.proofs.lemmas.Bool.{cases_lt}
use Rattle.std.proofs.lemmas.Option.{slice_get_within, slice_get-get_or, get_or_from_slice_get}
use Rattle.qs_tree.proofs.Elements.{slice_get-take}
use Rattle.qs_tree.specs.Lists.{◌∈◌}
use Rattle.qs_tree.specs.declared.cell.Label.{Label}
use Rattle.qs_tree.proofs.Members.{in_at, from_append, in_append_left, in_map}
use Rattle.qs_graph.proofs.Paths.{place_of}
use Rattle.qs_pattern.specs.Rules.{Rule}
use Rattle.qs_levels.specs.declared.ordering.Node.{Node}
use Rattle.qs_levels.specs.Tops.{top_labels, rule_labels}
use Rattle.qs_levels.specs.Certificates.{LevelCertificate, HasLevel, Fits, greatest_level, IsLeast}
use Rattle.qs_levels.specs.working.Tops.{tops_from, HaveLabelsAtTops}
use Rattle.qs_levels.specs.working.Steps.{AreStepsOf}
use Rattle.qs_levels.specs.working.Ordering.{AreDepths}
use Rattle.qs_levels.proofs.Least.{step_cases, has_step, labels_once, one_place, few_numbers}

abbrev pub no_node : Node
no_node = record { depth = 0; unpassed = None; done = false }

-- half the depth of a node
abbrev pub half : List Node → ℕ → ℕ
half nodes n = (get_or nodes n no_node).depth / 2

-- the labels from the node n on, with their levels
abbrev pub levelled : List Node → ℕ → List Label → List (Label × ℕ)
levelled nodes n [] = []
levelled nodes n (l ∷ ls) = (l, half nodes n) ∷ levelled nodes (n + 1) ls

pub levelled-more : (nodes : List Node) (n : ℕ) (ls : List Label) (l : Label) → levelled nodes n (ls ++ l ∷ []) ≡ levelled nodes n ls ++ (l, half nodes (n + length ls)) ∷ []
levelled-more nodes n [] l = let e : n ≡ n + 0 = omega arith in ap (λ k. (l, half nodes k) ∷ []) e
levelled-more nodes n (k ∷ ls) l =
    let e : n + 1 + length ls ≡ n + length (k ∷ ls) = omega arith in
    ap (λ ps. (k, half nodes n) ∷ ps) (levelled-more nodes (n + 1) ls l ∙ ap (λ j. levelled nodes (n + 1) ls ++ (l, half nodes j) ∷ []) e)

pub greatest-more : (ps : List (Label × ℕ)) (p : Label × ℕ) → greatest_level (ps ++ p ∷ []) ≡ max (greatest_level ps) p.1
greatest-more [] p = omega arith
greatest-more (q ∷ ps) p = omega (arith, greatest-more ps p)

in_greatest : (ps : List (Label × ℕ)) (l : Label) (n : ℕ) → (l, n) ∈ ps → n ≤ greatest_level ps
in_greatest [] l n i = absurd i
in_greatest (q ∷ ps) l n (inl e) = omega (arith, ap (λ (p : Label × ℕ). p.1) e)
in_greatest (q ∷ ps) l n (inr i) = omega (arith, in_greatest ps l n i)

levelled-labels : (nodes : List Node) (n : ℕ) (ls : List Label) → map (λ (p : Label × ℕ). p.0) (levelled nodes n ls) ≡ ls
levelled-labels nodes n [] = refl
levelled-labels nodes n (l ∷ ls) = ap (λ ks. l ∷ ks) (levelled-labels nodes (n + 1) ls)

at_levelled : (nodes : List Node) (n : ℕ) (ls : List Label) (k : ℕ) (l : Label) (m : ℕ) → slice_get (levelled nodes n ls) k ≡ Some (l, m) → (slice_get ls k ≡ Some l) × (m ≡ half nodes (n + k))
at_levelled nodes n [] k l m e = absurd cc
at_levelled nodes n (x ∷ ls) zero l m e =
    let same : ◌≡◌ {A = Label × ℕ} (x, half nodes n) (l, m) = some_inj e in
    let at : n ≡ n + 0 = omega arith in
    (ap (λ (p : Label × ℕ). Some p.0) same, sym (ap (λ (p : Label × ℕ). p.1) same) ∙ ap (half nodes) at)
  where
    some_inj : {p q : Label × ℕ} → Some p ≡ Some q → p ≡ q
    some_inj e = cc
at_levelled nodes n (x ∷ ls) (suc k) l m e =
    let (p, q) = at_levelled nodes (n + 1) ls k l m e in
    let at : n + 1 + k ≡ n + suc k = omega arith in
    (p, q ∙ ap (half nodes) at)

in_levelled : (nodes : List Node) (n : ℕ) (ls : List Label) (k : ℕ) (l : Label) → slice_get ls k ≡ Some l → (l, half nodes (n + k)) ∈ levelled nodes n ls
in_levelled nodes n [] k l e = absurd cc
in_levelled nodes n (x ∷ ls) zero l e =
    let same : x ≡ l = cc in
    let at : n ≡ n + 0 = omega arith in
    inl (λ i. (sym same i, ap (half nodes) (sym at) i))
in_levelled nodes n (x ∷ ls) (suc k) l e =
    let at : n + 1 + k ≡ n + suc k = omega arith in
    inr (subst (λ j. (l, half nodes j) ∈ levelled nodes (n + 1) ls) at (in_levelled nodes (n + 1) ls k l e))

left_in : (rule : Rule) (l : Label) → l ∈ top_labels rule.left → l ∈ rule_labels rule
left_in rule l i = in_append_left (top_labels rule.left) (top_labels rule.right) l i

module _ (rules : List Rule) (labels : List Label) (sources targets : List ℕ) (s : AreStepsOf (length rules) (tops_from 0 rules) labels sources targets) (nodes : List Node) (d : AreDepths (length rules + length labels) sources targets nodes) where
  abbrev depth : ℕ → ℕ
  depth n = (get_or nodes n no_node).depth

  depth_is : (n : ℕ) (x : Node) → slice_get nodes n ≡ Some x → depth n ≡ x.depth
  depth_is n x e = ap (λ (y : Node). y.depth) (get_or_from_slice_get nodes n x no_node e)

  -- a label whose depth isn't 0 or 1 has a rule before it, and this a label
  pub record HasBefore (place : ℕ) (l : Label) : Type 0 where
    pub rule : Rule
    pub number : ℕ
    pub is_rule : slice_get rules number ≡ Some rule
    pub right : l ∈ top_labels rule.right
    pub label : Label
    pub left : label ∈ top_labels rule.left
    pub before : ℕ
    pub at : slice_get labels before ≡ Some label
    pub rule_depth : depth (length rules + place) ≡ depth number + 1
    pub label_depth : depth number ≡ depth (length rules + before) + 1

  before : (place : ℕ) (l : Label) → slice_get labels place ≡ Some l → 2 ≤ depth (length rules + place) → HasBefore place l
  before place l at deep =
      let within = slice_get_within labels place l at in
      let n = length rules + place in
      let is = slice_get-get_or nodes (length rules + place) no_node (omega (arith, d.long)) in
      let r = d.reached (length rules + place) (get_or nodes (length rules + place) no_node) is (omega arith) in
      let up = depth_is r.source r.node r.done.is in
      let is2 = slice_get-get_or nodes r.source no_node (slice_get_within nodes r.source r.node r.done.is) in
      let r2 = d.reached r.source (get_or nodes r.source no_node) is2 (omega (arith, r.just_below)) in
      let up2 = depth_is r2.source r2.node r2.done.is in
      ⊎_elim
      (λ x. absurd (omega (arith, slice_get_within rules (length rules + place) x.rule x.is_rule)))
      (λ x.
      let same : x.place ≡ place = (let e = x.node in omega arith) in
      let label : x.label ≡ l = (let e = sym (subst (λ j. slice_get labels j ≡ Some x.label) same x.at) ∙ at in cc) in
      ⊎_elim
      (λ y.
      let rule : y.rule ≡ x.rule = (let e = sym y.is_rule ∙ x.is_rule in cc) in
      record {
        rule = x.rule;
        number = r.source;
        is_rule = x.is_rule;
        right = subst (λ k. k ∈ top_labels x.rule.right) label x.stands;
        label = y.label;
        left = subst (λ (z : Rule). y.label ∈ top_labels z.left) rule y.stands;
        before = y.place;
        at = y.at;
        rule_depth = omega (arith, r.just_below);
        label_depth = (let e = ap depth y.node in omega (arith, r2.just_below, up2));
      })
      (λ y. absurd (omega (arith, y.node, slice_get_within rules r.source x.rule x.is_rule)))
      (step_cases rules labels sources targets s r2.step r2.source r.source r2.from r2.to))
      (step_cases rules labels sources targets s r.step r.source (length rules + place) r.from r.to)

  -- each level below that of a label is that of a rule
  abbrev rule_levels : List ℕ
  rule_levels = map (λ (x : Node). (x.depth - 1) / 2) (take (length rules) nodes)

  all_below : (bound place : ℕ) (l : Label) → slice_get labels place ≡ Some l → depth (length rules + place) < bound → (j : ℕ) → j < half nodes (length rules + place) → j ∈ rule_levels
  all_below zero place l at low j h = absurd (omega arith)
  all_below (suc bound) place l at low j h =
      let b = before place l at (omega arith) in
      let low_rule = slice_get_within rules b.number b.rule b.is_rule in
      let read = slice_get-get_or nodes b.number no_node (omega (arith, d.long)) in
      let front = slice_get-take (length rules) nodes b.number low_rule ∙ read in
      let one = in_map (λ (x : Node). (x.depth - 1) / 2) (take (length rules) nodes) (get_or nodes b.number no_node) (in_at (take (length rules) nodes) b.number (get_or nodes b.number no_node) front) in
      ⊎_elim
      (λ lt. all_below bound b.before b.label b.at (omega (arith, b.rule_depth, b.label_depth)) j (omega (arith, b.rule_depth, b.label_depth, lt)))
      (λ le. let same : (depth b.number - 1) / 2 ≡ j = omega (arith, b.rule_depth, le) in subst (λ k. k ∈ rule_levels) same one)
      (cases_lt j ((depth b.number - 1) / 2))

  pub few_levels : (place : ℕ) (l : Label) → slice_get labels place ≡ Some l → half nodes (length rules + place) ≤ length rules
  few_levels place l at =
      let few = few_numbers (half nodes (length rules + place)) rule_levels (all_below (depth (length rules + place) + 1) place l at (omega arith)) in
      omega (arith, few, length-map (take (length rules) nodes) (λ (x : Node). (x.depth - 1) / 2), length-take (length rules) nodes)

  -- no certificate has a lower level
  lower : (bound : ℕ) (c : LevelCertificate) → Fits rules c → (place : ℕ) (l : Label) (m : ℕ) → slice_get labels place ≡ Some l → HasLevel c l m → depth (length rules + place) < bound → half nodes (length rules + place) ≤ m
  lower zero c f place l m at has low = absurd (omega arith)
  lower (suc bound) c f place l m at has low = by (before place l at) (λ k x n e h g. lower bound c f k x n e h g) (cases_lt (depth (length rules + place)) 2)
    where
      by : (2 ≤ depth (length rules + place) → HasBefore place l)
          → ((k : ℕ) (x : Label) (n : ℕ) → slice_get labels k ≡ Some x → HasLevel c x n → depth (length rules + k) < bound → half nodes (length rules + k) ≤ n)
          → (depth (length rules + place) < 2) ⊎ (2 ≤ depth (length rules + place)) → half nodes (length rules + place) ≤ m
      by back rest (inl lt) = omega arith
      by back rest (inr deep) =
          let b = back deep in
          let one = in_at rules b.number b.rule b.is_rule in
          let (n, h) = f.levels b.rule one b.label (left_in b.rule b.label b.left) in
          let rises : n < m = f.rises b.rule one b.label l b.left b.right n m h has in
          let rest_low = rest b.before b.label n b.at h (omega (arith, b.rule_depth, b.label_depth)) in
          omega (arith, b.rule_depth, b.label_depth, rest_low)

  -- the certificate
  module _ (tops : HaveLabelsAtTops rules) (count : ℕ) (counted : count ≡ greatest_level (levelled nodes (length rules) labels) + 1) where
    abbrev c : LevelCertificate
    c = record { count = count; of = levelled nodes (length rules) labels }

    level_is : (l : Label) (m place : ℕ) → HasLevel c l m → slice_get labels place ≡ Some l → m ≡ half nodes (length rules + place)
    level_is l m place i at =
        let (k, e) = place_of (levelled nodes (length rules) labels) (l, m) i in
        let (p, q) = at_levelled nodes (length rules) labels k l m e in
        let same : k ≡ place = one_place rules labels sources targets s k place l p at in
        q ∙ ap (λ j. half nodes (length rules + j)) same

    fits : Fits rules c
    fits = record {
      some = omega arith;
      below = λ l n i. omega (arith, in_greatest (levelled nodes (length rules) labels) l n i);
      once = λ i j l m n e f. one_place rules labels sources targets s i j l (at_levelled nodes (length rules) labels i l m e).0 (at_levelled nodes (length rules) labels j l n f).0;
      left_tops = tops.left;
      right_tops = tops.right;
      levels = λ rule i l j. levels rule i l (from_append (top_labels rule.left) (top_labels rule.right) l j);
      rises = rises;
    }
      where
        levels : (rule : Rule) → rule ∈ rules → (l : Label) → (l ∈ top_labels rule.left) ⊎ (l ∈ top_labels rule.right) → (n : ℕ) × HasLevel c l n
        levels rule i l (inl j) =
            let (number, is) = place_of rules rule i in
            let (k, a, b, p, q, h) = has_step rules labels sources targets s number rule is false l j in
            (half nodes (length rules + h.0.place), in_levelled nodes (length rules) labels h.0.place l h.0.stands)
        levels rule i l (inr j) =
            let (number, is) = place_of rules rule i in
            let (k, a, b, p, q, h) = has_step rules labels sources targets s number rule is true l j in
            (half nodes (length rules + h.1.place), in_levelled nodes (length rules) labels h.1.place l h.1.stands)

        rise : (k a b : ℕ) → slice_get sources k ≡ Some a → slice_get targets k ≡ Some b → a < length nodes → b < length nodes → depth a < depth b
        rise k a b p q x y = d.rises k a b (get_or nodes a no_node) (get_or nodes b no_node) p q (slice_get-get_or nodes a no_node x) (slice_get-get_or nodes b no_node y)

        rises : (rule : Rule) → rule ∈ rules → (l r : Label) → l ∈ top_labels rule.left → r ∈ top_labels rule.right → (m n : ℕ) → HasLevel c l m → HasLevel c r n → m < n
        rises rule i l r j k m n x y =
            let (number, is) = place_of rules rule i in
            let (k1, a1, b1, p1, q1, h1) = has_step rules labels sources targets s number rule is false l j in
            let (k2, a2, b2, p2, q2, h2) = has_step rules labels sources targets s number rule is true r k in
            let low = slice_get_within rules number rule is in
            let low1 = slice_get_within labels h1.0.place l h1.0.stands in
            let low2 = slice_get_within labels h2.1.place r h2.1.stands in
            let is1 = h1.0.node in
            let is2 = h2.1.node in
            let up1 = rise k1 a1 b1 p1 q1 (omega (arith, d.long)) (omega (arith, d.long, h1.1)) in
            let up2 = rise k2 a2 b2 p2 q2 (omega (arith, d.long, h2.0)) (omega (arith, d.long)) in
            let e1 = ap depth h1.0.node in
            let e2 = ap depth h2.1.node in
            let f1 : depth b1 ≡ depth a2 = ap depth (let z : b1 ≡ a2 = omega (arith, h1.1, h2.0) in z) in
            omega (arith, level_is l m h1.0.place x h1.0.stands, level_is r n h2.1.place y h2.1.stands, up1, up2, e1, e2, f1)

    pub is_least : IsLeast rules c
    is_least = record {
      fits = fits;
      labels = levelled-labels nodes (length rules) labels ∙ labels_once rules labels sources targets s;
      least = λ e f l m n i j.
          let (k, at) = place_of (levelled nodes (length rules) labels) (l, m) i in
          let (p, q) = at_levelled nodes (length rules) labels k l m at in
          let low = lower (depth (length rules + k) + 1) e f k l n p j (omega arith) in
          omega (arith, q, low);
      count = counted;
    }
