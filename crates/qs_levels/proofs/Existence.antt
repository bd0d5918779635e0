-- Rules have one least certificate, or none fits them. A label's height in so many steps is the length of the longest
-- chain of at most so many steps to it, each of which a rule makes from a left label of it to a right label of it. A
-- height below the number of steps stays as it is with more of them; and in as many steps as there are labels, each
-- height is below, or else labels stand in a circle.
use Rattle.std.proofs.Common.{◌≡◌, ◌⊎◌, ◌<◌, ◌≤◌, ℕ, zero, suc, ◌+◌, Bool, true, false, List, [], ◌∷◌, length, map, eqb, Option, Some, None, slice_get, inl, inr, ⊎_elim, refl, sym, ◌∙◌, ap, subst, arith}
use Rattle.std.specs.Prelude.{if◌then◌else◌, max, ◌==◌, flat_map}
use Rattle.std.specs.Option.{option_map}
use Rattle.std.proofs.lemmas.Bool.{eqb-true, eq-eqb, cases_lt}
use Rattle.qs_tree.specs.Lists.{◌∈◌, Ascends}
use Rattle.qs_tree.proofs.Members.{in_append_left, in_append_right, in_map, mapped, in_flat_map}
use Rattle.qs_tree.proofs.Decisions.{nil_cons, cons_parts, decide_at_most, decide_both, decide_each}
use Rattle.qs_tree.specs.declared.cell.Label.{Label}
use Rattle.qs_pattern.specs.Rules.{Rule}
use Rattle.qs_levels.specs.Tops.{HasLabelsAtTop, top_labels, labels_at_tops, each_once}
use Rattle.qs_levels.specs.Certificates.{LevelCertificate, HasLevel, Fits, greatest_level, IsLeast, IsFound}
use Rattle.qs_levels.proofs.ExistenceLists.{from_flat_map, no_longer, in_tops_of, from_tops_of, decide_tops}
use Rattle.qs_levels.proofs.Numbering.{once_apart, in_once, from_once}

-- ---- there is one answer

same_pairs : (ps qs : List (Label × ℕ)) → map (λ p. p.0) ps ≡ map (λ p. p.0) qs → ((l : Label) (m n : ℕ) → (l, m) ∈ ps → (l, n) ∈ qs → m ≡ n) → ps ≡ qs
same_pairs [] [] e h = refl
same_pairs [] (q ∷ qs) e h = absurd (nil_cons e)
same_pairs (p ∷ ps) [] e h = absurd (nil_cons (sym e))
same_pairs (p ∷ ps) (q ∷ qs) e h =
    let parts = cons_parts e in
    let first : p.0 ≡ q.0 = parts.0 in
    let second : p.1 ≡ q.1 = h p.0 p.1 q.1 (inl refl) (inl (ap (λ x. (x, q.1)) first)) in
    let rest : ps ≡ qs = same_pairs ps qs parts.1 (λ l m n i j. h l m n (inr i) (inr j)) in
    λ i. (first i, second i) ∷ rest i

one_least : (rules : List Rule) (c d : LevelCertificate) → IsLeast rules c → IsLeast rules d → c ≡ d
one_least rules c d a b =
    let same : c.of ≡ d.of = same_pairs c.of d.of (a.labels ∙ sym b.labels) (λ l m n i j. omega (arith, a.least d b.fits l m n i j, b.least c a.fits l n m j i)) in
    let many : c.count ≡ d.count = a.count ∙ ap (λ ps. greatest_level ps + 1) same ∙ sym b.count in
    λ i. record { count = many i; of = same i }

pub one_found : (rules : List Rule) (r t : Option LevelCertificate) → IsFound rules r → IsFound rules t → r ≡ t
one_found rules None None a b = refl
one_found rules None (Some d) a b = absurd (a d b.fits)
one_found rules (Some c) None a b = absurd (b c a.fits)
one_found rules (Some c) (Some d) a b = ap Some (one_least rules c d a b)

-- ---- the greatest number from which a step leads to a label, and one more

abbrev above : List (Label × Label) → (Label → ℕ) → Label → ℕ
above [] f r = 0
above (s ∷ ss) f r = max (if s.1.0 == r.0 then f s.0 + 1 else 0) (above ss f r)

above_low : (ss : List (Label × Label)) (f : Label → ℕ) (r l : Label) → (l, r) ∈ ss → f l + 1 ≤ above ss f r
above_low [] f r l i = absurd i
above_low (s ∷ ss) f r l (inl e) =
    let is : s.1.0 ≡ r.0 = ap (λ (p : Label × Label). p.1.0) (sym e) in
    let t : (if s.1.0 == r.0 then f s.0 + 1 else 0) ≡ f s.0 + 1 = ap (λ b. if b then f s.0 + 1 else 0) (eq-eqb s.1.0 r.0 is) in
    let same : f l ≡ f s.0 = ap (λ (p : Label × Label). f p.0) e in
    omega arith
above_low (s ∷ ss) f r l (inr i) = omega (arith, above_low ss f r l i)

abbrev IsAbove : List (Label × Label) → (Label → ℕ) → Label → ℕ → Type 0
IsAbove ss f r n = (n ≡ 0) ⊎ ((l : Label) × ((l, r) ∈ ss) × (n ≡ f l + 1))

above_from : (ss : List (Label × Label)) (f : Label → ℕ) (r : Label) → IsAbove ss f r (above ss f r)
above_from [] f r = inl refl
above_from (s ∷ ss) f r = by (eqb s.1.0 r.0) refl (above_from ss f r)
  where
    behind : IsAbove ss f r (above ss f r) → (n : ℕ) → n ≡ above ss f r → IsAbove (s ∷ ss) f r n
    behind h n e = ⊎_elim (λ z. inl (e ∙ z)) (λ x. inr (x.0, inr x.1, e ∙ x.2)) h

    by : (b : Bool) → eqb s.1.0 r.0 ≡ b → IsAbove ss f r (above ss f r) → IsAbove (s ∷ ss) f r (max (if b then f s.0 + 1 else 0) (above ss f r))
    by true t h = ⊎_elim
        (λ l. behind h (max (f s.0 + 1) (above ss f r)) (omega arith))
        (λ l.
        let e : r.0 ≡ s.1.0 = sym (eqb-true s.1.0 r.0 t) in
        let same : r ≡ s.1 = λ i. record { 0 = e i } in
        inr (s.0, inl (ap (λ x. (s.0, x)) same), omega arith))
        (cases_lt (f s.0 + 1) (above ss f r))
    by false t h = behind h (max 0 (above ss f r)) (omega arith)

above_most : (ss : List (Label × Label)) (f g : Label → ℕ) (r : Label) → ((l : Label) → (l, r) ∈ ss → f l ≤ g l) → above ss f r ≤ above ss g r
above_most ss f g r h = ⊎_elim
    (λ z. omega arith)
    (λ x. let e = x.2 in omega (arith, above_low ss g r x.0 x.1, h x.0 x.1))
    (above_from ss f r)

greatest_low : (ps : List (Label × ℕ)) (p : Label × ℕ) → p ∈ ps → p.1 ≤ greatest_level ps
greatest_low [] p i = absurd i
greatest_low (q ∷ ps) p (inl e) = omega (arith, ap (λ (x : Label × ℕ). x.1) e)
greatest_low (q ∷ ps) p (inr i) = omega (arith, greatest_low ps p i)

module _ (rules : List Rule) where
  -- ---- steps, and the heights of labels

  abbrev steps_of : Rule → List (Label × Label)
  steps_of rule = flat_map (λ l. map (λ r. (l, r)) (top_labels rule.right)) (top_labels rule.left)

  abbrev steps : List (Label × Label)
  steps = flat_map steps_of rules

  record Leads (l r : Label) : Type 0 where
    rule : Rule
    is : rule ∈ rules
    left : l ∈ top_labels rule.left
    right : r ∈ top_labels rule.right

  to_step : (l r : Label) → Leads l r → (l, r) ∈ steps
  to_step l r x =
      in_flat_map steps_of rules x.rule (l, r) x.is
      (in_flat_map (λ k. map (λ s. (k, s)) (top_labels x.rule.right)) (top_labels x.rule.left) l (l, r) x.left (in_map (λ s. (l, s)) (top_labels x.rule.right) r x.right))

  from_step : (l r : Label) → (l, r) ∈ steps → Leads l r
  from_step l r i =
      let a = from_flat_map steps_of rules (l, r) i in
      let b = from_flat_map (λ k. map (λ s. (k, s)) (top_labels a.0.right)) (top_labels a.0.left) (l, r) a.2 in
      let c = mapped (λ s. (b.0, s)) (top_labels a.0.right) (l, r) b.2 in
      record {
        rule = a.0;
        is = a.1;
        left = subst (λ x. x ∈ top_labels a.0.left) (ap (λ (p : Label × Label). p.0) (sym c.2)) b.1;
        right = subst (λ x. x ∈ top_labels a.0.right) (ap (λ (p : Label × Label). p.1) (sym c.2)) c.1;
      }

  abbrev height : ℕ → Label → ℕ
  height zero r = 0
  height (suc k) r = above steps (height k) r

  settled : (k : ℕ) (r : Label) → height k r < k → height (suc k) r ≡ height k r
  settled zero r h = absurd (omega arith)
  settled (suc k) r h =
      let same : (l : Label) → (l, r) ∈ steps → height (suc k) l ≡ height k l = λ l i. settled k l (omega (arith, above_low steps (height k) r l i)) in
      omega (
        arith,
        above_most steps (height (suc k)) (height k) r (λ l i. omega (arith, same l i)),
        above_most steps (height k) (height (suc k)) r (λ l i. omega (arith, same l i)),
      )

  height_most : (k : ℕ) (r : Label) → height k r ≤ k
  height_most zero r = omega arith
  height_most (suc k) r = ⊎_elim (λ z. omega arith) (λ x. let e = x.2 in omega (arith, height_most k x.0)) (above_from steps (height k) r)

  abbrev tops : List Label
  tops = each_once (labels_at_tops rules)

  top_in : (rule : Rule) → rule ∈ rules → (l : Label) → (l ∈ top_labels rule.left) ⊎ (l ∈ top_labels rule.right) → l ∈ tops
  top_in rule i l j =
      in_once (labels_at_tops rules) l
      (in_tops_of rules rule i l (⊎_elim (in_append_left (top_labels rule.left) (top_labels rule.right) l) (in_append_right (top_labels rule.left) (top_labels rule.right) l) j))

  abbrev many : ℕ
  many = length tops

  -- ---- where a certificate fits

  module _ (d : LevelCertificate) (fits : Fits rules d) where
    left_level : (l r : Label) → Leads l r → (n : ℕ) × HasLevel d l n
    left_level l r x = fits.levels x.rule x.is l (in_append_left (top_labels x.rule.left) (top_labels x.rule.right) l x.left)

    right_level : (l r : Label) → Leads l r → (n : ℕ) × HasLevel d r n
    right_level l r x = fits.levels x.rule x.is r (in_append_right (top_labels x.rule.left) (top_labels x.rule.right) r x.right)

    -- no level is less than the height
    least : (k : ℕ) (l : Label) (n : ℕ) → HasLevel d l n → height k l ≤ n
    least zero l n h = omega arith
    least (suc k) l n h = ⊎_elim
        (λ z. omega arith)
        (λ x.
        let leads = from_step x.0 l x.1 in
        let m = left_level x.0 l leads in
        let e = x.2 in
        omega (arith, least k x.0 m.0 m.1, fits.rises leads.rule leads.is x.0 l leads.left leads.right m.0 n m.1 h))
        (above_from steps (height k) l)

    -- the first label has a greater level
    abbrev IsHigher : Label → Label → Type 0
    IsHigher k l = (m n : ℕ) → HasLevel d k m → HasLevel d l n → n < m

    -- so many labels that lead to one another, and the last one to r
    record Chain (k : ℕ) (r : Label) : Type 0 where
      labels : List Label
      long : length labels ≡ suc k
      descend : Ascends IsHigher labels
      first : (l : Label) → l ∈ labels → (l ≡ r) ⊎ IsHigher r l
      known : (l : Label) → l ∈ labels → (l ∈ tops) × ((n : ℕ) × HasLevel d l n)

    chain : (k : ℕ) (r : Label) → r ∈ tops → ((n : ℕ) × HasLevel d r n) → height k r ≡ k → Chain k r
    chain zero r i h e = record {
      labels = r ∷ [];
      long = refl;
      descend = ((λ y j. absurd j), tt);
      first = λ l j. ⊎_elim inl (λ none. absurd none) j;
      known = λ l j. ⊎_elim (λ s. subst (λ x. (x ∈ tops) × ((n : ℕ) × HasLevel d x n)) (sym s) (i, h)) (λ none. absurd none) j;
    }
    chain (suc k) r i h e = ⊎_elim
        (λ z. absurd (omega arith))
        (λ x.
        let leads = from_step x.0 r x.1 in
        let step = x.2 in
        let level = left_level x.0 r leads in
        let c = chain k x.0 (top_in leads.rule leads.is x.0 (inl leads.left)) level (omega arith) in
        let higher : IsHigher r x.0 = λ m n p q. fits.rises leads.rule leads.is x.0 r leads.left leads.right n m q p in
        let all : (l : Label) → l ∈ c.labels → IsHigher r l = λ l j. ⊎_elim
        (λ s. subst (IsHigher r) (sym s) higher)
        (λ lower m n p q. omega (arith, higher m level.0 p level.1, lower level.0 n level.1 q))
        (c.first l j) in
        record {
          labels = r ∷ c.labels;
          long = ap suc c.long;
          descend = (all, c.descend);
          first = λ l j. ⊎_elim inl (λ j. inr (all l j)) j;
          known = λ l j. ⊎_elim (λ s. subst (λ x. (x ∈ tops) × ((n : ℕ) × HasLevel d x n)) (sym s) (i, h)) (λ j. c.known l j) j;
        })
        (above_from steps (height k) r)

    too_long : (r : Label) → Chain many r → ⊥
    too_long r c =
        let short = no_longer IsHigher c.labels tops c.descend (λ l i h. let n = (c.known l i).1 in omega (arith, h n.0 n.0 n.1 n.1)) (λ l i. (c.known l i).0) in
        omega (arith, c.long, short)

    top_level : (l : Label) → l ∈ tops → (n : ℕ) × HasLevel d l n
    top_level l i = let x = from_tops_of rules l (from_once (labels_at_tops rules) l i) in fits.levels x.0 x.1 l x.2

    all_settled : (r : Label) → r ∈ tops → ((n : ℕ) × HasLevel d r n) → height many r < many
    all_settled r i h = ⊎_elim
        (λ l. l)
        (λ l. absurd (too_long r (chain many r i h (omega (arith, height_most many r)))))
        (cases_lt (height many r) many)

  -- ---- the least certificate

  abbrev with_height : Label → Label × ℕ
  with_height l = (l, height many l)

  abbrev levels : List (Label × ℕ)
  levels = map with_height tops

  abbrev certificate : LevelCertificate
  certificate = record { count = greatest_level levels + 1; of = levels }

  has_level : (l : Label) (n : ℕ) → HasLevel certificate l n → n ≡ height many l
  has_level l n i =
      let x = mapped with_height tops (l, n) i in
      ap (λ (p : Label × ℕ). p.1) x.2 ∙ ap (λ (p : Label × ℕ). height many p.0) (sym x.2)

  level_of : (l : Label) → l ∈ tops → HasLevel certificate l (height many l)
  level_of l i = in_map with_height tops l i

  label_at : (ls : List Label) (i : ℕ) (l : Label) (n : ℕ) → slice_get (map with_height ls) i ≡ Some (l, n) → slice_get ls i ≡ Some l
  label_at [] i l n e = absurd cc
  label_at (k ∷ ls) zero l n e = ap (λ (o : Option (Label × ℕ)). option_map (λ (p : Label × ℕ). p.0) o) e
  label_at (k ∷ ls) (suc i) l n e = label_at ls i l n e

  labels_are : (ls : List Label) → map (λ (p : Label × ℕ). p.0) (map with_height ls) ≡ ls
  labels_are [] = refl
  labels_are (l ∷ ls) = ap (λ ks. l ∷ ks) (labels_are ls)

  module _ (at_top : (rule : Rule) → rule ∈ rules → HasLabelsAtTop rule.left × HasLabelsAtTop rule.right) (each : (l : Label) → l ∈ tops → suc (height many l) ≤ many) where
    it_fits : Fits rules certificate
    it_fits = record {
      some = omega arith;
      below = λ l n i. omega (arith, greatest_low levels (l, n) i);
      once = λ i j l m n p q. once_apart (labels_at_tops rules) i j l (label_at tops i l m p) (label_at tops j l n q);
      left_tops = λ rule i. (at_top rule i).0;
      right_tops = λ rule i. (at_top rule i).1;
      levels = λ rule i l j. (height many l, level_of l (in_once (labels_at_tops rules) l (in_tops_of rules rule i l j)));
      rises = λ rule i l r j k m n p q.
          let step = to_step l r (record { rule = rule; is = i; left = j; right = k }) in
          let same = settled many r (omega (arith, each r (top_in rule i r (inr k)))) in
          omega (arith, above_low steps (height many) r l step, has_level l m p, has_level r n q);
    }

    it_is_least : IsLeast rules certificate
    it_is_least = record {
      fits = it_fits;
      labels = labels_are tops;
      least = λ d fits l m n p q. omega (arith, has_level l m p, least d fits many l n q);
      count = refl;
    }

  -- ---- what is to be found

  pub something_found : (found : Option LevelCertificate) × IsFound rules found
  something_found = by (decide_each (λ rule. HasLabelsAtTop rule.left × HasLabelsAtTop rule.right) (λ rule. decide_both (decide_tops rule.left) (decide_tops rule.right)) rules)
    where
      by : Dec ((rule : Rule) → rule ∈ rules → HasLabelsAtTop rule.left × HasLabelsAtTop rule.right) → (found : Option LevelCertificate) × IsFound rules found
      by (no n) = (None, λ c fits. n (λ rule i. (fits.left_tops rule i, fits.right_tops rule i)))
      by (yes at_top) = or (decide_each (λ l. suc (height many l) ≤ many) (λ l. decide_at_most (suc (height many l)) many) tops)
        where
          or : Dec ((l : Label) → l ∈ tops → suc (height many l) ≤ many) → (found : Option LevelCertificate) × IsFound rules found
          or (yes each) = (Some certificate, it_is_least at_top each)
          or (no n) = (None, λ c fits. n (λ l i. omega (arith, all_settled c fits l i (top_level c fits l i))))
