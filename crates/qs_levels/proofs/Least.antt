-- The least certificate, from the lengths of the longest chains of steps.
use Rattle.std.proofs.Common.{◌≡◌, ◌≢◌, ◌⊎◌, ℕ, zero, suc, ◌+◌, ◌<◌, ◌≤◌, inl, inr, ⊎_elim, Bool, true, false, List, [], ◌∷◌, length, get_or, Some, slice_get, refl, sym, ap, ◌∙◌, subst, arith}
use Rattle.std.proofs.lemmas.Option.{slice_get_within, slice_get-get_or}
use Rattle.qs_tree.specs.Lists.{◌∈◌}
use Rattle.qs_tree.specs.declared.cell.Label.{Label}
use Rattle.qs_tree.proofs.Decisions.{decide_number}
use Rattle.qs_tree.proofs.Members.{in_at, from_append, in_append_left, in_append_right, mapped, in_map}
use Rattle.qs_graph.proofs.Paths.{place_of}
use Rattle.qs_pattern.specs.Patterns.{Patterns}
use Rattle.qs_pattern.specs.Rules.{Rule}
use Rattle.qs_levels.specs.declared.tops.Top.{Top}
use Rattle.qs_levels.specs.Tops.{top_labels, rule_labels, labels_at_tops, each_once}
use Rattle.qs_levels.specs.Certificates.{LevelCertificate, HasLevel, Fits}
use Rattle.qs_levels.specs.working.Tops.{tops_of_side, tops_from}
use Rattle.qs_levels.specs.working.Steps.{IsStepBy, IsStepOf, AreStepsOf}
use Rattle.qs_levels.specs.working.Ordering.{AreSteps, IsUndone, IsStuck, Waits}
use Rattle.qs_levels.proofs.TopLists.{both_sides, labels_of_tops}
use Rattle.qs_levels.proofs.Numbering.{once_apart}

-- A top of rules, of which the first has the number n: its rule, and the side at which its label stands.
abbrev pub StandsBy : Bool → Rule → Label → Type 0
StandsBy false rule l = l ∈ top_labels rule.left
StandsBy true rule l = l ∈ top_labels rule.right

pub record IsTopOf (n : ℕ) (rules : List Rule) (top : Top) : Type 0 where
  pub place : ℕ
  pub rule : Rule
  pub is : slice_get rules place ≡ Some rule
  pub number : top.rule ≡ n + place
  pub stands : StandsBy top.right rule top.label

from_side : (n : ℕ) (right : Bool) (side : Patterns) (top : Top) → top ∈ tops_of_side n right side → (top.rule ≡ n) × (top.right ≡ right) × (top.label ∈ top_labels side)
from_side n right side top i =
    let (l, j, e) = mapped {Y = Top} (λ (k : Label). record { rule = n; right = right; label = k }) (top_labels side) top i in
    (ap (λ (t : Top). t.rule) e, ap (λ (t : Top). t.right) e, subst (λ k. k ∈ top_labels side) (sym (ap (λ (t : Top). t.label) e)) j)

pub from_tops : (n : ℕ) (rules : List Rule) (top : Top) → top ∈ tops_from n rules → IsTopOf n rules top
from_tops n [] top i = absurd i
from_tops n (rule ∷ rules) top i = by (from_append (both_sides n rule) (tops_from (n + 1) rules) top i) (from_tops (n + 1) rules top)
  where
    here : (right : Bool) → StandsBy right rule top.label → top.right ≡ right → top.rule ≡ n → IsTopOf n (rule ∷ rules) top
    here right s e f = record { place = 0; rule = rule; is = refl; number = omega arith; stands = subst (λ b. StandsBy b rule top.label) (sym e) s }

    by : (top ∈ both_sides n rule) ⊎ (top ∈ tops_from (n + 1) rules) → (top ∈ tops_from (n + 1) rules → IsTopOf (n + 1) rules top) → IsTopOf n (rule ∷ rules) top
    by (inl j) rest = ⊎_elim
        (λ k. let (a, b, c) = from_side n false rule.left top k in here false c b a)
        (λ k. let (a, b, c) = from_side n true rule.right top k in here true c b a)
        (from_append (tops_of_side n false rule.left) (tops_of_side n true rule.right) top j)
    by (inr j) rest = let t = rest j in record { place = suc t.place; rule = t.rule; is = t.is; number = (let e = t.number in omega arith); stands = t.stands }

in_side : (n : ℕ) (right : Bool) (side : Patterns) (l : Label) → l ∈ top_labels side → record { rule = n; right = right; label = l } ∈ tops_of_side n right side
in_side n right side l i = in_map {Y = Top} (λ (k : Label). record { rule = n; right = right; label = k }) (top_labels side) l i

pub in_tops_from : (n : ℕ) (rules : List Rule) (place : ℕ) (rule : Rule) → slice_get rules place ≡ Some rule → (right : Bool) (l : Label) → StandsBy right rule l → record { rule = n + place; right = right; label = l } ∈ tops_from n rules
in_tops_from n [] place rule e right l s = absurd cc
in_tops_from n (r ∷ rules) zero rule e right l s =
    let same : r ≡ rule = cc in
    let number : n ≡ n + 0 = omega arith in
    subst (λ k. record { rule = k; right = right; label = l } ∈ tops_from n (r ∷ rules)) number
    (in_append_left (both_sides n r) (tops_from (n + 1) rules) (record { rule = n; right = right; label = l }) (side right (subst (λ (x : Rule). StandsBy right x l) (sym same) s)))
  where
    side : (b : Bool) → StandsBy b r l → record { rule = n; right = b; label = l } ∈ both_sides n r
    side false i = in_append_left (tops_of_side n false r.left) (tops_of_side n true r.right) (record { rule = n; right = false; label = l }) (in_side n false r.left l i)
    side true i = in_append_right (tops_of_side n false r.left) (tops_of_side n true r.right) (record { rule = n; right = true; label = l }) (in_side n true r.right l i)
in_tops_from n (r ∷ rules) (suc place) rule e right l s =
    let number : n + 1 + place ≡ n + suc place = omega arith in
    subst (λ k. record { rule = k; right = right; label = l } ∈ tops_from n (r ∷ rules)) number
    (in_append_right (both_sides n r) (tops_from (n + 1) rules) (record { rule = n + 1 + place; right = right; label = l }) (in_tops_from (n + 1) rules place rule e right l s))

-- Numbers below k that are all in a list are no more than its members. The list without one of them:
abbrev if_same : {P : Type 0} → Dec P → List ℕ → List ℕ → List ℕ
if_same (yes e) a b = a
if_same (no f) a b = b

abbrev without : ℕ → List ℕ → List ℕ
without n [] = []
without n (m ∷ ms) = if_same (decide_number m n) ms (m ∷ without n ms)

without_in : (n k : ℕ) (ms : List ℕ) → k ≢ n → k ∈ ms → k ∈ without n ms
without_in n k [] f i = absurd i
without_in n k (m ∷ ms) f i = by (decide_number m n) i (without_in n k ms f)
  where
    by : (d : Dec (m ≡ n)) → k ∈ (m ∷ ms) → (k ∈ ms → k ∈ without n ms) → k ∈ if_same d ms (m ∷ without n ms)
    by (yes e) (inl s) rest = absurd (f (s ∙ e))
    by (yes e) (inr j) rest = j
    by (no g) (inl s) rest = inl s
    by (no g) (inr j) rest = inr (rest j)

without_long : (n : ℕ) (ms : List ℕ) → n ∈ ms → length (without n ms) + 1 ≡ length ms
without_long n [] i = absurd i
without_long n (m ∷ ms) i = by (decide_number m n) i (without_long n ms)
  where
    by : (d : Dec (m ≡ n)) → n ∈ (m ∷ ms) → (n ∈ ms → length (without n ms) + 1 ≡ length ms) → length (if_same d ms (m ∷ without n ms)) + 1 ≡ length (m ∷ ms)
    by (yes e) j rest = omega arith
    by (no f) (inl s) rest = absurd (f (sym s))
    by (no f) (inr j) rest = omega (arith, rest j)

pub few_numbers : (k : ℕ) (ms : List ℕ) → ((j : ℕ) → j < k → j ∈ ms) → k ≤ length ms
few_numbers zero ms h = omega arith
few_numbers (suc k) ms h =
    let rest = few_numbers k (without k ms) (λ j low. let f : j ≢ k = omega arith in without_in k j ms f (h j (omega arith))) in
    omega (arith, rest, without_long k ms (h k (omega arith)))

-- the rules, their tops, the steps of these
module _ (rules : List Rule) (labels : List Label) (sources targets : List ℕ) (s : AreStepsOf (length rules) (tops_from 0 rules) labels sources targets) where
  -- a step leads from a left label to its rule, or from a rule to a right label
  pub record IsLeftStep (a b : ℕ) : Type 0 where
    pub rule : Rule
    pub is_rule : slice_get rules b ≡ Some rule
    pub label : Label
    pub stands : label ∈ top_labels rule.left
    pub place : ℕ
    pub at : slice_get labels place ≡ Some label
    pub node : a ≡ length rules + place

  pub record IsRightStep (a b : ℕ) : Type 0 where
    pub rule : Rule
    pub is_rule : slice_get rules a ≡ Some rule
    pub label : Label
    pub stands : label ∈ top_labels rule.right
    pub place : ℕ
    pub at : slice_get labels place ≡ Some label
    pub node : b ≡ length rules + place

  pub step_cases : (k a b : ℕ) → slice_get sources k ≡ Some a → slice_get targets k ≡ Some b → IsLeftStep a b ⊎ IsRightStep a b
  step_cases k a b from to =
      let low : k < length (tops_from 0 rules) = omega (arith, slice_get_within sources k a from, s.long_sources) in
      let d : Top = record { rule = 0; right = false; label = record { 0 = 0 } } in
      let top = get_or (tops_from 0 rules) k (record { rule = 0; right = false; label = record { 0 = 0 } }) in
      let at = slice_get-get_or (tops_from 0 rules) k (record { rule = 0; right = false; label = record { 0 = 0 } }) low in
      let (x, y, p, q, h) = s.step k top at in
      let same : x ≡ a = (let e = sym p ∙ from in cc) in
      let other : y ≡ b = (let e = sym q ∙ to in cc) in
      let t = from_tops 0 rules top (in_at (tops_from 0 rules) k top at) in
      by top t top.right refl (subst (λ u. IsStepOf (length rules) labels top u b) same (subst (λ v. IsStepOf (length rules) labels top x v) other h))
    where
      by : (top : Top) → (t : IsTopOf 0 rules top) → (right : Bool) → top.right ≡ right → IsStepOf (length rules) labels top a b → IsLeftStep a b ⊎ IsRightStep a b
      by top t false e h =
          let (n, r) = subst (λ side. IsStepBy side (length rules) labels top a b) e h in
          let number = t.number in
          let is : t.place ≡ b = omega arith in
          inl (record {
            rule = t.rule;
            is_rule = subst (λ j. slice_get rules j ≡ Some t.rule) is t.is;
            label = top.label;
            stands = subst (λ side. StandsBy side t.rule top.label) e t.stands;
            place = n.place;
            at = n.stands;
            node = n.node;
          })
      by top t true e h =
          let (r, n) = subst (λ side. IsStepBy side (length rules) labels top a b) e h in
          let number = t.number in
          let is : t.place ≡ a = omega arith in
          inr (record {
            rule = t.rule;
            is_rule = subst (λ j. slice_get rules j ≡ Some t.rule) is t.is;
            label = top.label;
            stands = subst (λ side. StandsBy side t.rule top.label) e t.stands;
            place = n.place;
            at = n.stands;
            node = n.node;
          })

  -- each top of a rule has its step
  pub has_step : (place : ℕ) (rule : Rule) → slice_get rules place ≡ Some rule → (right : Bool) (l : Label) → StandsBy right rule l
      → (k a b : ℕ) × (slice_get sources k ≡ Some a) × (slice_get targets k ≡ Some b) × IsStepBy right (length rules) labels (record { rule = 0 + place; right = right; label = l }) a b
  has_step place rule e right l i =
      let (k, at) = place_of (tops_from 0 rules) (record { rule = 0 + place; right = right; label = l }) (in_tops_from 0 rules place rule e right l i) in
      let (a, b, p, q, h) = s.step k (record { rule = 0 + place; right = right; label = l }) at in
      (k, a, b, p, q, h)

  -- the labels are those at the tops, each at one place
  pub labels_once : labels ≡ each_once (labels_at_tops rules)
  labels_once = s.labels_are ∙ ap each_once (labels_of_tops 0 rules)

  pub one_place : (i j : ℕ) (l : Label) → slice_get labels i ≡ Some l → slice_get labels j ≡ Some l → i ≡ j
  one_place i j l e f = once_apart (labels_at_tops rules) i j l (subst (λ ls. slice_get ls i ≡ Some l) labels_once e) (subst (λ ls. slice_get ls j ≡ Some l) labels_once f)

  -- the steps lead between rules and labels
  pub are_steps : AreSteps (length rules + length labels) sources targets
  are_steps = record {
    long = s.long_sources ∙ sym s.long_targets;
    sources_in = λ n i. let (k, from) = place_of sources n i in
        let low : k < length targets = omega (arith, slice_get_within sources k n from, s.long_sources, s.long_targets) in
        (inside k n (get_or targets k 0) from (slice_get-get_or targets k 0 low)).0;
    targets_in = λ n i. let (k, to) = place_of targets n i in
        let low : k < length sources = omega (arith, slice_get_within targets k n to, s.long_sources, s.long_targets) in
        (inside k (get_or sources k 0) n (slice_get-get_or sources k 0 low) to).1;
  }
    where
      inside : (k a b : ℕ) → slice_get sources k ≡ Some a → slice_get targets k ≡ Some b → (a < length rules + length labels) × (b < length rules + length labels)
      inside k a b from to = ⊎_elim
          (λ x. (omega (arith, x.node, slice_get_within labels x.place x.label x.at), omega (arith, slice_get_within rules b x.rule x.is_rule)))
          (λ x. (omega (arith, slice_get_within rules a x.rule x.is_rule), omega (arith, x.node, slice_get_within labels x.place x.label x.at)))
          (step_cases k a b from to)

  -- no certificate fits where nodes are stuck
  module _ (stuck : IsStuck (length rules + length labels) sources targets) (c : LevelCertificate) (fits : Fits rules c) where
    level : (rule : Rule) → rule ∈ rules → (l : Label) → l ∈ rule_labels rule → (n : ℕ) × HasLevel c l n
    level = fits.levels

    back : (n : ℕ) → IsUndone stuck.nodes n → Waits sources targets stuck.nodes (λ k a. ⊥) n
    back = stuck.each

    source_undone : (n : ℕ) (u : IsUndone stuck.nodes n) → IsUndone stuck.nodes (stuck.each n u).source
    source_undone n u = ⊎_elim (λ x. x) (λ none. absurd none) (stuck.each n u).why

    -- a label that is stuck has no level below a bound
    no_level : (bound place : ℕ) (l : Label) (m : ℕ) → slice_get labels place ≡ Some l → IsUndone stuck.nodes (length rules + place) → HasLevel c l m → m < bound → ⊥
    no_level zero place l m at u has low = absurd (omega arith)
    no_level (suc bound) place l m at u has low =
        let w = stuck.each (length rules + place) u in
        let v = source_undone (length rules + place) u in
        ⊎_elim
        (λ x. omega (arith, slice_get_within rules (length rules + place) x.rule x.is_rule))
        (λ x.
        let same : x.place ≡ place = (let e = x.node in omega arith) in
        let label : x.label ≡ l = (let e = sym (subst (λ j. slice_get labels j ≡ Some x.label) same x.at) ∙ at in cc) in
        let w2 = stuck.each w.source v in
        let v2 = source_undone w.source v in
        ⊎_elim
        (λ y.
        let rule : y.rule ≡ x.rule = (let e = sym y.is_rule ∙ x.is_rule in cc) in
        let one = in_at rules w.source x.rule x.is_rule in
        let left : y.label ∈ top_labels x.rule.left = subst (λ (r : Rule). y.label ∈ top_labels r.left) rule y.stands in
        let right : l ∈ top_labels x.rule.right = subst (λ k. k ∈ top_labels x.rule.right) label x.stands in
        let (n, h) = fits.levels x.rule one y.label (in_append_left (top_labels x.rule.left) (top_labels x.rule.right) y.label left) in
        let rises : n < m = fits.rises x.rule one y.label l left right n m h has in
        no_level bound y.place y.label n y.at (subst (IsUndone stuck.nodes) y.node v2) h (omega arith))
        (λ y. omega (arith, y.node, slice_get_within rules w.source x.rule x.is_rule))
        (step_cases w2.step w2.source w.source w2.from w2.to))
        (step_cases w.step w.source (length rules + place) w.from w.to)

    pub no_certificate : ⊥
    no_certificate =
        let w = stuck.each stuck.some stuck.one in
        let v = source_undone stuck.some stuck.one in
        ⊎_elim
        (λ x.
        let one = in_at rules stuck.some x.rule x.is_rule in
        let (n, h) = fits.levels x.rule one x.label (in_append_left (top_labels x.rule.left) (top_labels x.rule.right) x.label x.stands) in
        no_level (n + 1) x.place x.label n x.at (subst (IsUndone stuck.nodes) x.node v) h (omega arith))
        (λ x.
        let one = in_at rules w.source x.rule x.is_rule in
        let (n, h) = fits.levels x.rule one x.label (in_append_right (top_labels x.rule.left) (top_labels x.rule.right) x.label x.stands) in
        no_level (n + 1) x.place x.label n x.at (subst (IsUndone stuck.nodes) x.node stuck.one) h (omega arith))
        (step_cases w.step w.source stuck.some w.from w.to)
