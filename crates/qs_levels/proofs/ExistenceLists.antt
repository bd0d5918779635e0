-- Lists of different members, and which sides have labels at their tops.
use Rattle.std.proofs.Common.{◌≡◌, ◌≤◌, List, [], ◌∷◌, length, inl, inr, ⊎_elim, refl, sym, ◌∙◌, subst}
use Rattle.std.specs.Prelude.{flat_map}
use Rattle.qs_core.specs.Growth.{AllApart}
use Rattle.qs_tree.specs.Lists.{◌∈◌, Ascends}
use Rattle.qs_tree.proofs.Members.{in_append_left, in_append_right, from_append}
use Rattle.qs_tree.specs.declared.cell.Label.{Label}
use Rattle.qs_pattern.specs.declared.pattern.Head.TheVariants as head
use Rattle.qs_pattern.specs.Patterns.{Patterns, no_pattern, node_first, tree_var_first, forest_var_first}
use Rattle.qs_pattern.specs.Rules.{Rule}
use Rattle.qs_levels.specs.Tops.{IsLabelHead, HasLabelsAtTop, rule_labels, labels_at_tops}
use Rattle.qs_canon.proofs.Counting.{fewer}

-- ---- members of lists

pub from_flat_map : {X Y : Type 0} (f : X → List Y) (xs : List X) (y : Y) → y ∈ flat_map f xs → (x : X) × (x ∈ xs) × (y ∈ f x)
from_flat_map f [] y i = absurd i
from_flat_map f (x ∷ xs) y i = ⊎_elim
    (λ j. (x, inl refl, j))
    (λ j. let r = from_flat_map f xs y j in (r.0, inr r.1, r.2))
    (from_append (f x) (flat_map f xs) y i)

-- an ascending list whose members all stand in another list is no longer than it
ascend_apart : {X : Type 0} (Before : X → X → Type 0) (xs : List X) → Ascends Before xs → ((x : X) → x ∈ xs → Before x x → ⊥) → AllApart xs
ascend_apart Before [] a n = tt
ascend_apart Before (x ∷ xs) a n = ((λ i. n x (inl refl) (a.0 x i)), ascend_apart Before xs a.1 (λ z j. n z (inr j)))

pub no_longer : {X : Type 0} (Before : X → X → Type 0) (xs ys : List X) → Ascends Before xs → ((x : X) → x ∈ xs → Before x x → ⊥) → ((x : X) → x ∈ xs → x ∈ ys) → length xs ≤ length ys
no_longer Before xs ys a n i = fewer (λ x y. x ≡ y) (λ x z y p q. p ∙ sym q) xs ys (ascend_apart Before xs a n) (λ x j. (x, i x j, refl))

-- ---- the labels at the tops of rules

pub in_tops_of : (rules : List Rule) (rule : Rule) → rule ∈ rules → (l : Label) → l ∈ rule_labels rule → l ∈ labels_at_tops rules
in_tops_of [] rule i l j = absurd i
in_tops_of (r ∷ rules) rule (inl e) l j = in_append_left (rule_labels r) (labels_at_tops rules) l (subst (λ (x : Rule). l ∈ rule_labels x) e j)
in_tops_of (r ∷ rules) rule (inr i) l j = in_append_right (rule_labels r) (labels_at_tops rules) l (in_tops_of rules rule i l j)

pub from_tops_of : (rules : List Rule) (l : Label) → l ∈ labels_at_tops rules → (rule : Rule) × (rule ∈ rules) × (l ∈ rule_labels rule)
from_tops_of [] l i = absurd i
from_tops_of (r ∷ rules) l i = ⊎_elim
    (λ j. (r, inl refl, j))
    (λ j. let x = from_tops_of rules l j in (x.0, inr x.1, x.2))
    (from_append (rule_labels r) (labels_at_tops rules) l i)

pub decide_tops : (side : Patterns) → Dec (HasLabelsAtTop side)
decide_tops no_pattern = yes tt
decide_tops (node_first (head.Label l) kids behind) = by (decide_tops behind)
  where
    by : Dec (HasLabelsAtTop behind) → Dec (IsLabelHead (head.Label l) × HasLabelsAtTop behind)
    by (yes h) = yes (tt, h)
    by (no n) = no (λ h. n h.1)
decide_tops (node_first (head.Var v) kids behind) = no (λ h. h.0)
decide_tops (tree_var_first v behind) = no (λ h. h)
decide_tops (forest_var_first v behind) = no (λ h. h)
