-- The labels at the top of a side, pattern after pattern.
use Rattle.std.proofs.Common.{◌≡◌, ℕ, zero, suc, List, [], ◌∷◌, ◌++◌, Option, Some, None, slice_get, inl, refl, sym, ◌∙◌, ap, subst, append-nil, append_assoc}
use Rattle.qs_tree.specs.Lists.{◌∈◌}
use Rattle.qs_tree.proofs.Members.{in_append_left, in_append_right}
use Rattle.qs_tree.specs.declared.cell.Label.{Label}
use Rattle.qs_pattern.specs.declared.pattern.Head.TheVariants as head
use Rattle.qs_pattern.specs.declared.pattern.Pattern.{Pattern, Node', Tree, Forest}
use Rattle.qs_pattern.specs.Patterns.{Patterns, no_pattern, pattern_before, patterns}
use Rattle.qs_levels.specs.Tops.{HasLabelsAtTop, top_labels}
use Rattle.qs_levels.specs.working.Tops.{label_at_top}

abbrev pub listed : Option Label → List Label
listed None = []
listed (Some l) = l ∷ []

top_before : (p : Pattern) (us : Patterns) → top_labels (pattern_before p us) ≡ listed (label_at_top p) ++ top_labels us
top_before (Node' (head.Label l) shape kids) us = refl
top_before (Node' (head.Var v) shape kids) us = refl
top_before (Tree v) us = refl
top_before (Forest v) us = refl

-- one pattern more has its label behind the others
pub tops_more : (ps : List Pattern) (p : Pattern) → top_labels (patterns (ps ++ p ∷ [])) ≡ top_labels (patterns ps) ++ listed (label_at_top p)
tops_more [] p = top_before p no_pattern ∙ append-nil (listed (label_at_top p))
tops_more (q ∷ ps) p =
    top_before q (patterns (ps ++ p ∷ []))
    ∙ ap (λ ls. listed (label_at_top q) ++ ls) (tops_more ps p)
    ∙ sym (append_assoc (listed (label_at_top q)) (top_labels (patterns ps)) (listed (label_at_top p)))
    ∙ ap (λ ls. ls ++ listed (label_at_top p)) (sym (top_before q (patterns ps)))

has_before : (p : Pattern) (us : Patterns) (l : Label) → label_at_top p ≡ Some l → HasLabelsAtTop us → HasLabelsAtTop (pattern_before p us)
has_before (Node' (head.Label k) shape kids) us l e h = (tt, h)
has_before (Node' (head.Var v) shape kids) us l e h = absurd cc
has_before (Tree v) us l e h = absurd cc
has_before (Forest v) us l e h = absurd cc

-- what stands behind a pattern may be another side with labels at its top
has_swapped : (p : Pattern) (us vs : Patterns) → HasLabelsAtTop (pattern_before p us) → (HasLabelsAtTop us → HasLabelsAtTop vs) → HasLabelsAtTop (pattern_before p vs)
has_swapped (Node' (head.Label k) shape kids) us vs h f = (tt, f h.1)
has_swapped (Node' (head.Var v) shape kids) us vs h f = absurd h.0
has_swapped (Tree v) us vs h f = absurd h
has_swapped (Forest v) us vs h f = absurd h

has_behind : (p : Pattern) (us : Patterns) → HasLabelsAtTop (pattern_before p us) → HasLabelsAtTop us
has_behind (Node' h shape kids) us x = x.1
has_behind (Tree v) us x = absurd x
has_behind (Forest v) us x = absurd x

pub has_more : (ps : List Pattern) (p : Pattern) (l : Label) → label_at_top p ≡ Some l → HasLabelsAtTop (patterns ps) → HasLabelsAtTop (patterns (ps ++ p ∷ []))
has_more [] p l e h = has_before p no_pattern l e tt
has_more (q ∷ ps) p l e h = has_swapped q (patterns ps) (patterns (ps ++ p ∷ [])) h (has_more ps p l e)

none_before : (p : Pattern) (us : Patterns) → label_at_top p ≡ None → HasLabelsAtTop (pattern_before p us) → ⊥
none_before (Node' (head.Label l) shape kids) us e h = cc
none_before (Node' (head.Var v) shape kids) us e h = h.0
none_before (Tree v) us e h = h
none_before (Forest v) us e h = h

-- where a pattern of a side has no label, the side hasn't labels at its top
pub no_top : (ps : List Pattern) (k : ℕ) (p : Pattern) → slice_get ps k ≡ Some p → label_at_top p ≡ None → HasLabelsAtTop (patterns ps) → ⊥
no_top [] k p at e h = absurd cc
no_top (q ∷ ps) zero p at e h = let same : q ≡ p = cc in none_before q (patterns ps) (ap label_at_top same ∙ e) h
no_top (q ∷ ps) (suc k) p at e h = no_top ps k p at e (has_behind q (patterns ps) h)

-- the label of a pattern of a side is one at its top
pub in_tops : (ps : List Pattern) (k : ℕ) (p : Pattern) (l : Label) → slice_get ps k ≡ Some p → label_at_top p ≡ Some l → l ∈ top_labels (patterns ps)
in_tops [] k p l at e = absurd cc
in_tops (q ∷ ps) zero p l at e =
    let same : q ≡ p = cc in
    let here : l ∈ listed (label_at_top q) = subst (λ o. l ∈ listed o) (sym (ap label_at_top same ∙ e)) (inl refl) in
    subst (λ ls. l ∈ ls) (sym (top_before q (patterns ps))) (in_append_left (listed (label_at_top q)) (top_labels (patterns ps)) l here)
in_tops (q ∷ ps) (suc k) p l at e =
    subst (λ ls. l ∈ ls) (sym (top_before q (patterns ps))) (in_append_right (listed (label_at_top q)) (top_labels (patterns ps)) l (in_tops ps k p l at e))
