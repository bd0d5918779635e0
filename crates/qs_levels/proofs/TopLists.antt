-- The lists of labels at the tops of rules, as they grow.
use Rattle.std.proofs.Common.{◌≡◌, ◌⊎◌, ℕ, ◌+◌, ◌<◌, Bool, true, false, List, [], ◌∷◌, ◌++◌, length, map, take, get_or, Some, inl, inr, ⊎_elim, refl, sym, ◌∙◌, ap, subst, arith, append-nil, append_assoc}
use Rattle.std.proofs.lemmas.List.{take_more, map-append}
use Rattle.qs_tree.specs.Lists.{◌∈◌}
use Rattle.qs_tree.proofs.Members.{from_append}
use Rattle.qs_tree.specs.declared.cell.Label.{Label}
use Rattle.qs_pattern.specs.declared.pattern.Pattern.{Pattern}
use Rattle.qs_pattern.specs.Patterns.{patterns}
use Rattle.qs_pattern.specs.Rules.{Rule}
use Rattle.qs_levels.specs.declared.tops.Top.{Top}
use Rattle.qs_levels.specs.Tops.{HasLabelsAtTop, top_labels, rule_labels, labels_at_tops}
use Rattle.qs_levels.specs.working.Tops.{label_at_top, tops_of_side, tops_from, HaveLabelsAtTops}
use Rattle.qs_levels.proofs.Sides.{listed, tops_more, has_more}

-- one label more at the top of a side
module _ (rule : ℕ) (right : Bool) (ps : List Pattern) (i : ℕ) (p : Pattern) (l : Label) (here : i < length ps) (read : p ≡ get_or ps i p) (label : label_at_top p ≡ Some l) where
  more : take (i + 1) ps ≡ take i ps ++ p ∷ []
  more = take_more ps i p here ∙ ap (λ q. take i ps ++ q ∷ []) (sym read)

  pub one_more_has : HasLabelsAtTop (patterns (take i ps)) → HasLabelsAtTop (patterns (take (i + 1) ps))
  one_more_has h = subst (λ qs. HasLabelsAtTop (patterns qs)) (sym more) (has_more (take i ps) p l label h)

  pub one_more_labels : top_labels (patterns (take (i + 1) ps)) ≡ top_labels (patterns (take i ps)) ++ l ∷ []
  one_more_labels = ap (λ qs. top_labels (patterns qs)) more ∙ tops_more (take i ps) p ∙ ap (λ o. top_labels (patterns (take i ps)) ++ listed o) label

  pub one_more_top : (old now next : List Top) → next ≡ now ++ record { rule = rule; right = right; label = l } ∷ [] → now ≡ old ++ tops_of_side rule right (patterns (take i ps))
      → next ≡ old ++ tops_of_side rule right (patterns (take (i + 1) ps))
  one_more_top old now next e is =
      let f : Label → Top = λ (k : Label). record { rule = rule; right = right; label = k } in
      let behind : tops_of_side rule right (patterns (take (i + 1) ps)) ≡ tops_of_side rule right (patterns (take i ps)) ++ record { rule = rule; right = right; label = l } ∷ [] =
      ap (map (λ (k : Label). record { rule = rule; right = right; label = k })) one_more_labels ∙ map-append (λ (k : Label). record { rule = rule; right = right; label = k }) (top_labels (patterns (take i ps))) (l ∷ []) in
      e ∙ ap (λ ts. ts ++ record { rule = rule; right = right; label = l } ∷ []) is
      ∙ append_assoc old (tops_of_side rule right (patterns (take i ps))) (record { rule = rule; right = right; label = l } ∷ [])
      ∙ ap (λ ts. old ++ ts) (sym behind)

-- the tops of one rule
abbrev pub both_sides : ℕ → Rule → List Top
both_sides n rule = tops_of_side n false rule.left ++ tops_of_side n true rule.right

pub tops_from-more : (n : ℕ) (rules : List Rule) (rule : Rule) → tops_from n (rules ++ rule ∷ []) ≡ tops_from n rules ++ both_sides (n + length rules) rule
tops_from-more n [] rule = append-nil (both_sides n rule) ∙ ap (λ k. both_sides k rule) (let e : n ≡ n + 0 = omega arith in e)
tops_from-more n (r ∷ rules) rule =
    ap (λ ts. both_sides n r ++ ts) (tops_from-more (n + 1) rules rule)
    ∙ sym (append_assoc (both_sides n r) (tops_from (n + 1) rules) (both_sides (n + 1 + length rules) rule))
    ∙ ap (λ k. (both_sides n r ++ tops_from (n + 1) rules) ++ both_sides k rule) (let e : n + 1 + length rules ≡ n + length (r ∷ rules) = omega arith in e)

-- their labels are those at the tops of the rules
pub labels_of_tops : (n : ℕ) (rules : List Rule) → map (λ (top : Top). top.label) (tops_from n rules) ≡ labels_at_tops rules
labels_of_tops n [] = refl
labels_of_tops n (rule ∷ rules) =
    map-append (λ (top : Top). top.label) (both_sides n rule) (tops_from (n + 1) rules)
    ∙ ap (λ ls. ls ++ map (λ (top : Top). top.label) (tops_from (n + 1) rules)) (map-append (λ (top : Top). top.label) (tops_of_side n false rule.left) (tops_of_side n true rule.right)
    ∙ ap (λ ls. ls ++ map (λ (top : Top). top.label) (tops_of_side n true rule.right)) (back n false (top_labels rule.left)) ∙ ap (λ ls. top_labels rule.left ++ ls) (back n true (top_labels rule.right)))
    ∙ ap (λ ls. rule_labels rule ++ ls) (labels_of_tops (n + 1) rules)
  where
    back : (m : ℕ) (right : Bool) (ls : List Label) → map (λ (top : Top). top.label) (map (λ (l : Label). record { rule = m; right = right; label = l }) ls) ≡ ls
    back m right [] = refl
    back m right (l ∷ ls) = ap (λ ks. l ∷ ks) (back m right ls)

-- one rule more
module _ (rules : List Rule) (i : ℕ) (rule : Rule) (here : i < length rules) (read : rule ≡ get_or rules i rule) where
  more_rules : take (i + 1) rules ≡ take i rules ++ rule ∷ []
  more_rules = take_more rules i rule here ∙ ap (λ r. take i rules ++ r ∷ []) (sym read)

  member : (r : Rule) → r ∈ take (i + 1) rules → (r ∈ take i rules) ⊎ (r ≡ rule)
  member r j = ⊎_elim inl (λ k. inr (⊎_elim (λ e. e) (λ none. absurd none) k)) (from_append (take i rules) (rule ∷ []) r (subst (λ rs. r ∈ rs) more_rules j))

  pub one_more_rule : (P : Rule → Type 0) → ((r : Rule) → r ∈ take i rules → P r) → P rule → (r : Rule) → r ∈ take (i + 1) rules → P r
  one_more_rule P h p r j = ⊎_elim (h r) (λ e. subst P (sym e) p) (member r j)

  pub one_more_tops : HaveLabelsAtTops (take i rules) → HasLabelsAtTop rule.left → HasLabelsAtTop rule.right → HaveLabelsAtTops (take (i + 1) rules)
  one_more_tops h l r = record {
    left = one_more_rule (λ (x : Rule). HasLabelsAtTop x.left) h.left l;
    right = one_more_rule (λ (x : Rule). HasLabelsAtTop x.right) h.right r;
  }

  pub one_more_listed : (now next last : List Top) → now ≡ tops_from 0 (take i rules) → next ≡ now ++ tops_of_side i false rule.left → last ≡ next ++ tops_of_side i true rule.right → length (take i rules) ≡ i
      → last ≡ tops_from 0 (take (i + 1) rules)
  one_more_listed now next last e f g long =
      g ∙ ap (λ ts. ts ++ tops_of_side i true rule.right) (f ∙ ap (λ ts. ts ++ tops_of_side i false rule.left) e)
      ∙ append_assoc (tops_from 0 (take i rules)) (tops_of_side i false rule.left) (tops_of_side i true rule.right)
      ∙ ap (λ k. tops_from 0 (take i rules) ++ both_sides k rule) (let s : i ≡ 0 + length (take i rules) = omega arith in s)
      ∙ sym (tops_from-more 0 (take i rules) rule) ∙ ap (tops_from 0) (sym more_rules)
