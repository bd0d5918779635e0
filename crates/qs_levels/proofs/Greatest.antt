-- The levels at the top of a side, pattern after pattern.
use Rattle.std.proofs.Common.{◌≡◌, ◌⊎◌, ℕ, ◌+◌, ◌<◌, ◌≤◌, inl, inr, ⊎_elim, max, true, List, [], ◌∷◌, length, take, get_or, Option, Some, None, refl, sym, ap, ◌∙◌, subst, arith}
use Rattle.std.proofs.lemmas.Bool.{cases_lt}
use Rattle.qs_tree.specs.Lists.{◌∈◌}
use Rattle.qs_tree.specs.declared.cell.Label.{Label}
use Rattle.qs_tree.proofs.Decisions.{same_there}
use Rattle.qs_tree.proofs.Members.{from_append, in_append_left, in_append_right, at_place}
use Rattle.qs_pattern.specs.declared.pattern.Pattern.{Pattern}
use Rattle.qs_pattern.specs.Patterns.{Patterns, patterns, count}
use Rattle.qs_levels.specs.Tops.{top_labels}
use Rattle.qs_levels.specs.working.Tops.{label_at_top}
use Rattle.qs_levels.specs.working.Accepting.{HasLevels, IsGreatestOf, AreAbove}
use Rattle.qs_levels.proofs.Sides.{no_top, in_tops}
use Rattle.qs_levels.proofs.TopLists.{one_more_has, one_more_labels}
use Rattle.qs_levels.proofs.Roots.{some_top}

module _ (level_of : ℕ → Option ℕ) where
  pub none_greatest : IsGreatestOf level_of (patterns []) 0
  none_greatest = record { has = record { tops = tt; level = λ l i. absurd i }; at_most = λ l n i e. absurd i; attained = inl refl }

  pub none_above : (floor : ℕ) → AreAbove level_of (patterns []) floor
  none_above floor = record { has = record { tops = tt; level = λ l i. absurd i }; above = λ l n i e. absurd i }

  module _ (ps : List Pattern) (i : ℕ) (p : Pattern) (here : i < length ps) (read : p ≡ get_or ps i p) where
    -- a pattern without a label, and one whose label has no level
    pub without_label : label_at_top p ≡ None → HasLevels level_of (patterns ps) → ⊥
    without_label none h = no_top ps i p (at_place ps i p here read) none h.tops

    pub without_level : (l : Label) → label_at_top p ≡ Some l → level_of l.0 ≡ None → HasLevels level_of (patterns ps) → ⊥
    without_level l label none h =
        let (n, e) = h.level l (in_tops ps i p l (at_place ps i p here read) label) in
        let f : None ≡ Some n = sym none ∙ e in
        cc

    pub too_low : (l : Label) (n floor : ℕ) → label_at_top p ≡ Some l → level_of l.0 ≡ Some n → n ≤ floor → AreAbove level_of (patterns ps) floor → ⊥
    too_low l n floor label level low h = omega (arith, h.above l n (in_tops ps i p l (at_place ps i p here read) label) level)

    module _ (l : Label) (label : label_at_top p ≡ Some l) (n : ℕ) (level : level_of l.0 ≡ Some n) where
      cases : (x : Label) → x ∈ top_labels (patterns (take (i + 1) ps)) → (x ∈ top_labels (patterns (take i ps))) ⊎ (x ≡ l)
      cases x j = ⊎_elim inl (λ k. inr (⊎_elim (λ e. e) (λ none. absurd none) k))
          (from_append (top_labels (patterns (take i ps))) (l ∷ []) x (subst (λ ls. x ∈ ls) (one_more_labels 0 true ps i p l here read label) j))

      old : (x : Label) → x ∈ top_labels (patterns (take i ps)) → x ∈ top_labels (patterns (take (i + 1) ps))
      old x j = subst (λ ls. x ∈ ls) (sym (one_more_labels 0 true ps i p l here read label)) (in_append_left (top_labels (patterns (take i ps))) (l ∷ []) x j)

      new : l ∈ top_labels (patterns (take (i + 1) ps))
      new = subst (λ ls. l ∈ ls) (sym (one_more_labels 0 true ps i p l here read label)) (in_append_right (top_labels (patterns (take i ps))) (l ∷ []) l (inl refl))

      same : (x : Label) (m : ℕ) → x ≡ l → level_of x.0 ≡ Some m → n ≡ m
      same x m e at = same_there level (ap (λ (y : Label). level_of y.0) (sym e) ∙ at)

      has_more : HasLevels level_of (patterns (take i ps)) → HasLevels level_of (patterns (take (i + 1) ps))
      has_more h = record {
        tops = one_more_has 0 true ps i p l here read label h.tops;
        level = λ x j. ⊎_elim (h.level x) (λ e. (n, ap (λ (y : Label). level_of y.0) e ∙ level)) (cases x j);
      }

      pub greatest_more : (greatest new_greatest : ℕ) → new_greatest ≡ max greatest n → IsGreatestOf level_of (patterns (take i ps)) greatest → IsGreatestOf level_of (patterns (take (i + 1) ps)) new_greatest
      greatest_more greatest new_greatest e g = record {
        has = has_more g.has;
        at_most = λ x m j at. ⊎_elim (λ k. let b = g.at_most x m k at in omega arith) (λ s. let b = same x m s at in omega arith) (cases x j);
        attained = ⊎_elim
            (λ lt. let is : n ≡ new_greatest = omega arith in inr (l, new, level ∙ ap Some is))
            (λ le. let is : greatest ≡ new_greatest = omega arith in ⊎_elim (λ z. inl (sym is ∙ z)) (λ (x, j, at). inr (x, old x j, at ∙ ap Some is)) g.attained)
            (cases_lt greatest n);
      }

      pub above_more : (floor : ℕ) → floor < n → AreAbove level_of (patterns (take i ps)) floor → AreAbove level_of (patterns (take (i + 1) ps)) floor
      above_more floor h a = record {
        has = has_more a.has;
        above = λ x m j at. ⊎_elim (λ k. a.above x m k at) (λ s. let b = same x m s at in omega arith) (cases x j);
      }

  -- a rule rises where all at the right are above the greatest at the left
  pub rises_above : (left right : Patterns) (greatest : ℕ) → IsGreatestOf level_of left greatest → AreAbove level_of right greatest
      → (l r : Label) → l ∈ top_labels left → r ∈ top_labels right → (m n : ℕ) → level_of l.0 ≡ Some m → level_of r.0 ≡ Some n → m < n
  rises_above left right greatest g a l r i j m n p q = omega (arith, g.at_most l m i p, a.above r n j q)

  pub above_rises : (left right : Patterns) (greatest : ℕ) → 1 ≤ count left → IsGreatestOf level_of left greatest → HasLevels level_of right
      → ((l r : Label) → l ∈ top_labels left → r ∈ top_labels right → (m n : ℕ) → level_of l.0 ≡ Some m → level_of r.0 ≡ Some n → m < n) → AreAbove level_of right greatest
  above_rises left right greatest some g h rises = record {
    has = h;
    above = λ r n j q. ⊎_elim (λ z. zero r n j q z) (λ (l, i, p). rises l r i j greatest n p q) g.attained;
  }
    where
      zero : (r : Label) (n : ℕ) → r ∈ top_labels right → level_of r.0 ≡ Some n → greatest ≡ 0 → greatest < n
      zero r n j q z =
          let (l, i) = some_top left g.has.tops some in
          let (m, p) = g.has.level l i in
          omega (arith, rises l r i j m n p q)
