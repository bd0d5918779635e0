-- The levels of a certificate by the numbers of their labels, and what they say of rules.
use Rattle.std.proofs.Common.{◌≡◌, ◌≢◌, ◌⊎◌, ℕ, ◌+◌, ◌<◌, inl, inr, ⊎_elim, true, false, cond, nat_eq, List, [], ◌∷◌, ◌++◌, length, take, get_or, Option, Some, None, slice_get, sym, ap, ◌∙◌, subst, arith}
use Rattle.std.proofs.lemmas.List.{take_more, length-take}
use Rattle.std.proofs.lemmas.Option.{slice_get_within, slice_get-get_or}
use Rattle.qs_tree.specs.Lists.{◌∈◌}
use Rattle.qs_tree.specs.declared.cell.Label.{Label}
use Rattle.qs_tree.proofs.Members.{from_append, in_append_left, in_append_right, in_at, in_get_or}
use Rattle.qs_graph.proofs.Paths.{place_of}
use Rattle.qs_firing.proofs.Placing.{in_more, by_answer}
use Rattle.qs_pattern.specs.Rules.{Rule}
use Rattle.qs_levels.specs.Tops.{top_labels}
use Rattle.qs_levels.specs.Certificates.{LevelCertificate, Fits}
use Rattle.qs_levels.specs.working.Accepting.{IsWellFormed, AreLevels, AreBelow, Rises}
use Rattle.qs_levels.proofs.Numbering.{same_label}
use Rattle.qs_levels.proofs.Passing.{from_take}

pub no_levels : (level_of : ℕ → Option ℕ) → ((n : ℕ) → level_of n ≡ None) → AreLevels [] level_of
no_levels level_of none = record {
  sound = λ l n e. (let f = sym (none l.0) ∙ e in absurd cc);
  all = λ l n i. absurd i;
  once = λ i j l m n e f. absurd cc;
}

module _ (pairs : List (Label × ℕ)) (i : ℕ) (p d : Label × ℕ) (here : i < length pairs) (read : p ≡ get_or pairs i d) where
  more : take (i + 1) pairs ≡ take i pairs ++ p ∷ []
  more = take_more pairs i d here ∙ ap (λ q. take i pairs ++ q ∷ []) (sym read)

  pub is_pair : p ∈ pairs
  is_pair = subst (λ q. q ∈ pairs) (sym read) (in_get_or pairs i d here)

  at : slice_get pairs i ≡ Some p
  at = slice_get-get_or pairs i d here ∙ ap Some (sym read)

  pub below_more : (limit : ℕ) → p.1 < limit → AreBelow (take i pairs) limit → AreBelow (take (i + 1) pairs) limit
  below_more limit h b l n j = ⊎_elim (b l n)
      (λ k. ⊎_elim (λ e. omega (arith, h, ap (λ (q : Label × ℕ). q.1) e)) (λ none. absurd none) k)
      (from_append (take i pairs) (p ∷ []) (l, n) (subst (λ qs. (l, n) ∈ qs) more j))

  module _ (level_of : ℕ → Option ℕ) (a : AreLevels (take i pairs) level_of) where
    -- a label that has a level already stands twice
    pub twice : (m : ℕ) → level_of p.0.0 ≡ Some m → ((x y : ℕ) (l : Label) (k n : ℕ) → slice_get pairs x ≡ Some (l, k) → slice_get pairs y ≡ Some (l, n) → x ≡ y) → ⊥
    twice m e once =
        let (j, f) = place_of (take i pairs) (p.0, m) (a.sound p.0 m e) in
        let low = slice_get_within (take i pairs) j (p.0, m) f in
        omega (arith, low, length-take i pairs, once j i p.0 m p.1 (from_take i pairs j (p.0, m) f) at)

    pub levels_more : (after : ℕ → Option ℕ) → level_of p.0.0 ≡ None → ((n : ℕ) → after n ≡ cond (nat_eq p.0.0 n) (Some p.1) (level_of n)) → AreLevels (take (i + 1) pairs) after
    levels_more after none new = subst (λ qs. AreLevels qs after) (sym more) (record { sound = sound; all = all; once = once })
      where
        sound : (l : Label) (n : ℕ) → after l.0 ≡ Some n → (l, n) ∈ (take i pairs ++ p ∷ [])
        sound l n e = ⊎_elim
            (λ (s, t).
            let level : p.1 ≡ n = (let q = sym (new l.0 ∙ ap (λ b. cond b (Some p.1) (level_of l.0)) t) ∙ e in cc) in
            let label : p.0 ≡ l = same_label p.0 l s in
            in_append_right (take i pairs) (p ∷ []) (l, n) (inl (sym (λ k. (label k, level k)))))
            (λ (s, t). in_append_left (take i pairs) (p ∷ []) (l, n) (a.sound l n (sym (new l.0 ∙ ap (λ b. cond b (Some p.1) (level_of l.0)) t) ∙ e)))
            (by_answer p.0.0 l.0)

        never : (l : Label) (n : ℕ) → (l, n) ∈ take i pairs → p.0.0 ≡ l.0 → ⊥
        never l n j s = let q : Some n ≡ None = sym (a.all l n j) ∙ ap level_of (sym s) ∙ none in cc

        all : (l : Label) (n : ℕ) → (l, n) ∈ (take i pairs ++ p ∷ []) → after l.0 ≡ Some n
        all l n j = ⊎_elim
            (λ k. ⊎_elim
            (λ (s, t). absurd (never l n k s))
            (λ (s, t). new l.0 ∙ ap (λ b. cond b (Some p.1) (level_of l.0)) t ∙ a.all l n k)
            (by_answer p.0.0 l.0))
            (λ k. ⊎_elim
            (λ e. here_all l n e (by_answer p.0.0 l.0))
            (λ no. absurd no)
            k)
            (from_append (take i pairs) (p ∷ []) (l, n) j)
          where
            here_all : (l : Label) (n : ℕ) → (l, n) ≡ p → ((p.0.0 ≡ l.0) × (nat_eq p.0.0 l.0 ≡ true)) ⊎ ((p.0.0 ≢ l.0) × (nat_eq p.0.0 l.0 ≡ false)) → after l.0 ≡ Some n
            here_all l n e (inl (s, t)) = new l.0 ∙ ap (λ b. cond b (Some p.1) (level_of l.0)) t ∙ ap (λ (q : Label × ℕ). Some q.1) (sym e)
            here_all l n e (inr (s, t)) = absurd (s (ap (λ (q : Label × ℕ). q.0.0) (sym e)))

        once : (x y : ℕ) (l : Label) (m n : ℕ) → slice_get (take i pairs ++ p ∷ []) x ≡ Some (l, m) → slice_get (take i pairs ++ p ∷ []) y ≡ Some (l, n) → x ≡ y
        once x y l m n e f = ⊎_elim
            (λ u. ⊎_elim (λ v. a.once x y l m n u v) (λ (v, s). absurd (never l m (in_at (take i pairs) x (l, m) u) (ap (λ (q : Label × ℕ). q.0.0) (sym s)))) (in_more (take i pairs) p y (l, n) f))
            (λ (u, s). ⊎_elim (λ v. absurd (never l n (in_at (take i pairs) y (l, n) v) (ap (λ (q : Label × ℕ). q.0.0) (sym s)))) (λ (v, t). u ∙ sym v) (in_more (take i pairs) p y (l, n) f))
            (in_more (take i pairs) p x (l, m) e)

-- a certificate that fits gives levels that rise
module _ (rules : List Rule) (c : LevelCertificate) (level_of : ℕ → Option ℕ) (a : AreLevels c.of level_of) where
  pub fits_rises : Fits rules c → (rule : Rule) → rule ∈ rules → Rises level_of rule
  fits_rises f rule i = record {
    left = record { tops = f.left_tops rule i; level = λ l j. (let (n, h) = f.levels rule i l (in_append_left (top_labels rule.left) (top_labels rule.right) l j) in (n, a.all l n h)) };
    right = record { tops = f.right_tops rule i; level = λ l j. (let (n, h) = f.levels rule i l (in_append_right (top_labels rule.left) (top_labels rule.right) l j) in (n, a.all l n h)) };
    rises = λ l r j k m n p q. f.rises rule i l r j k m n (a.sound l m p) (a.sound r n q);
  }

  pub rises_fits : IsWellFormed c → ((rule : Rule) → rule ∈ rules → Rises level_of rule) → Fits rules c
  rises_fits w rises = record {
    some = w.some;
    below = w.below;
    once = w.once;
    left_tops = λ rule i. (rises rule i).left.tops;
    right_tops = λ rule i. (rises rule i).right.tops;
    levels = λ rule i l j. ⊎_elim
        (λ k. let (n, h) = (rises rule i).left.level l k in (n, a.sound l n h))
        (λ k. let (n, h) = (rises rule i).right.level l k in (n, a.sound l n h))
        (from_append (top_labels rule.left) (top_labels rule.right) l j);
    rises = λ rule i l r j k m n p q. (rises rule i).rises l r j k m n (a.all l m p) (a.all r n q);
  }

pub well_formed : (rules : List Rule) (c : LevelCertificate) → Fits rules c → IsWellFormed c
well_formed rules c f = record { some = f.some; below = f.below; once = f.once }
