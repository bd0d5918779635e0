-- Marking the nodes to which links lead: what one step keeps, and what is marked at the end.
use Rattle.std.proofs.Common.{◌≡◌, ◌⊎◌, ◌↔◌, ℕ, zero, suc, ◌+◌, ◌<◌, Bool, true, false, List, [], ◌∷◌, ◌++◌, length, get_or, set, replicate, refl, sym, ap, subst, inl, inr, ⊎_elim, arith, length-append}
use Rattle.std.proofs.lemmas.List.{length-replicate}
use Rattle.qs_tree.specs.Lists.{◌∈◌}
use Rattle.qs_tree.proofs.Members.{from_append, in_append_left, in_append_right}
use Rattle.qs_clean.specs.declared.links.Link.{Link}
use Rattle.qs_clean.specs.Marks.{IsMarked}
use Rattle.qs_clean.specs.working.Links.{Reaches, here, onward, AreGroups, unmarked, AreMarked}

-- what is marked is within the list
pub marked_within : (marks : List Bool) (n : ℕ) → IsMarked marks n → n < length marks
marked_within [] n e = absurd cc
marked_within (b ∷ marks) zero e = omega arith
marked_within (b ∷ marks) (suc n) e = omega (arith, marked_within marks n e)

-- a mark is set
pub set_still : (marks : List Bool) (k n : ℕ) → IsMarked marks n → IsMarked (set marks k true) n
set_still [] k n e = e
set_still (b ∷ marks) zero zero e = refl
set_still (b ∷ marks) zero (suc n) e = e
set_still (b ∷ marks) (suc k) zero e = e
set_still (b ∷ marks) (suc k) (suc n) e = set_still marks k n e

pub set_marked : (marks : List Bool) (k : ℕ) → k < length marks → IsMarked (set marks k true) k
set_marked [] k l = absurd (omega arith)
set_marked (b ∷ marks) zero l = refl
set_marked (b ∷ marks) (suc k) l = set_marked marks k (omega arith)

pub set_only : (marks : List Bool) (k n : ℕ) → IsMarked (set marks k true) n → IsMarked marks n ⊎ (n ≡ k)
set_only [] k n e = inl e
set_only (b ∷ marks) zero zero e = inr refl
set_only (b ∷ marks) zero (suc n) e = inl e
set_only (b ∷ marks) (suc k) zero e = inl e
set_only (b ∷ marks) (suc k) (suc n) e = ⊎_elim inl (λ s. inr (ap suc s)) (set_only marks k n e)

unmarked-set : (marks : List Bool) (k : ℕ) → k < length marks → get_or marks k false ≡ false → unmarked (set marks k true) + 1 ≡ unmarked marks
unmarked-set [] k l e = absurd (omega arith)
unmarked-set (true ∷ marks) zero l e = absurd cc
unmarked-set (false ∷ marks) zero l e = refl
unmarked-set (true ∷ marks) (suc k) l e = unmarked-set marks k (omega arith) e
unmarked-set (false ∷ marks) (suc k) l e = omega (arith, unmarked-set marks k (omega arith) e)

-- one more target
in_push : (xs : List ℕ) (y n : ℕ) → n ∈ (xs ++ y ∷ []) → (n ∈ xs) ⊎ (n ≡ y)
in_push xs y n i = ⊎_elim inl (λ j. ⊎_elim inr (λ none. absurd none) j) (from_append xs (y ∷ []) n i)

pub none_marked : (marks : List Bool) (waiting : List ℕ) → AreMarked [] marks marks waiting waiting
none_marked marks waiting = record {
  marked = λ n m. inl m;
  still = λ n m. m;
  all = λ n i. absurd i;
  waits = λ n i. inl i;
  still_waits = λ n i. i;
  new_waits = λ n m. inl m;
  work = refl;
}

module _ (targets : List ℕ) (marks new_marks : List Bool) (waiting new_waiting : List ℕ) (a : AreMarked targets marks new_marks waiting new_waiting) (t : ℕ) where
  pub marked_before : IsMarked new_marks t → AreMarked (targets ++ t ∷ []) marks new_marks waiting new_waiting
  marked_before m = record {
    marked = λ n h. ⊎_elim inl (λ i. inr (in_append_left targets (t ∷ []) n i)) (a.marked n h);
    still = a.still;
    all = λ n i. ⊎_elim (a.all n) (λ e. subst (IsMarked new_marks) (sym e) m) (in_push targets t n i);
    waits = λ n i. ⊎_elim inl (λ j. inr (in_append_left targets (t ∷ []) n j)) (a.waits n i);
    still_waits = a.still_waits;
    new_waits = a.new_waits;
    work = a.work;
  }

  last_target : (n : ℕ) → n ≡ t → n ∈ (targets ++ t ∷ [])
  last_target n e = in_append_right targets (t ∷ []) n (inl e)

  last_waits : (n : ℕ) → n ≡ t → n ∈ (new_waiting ++ t ∷ [])
  last_waits n e = in_append_right new_waiting (t ∷ []) n (inl e)

  pub marked_now : t < length new_marks → get_or new_marks t false ≡ false → AreMarked (targets ++ t ∷ []) marks (set new_marks t true) waiting (new_waiting ++ t ∷ [])
  marked_now l e = record {
    marked = λ n h. ⊎_elim
        (λ m. ⊎_elim inl (λ i. inr (in_append_left targets (t ∷ []) n i)) (a.marked n m))
        (λ s. inr (last_target n s))
        (set_only new_marks t n h);
    still = λ n m. set_still new_marks t n (a.still n m);
    all = λ n i. ⊎_elim
        (λ j. set_still new_marks t n (a.all n j))
        (λ s. subst (IsMarked (set new_marks t true)) (sym s) (set_marked new_marks t l))
        (in_push targets t n i);
    waits = λ n i. ⊎_elim
        (λ j. ⊎_elim inl (λ k. inr (in_append_left targets (t ∷ []) n k)) (a.waits n j))
        (λ s. inr (last_target n s))
        (in_push new_waiting t n i);
    still_waits = λ n i. in_append_left new_waiting (t ∷ []) n (a.still_waits n i);
    new_waits = λ n h. ⊎_elim
        (λ m. ⊎_elim inl (λ i. inr (in_append_left new_waiting (t ∷ []) n i)) (a.new_waits n m))
        (λ s. inr (last_waits n s))
        (set_only new_marks t n h);
    work = omega (arith, unmarked-set new_marks t l e, length-append new_waiting (t ∷ []), a.work);
  }

-- what holds while nodes wait
pub record IsExploring (links : List Link) (start : ℕ) (marks : List Bool) (waiting : List ℕ) : Type 0 where
  pub sound : (n : ℕ) → IsMarked marks n → Reaches links start n
  pub begun : IsMarked marks start
  pub waits : (n : ℕ) → n ∈ waiting → IsMarked marks n
  pub closed : (link : Link) → link ∈ links → IsMarked marks link.from → IsMarked marks link.to ⊎ (link.from ∈ waiting)

-- one more link behind others
pub reaches_more : {links : List Link} {a b : ℕ} → Reaches links a b → (link : Link) → link ∈ links → link.from ≡ b → Reaches links a link.to
reaches_more here link i e = onward link i e here
reaches_more (onward first j f r) link i e = onward first j f (reaches_more r link i e)

pub none_of-replicate : (m n : ℕ) → IsMarked (replicate m false) n → ⊥
none_of-replicate zero n e = absurd cc
none_of-replicate (suc m) zero e = absurd cc
none_of-replicate (suc m) (suc n) e = none_of-replicate m n e

pub exploring_start : (links : List Link) (start nodes : ℕ) → start < nodes → IsExploring links start (set (replicate nodes false) start true) (start ∷ [])
exploring_start links start nodes l = record {
  sound = λ n m. ⊎_elim
      (λ h. absurd (none_of-replicate nodes n h))
      (λ e. subst (Reaches links start) (sym e) here)
      (set_only (replicate nodes false) start n m);
  begun = set_marked (replicate nodes false) start (omega (arith, length-replicate nodes false));
  waits = λ n i. ⊎_elim
      (λ e. subst (IsMarked (set (replicate nodes false) start true)) (sym e) (set_marked (replicate nodes false) start (omega (arith, length-replicate nodes false))))
      (λ none. absurd none)
      i;
  closed = λ link i m. ⊎_elim (λ h. absurd (none_of-replicate nodes link.from h)) (λ e. inr (inl e)) (set_only (replicate nodes false) start link.from m);
}

module _ (links : List Link) (start : ℕ) (groups : List (List ℕ)) (g : AreGroups links groups) (marks new_marks : List Bool) (rest new_waiting : List ℕ) (node : ℕ)
    (x : IsExploring links start marks (rest ++ node ∷ [])) where
  node_marked : IsMarked marks node
  node_marked = x.waits node (in_append_right rest (node ∷ []) node (inl refl))

  target_reached : (n : ℕ) → n ∈ get_or groups node [] → Reaches links start n
  target_reached n i =
      let l = g.sound node n i in
      subst (Reaches links start) l.to (reaches_more (x.sound node node_marked) l.link l.is_in l.from)

  pub exploring_on : AreMarked (get_or groups node []) marks new_marks rest new_waiting → IsExploring links start new_marks new_waiting
  exploring_on a = record {
    sound = λ n m. ⊎_elim (x.sound n) (target_reached n) (a.marked n m);
    begun = a.still start x.begun;
    waits = λ n i. ⊎_elim
        (λ j. a.still n (x.waits n (in_append_left rest (node ∷ []) n j)))
        (a.all n)
        (a.waits n i);
    closed = λ link i m. ⊎_elim (old link i) inr (a.new_waits link.from m);
  }
    where
      old : (link : Link) → link ∈ links → IsMarked marks link.from → IsMarked new_marks link.to ⊎ (link.from ∈ new_waiting)
      old link i m = ⊎_elim
          (λ h. inl (a.still link.to h))
          (λ j. ⊎_elim
          (λ k. inr (a.still_waits link.from k))
          (λ e. inl (a.all link.to (subst (λ n. link.to ∈ get_or groups n []) e (g.all link i))))
          (in_push rest node link.from j))
          (x.closed link i m)

-- where no node waits, exactly the nodes to which links lead are marked
module _ (links : List Link) (start : ℕ) (marks : List Bool) (x : IsExploring links start marks []) where
  reached_marked : {a b : ℕ} → Reaches links a b → IsMarked marks a → IsMarked marks b
  reached_marked here m = m
  reached_marked (onward link i e r) m =
      reached_marked r (⊎_elim (λ h. h) (λ none. absurd none) (x.closed link i (subst (IsMarked marks) (sym e) m)))

  pub explored : (n : ℕ) → IsMarked marks n ↔ Reaches links start n
  explored n = (x.sound n, λ r. reached_marked r x.begun)
