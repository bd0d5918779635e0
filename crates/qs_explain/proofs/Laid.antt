-- How the arcs lie that firings add: behind all that stood before, those of the firing's path among them.
use Rattle.std.proofs.Common.{◌≡◌, ◌⊎◌, ℕ, zero, suc, ◌+◌, ◌-◌, ◌<◌, ◌≤◌, Bool, true, false, List, [], ◌∷◌, ◌++◌, length, drop, Option, Some, None, slice_get, unwrap_or, refl, sym, ◌∙◌, ap, subst, inl, inr, ⊎_elim, arith, length-append}
use Rattle.std.specs.Prelude.{if◌then◌else◌, is_some}
use Rattle.std.proofs.lemmas.Bool.{cases_lt}
use Rattle.qs_tree.specs.Lists.{◌∈◌}
use Rattle.qs_pattern.specs.Rules.{Rule, IsAccepted}
use Rattle.qs_graph.specs.Graphs.{QGraph}
use Rattle.qs_graph.specs.Chains.{chain}
use Rattle.qs_graph.proofs.Lines.{length-chain}
use Rattle.qs_graph.proofs.Paths.{leads_low}
use Rattle.qs_firing.specs.Firings.{Firing}
use Rattle.qs_firing.specs.Adding.{start_of, end_of, built, added, adds, met, first_arc, meets, from_on}
use Rattle.qs_firing.proofs.Building.{built_some}
use Rattle.qs_firing.proofs.Merging.{met-adds, unmet-added}
use Rattle.qs_canon.specs.Rounds.{Done, Rounds, Stage, after, after_one}
use Rattle.qs_explain.specs.Support.{next_first, added_first}
use Rattle.qs_explain.proofs.Ranges.{between-from, between-in}

-- the cases of whether a firing met its result
pub met_cases : (d : Done) → (d.met ≡ true) ⊎ (d.met ≡ false)
met_cases d = tested d.met
  where
    tested : (b : Bool) → (b ≡ true) ⊎ (b ≡ false)
    tested true = inl refl
    tested false = inr refl

pub next-met : (arcs : ℕ) (d : Done) (ds : List Done) → d.met ≡ true → next_first arcs (d ∷ ds) ≡ next_first arcs ds
next-met arcs d ds e = ap (λ b. if b then next_first arcs ds else d.first) e

pub next-unmet : (arcs : ℕ) (d : Done) (ds : List Done) → d.met ≡ false → next_first arcs (d ∷ ds) ≡ d.first
next-unmet arcs d ds e = ap (λ b. if b then next_first arcs ds else d.first) e

pub added-met : (arcs : ℕ) (d : Done) (ds : List Done) → d.met ≡ true → added_first arcs (d ∷ ds) ≡ []
added-met arcs d ds e = ap (λ b. if b then [] else from_on d.first (next_first arcs ds - d.first)) e

pub added-unmet : (arcs : ℕ) (d : Done) (ds : List Done) → d.met ≡ false → added_first arcs (d ∷ ds) ≡ from_on d.first (next_first arcs ds - d.first)
added-unmet arcs d ds e = ap (λ b. if b then [] else from_on d.first (next_first arcs ds - d.first)) e

-- one more firing changes nothing for those before it
next-last : (arcs more : ℕ) (ds : List Done) (d : Done) → (d.met ≡ true → more ≡ arcs) → (d.met ≡ false → d.first ≡ arcs) → next_first more (ds ++ d ∷ []) ≡ next_first arcs ds
next-last arcs more [] d m u = ⊎_elim
    (λ e. next-met more d [] e ∙ m e)
    (λ e. next-unmet more d [] e ∙ u e)
    (met_cases d)
next-last arcs more (c ∷ ds) d m u = ap (λ k. if c.met then k else c.first) (next-last arcs more ds d m u)

-- what stands at a place
pub drop_is : (ds : List Done) (i : ℕ) (d : Done) → slice_get ds i ≡ Some d → drop i ds ≡ d ∷ drop (suc i) ds
drop_is [] i d e = absurd cc
drop_is (c ∷ ds) zero d e = let same : c ≡ d = cc in ap (λ x. x ∷ ds) same
drop_is (c ∷ ds) (suc i) d e = drop_is ds i d e

-- a firing that added an arc stands at its place, and met none
pub record Adding (ds : List Done) (i : ℕ) : Type 0 where
  pub done : Done
  pub is : slice_get ds i ≡ Some done
  pub unmet : done.met ≡ false

module _ (arcs : ℕ) where
  pub adding : (ds : List Done) (i k : ℕ) → k ∈ added_first arcs (drop i ds) → Adding ds i
  adding [] zero k j = absurd j
  adding [] (suc i) k j = absurd j
  adding (d ∷ ds) zero k j = ⊎_elim
      (λ e. absurd (subst (λ ks. k ∈ ks) (added-met arcs d ds e) j))
      (λ e. record { done = d; is = refl; unmet = e })
      (met_cases d)
  adding (d ∷ ds) (suc i) k j = let a = adding ds i k j in record { done = a.done; is = a.is; unmet = a.unmet }

  pub none_added : (ds : List Done) (i : ℕ) (d : Done) → slice_get ds i ≡ Some d → d.met ≡ true → added_first arcs (drop i ds) ≡ []
  none_added ds i d e m = ap (added_first arcs) (drop_is ds i d e) ∙ added-met arcs d (drop (suc i) ds) m

module _ (R : List Rule) where
  -- the firing's path lies before its first arc, and it added what it built, up to the next arc
  pub record IsLaid (d : Done) (behind : ℕ) : Type 0 where
    pub path : (k : ℕ) → k ∈ d.firing.path → k < d.first
    pub some : 0 < length (built R d.firing)
    pub many : behind ≡ d.first + length (built R d.firing)

  -- each firing that met none is laid so
  abbrev pub AreLaid : ℕ → List Done → Type 0
  AreLaid arcs [] = Unit {0}
  AreLaid arcs (d ∷ ds) = (d.met ≡ false → IsLaid d (next_first arcs ds)) × AreLaid arcs ds

  laid-last : (arcs more : ℕ) (ds : List Done) (d : Done) → (d.met ≡ true → more ≡ arcs) → (d.met ≡ false → d.first ≡ arcs) → (d.met ≡ false → IsLaid d more) → AreLaid arcs ds → AreLaid more (ds ++ d ∷ [])
  laid-last arcs more [] d m u l h = (l, tt)
  laid-last arcs more (c ∷ ds) d m u l h =
      (λ e. subst (IsLaid c) (sym (next-last arcs more ds d m u)) (h.0 e), laid-last arcs more ds d m u l h.1)

  -- a stage whose firings are laid so behind its first arcs
  pub record LaidFrom (first : ℕ) (S : Stage) : Type 0 where
    pub laid : AreLaid (length S.graph.arcs) S.done
    pub begins : next_first (length S.graph.arcs) S.done ≡ first

  -- what a firing that is done has to show
  record CanBeLaid (arcs : ℕ) (f : Firing) : Type 0 where
    path : (k : ℕ) → k ∈ f.path → k < arcs
    some : 0 < length (built R f)

  module _ (n : ℕ) (S : Stage) (f : Firing) where
    abbrev new : Done
    new = record { firing = f; first = first_arc R S.graph f; round = n; met = meets R S.graph f }

    abbrev arcs : ℕ
    arcs = length S.graph.arcs

    abbrev more : ℕ
    more = length (adds R S.graph f).arcs

    -- what the last firing adds
    record Laying : Type 0 where
      if_met : new.met ≡ true → more ≡ arcs
      unmet : new.met ≡ false → new.first ≡ arcs
      many : new.met ≡ false → more ≡ arcs + length (built R f)

    laying : Laying
    laying = by (met R S.graph f) refl
      where
        by : (o : Option ℕ) → met R S.graph f ≡ o → Laying
        by (Some l) e =
            let is : new.met ≡ true = ap is_some e in
            record {
              if_met = λ _. ap (λ (G : QGraph). length G.arcs) (met-adds R S.graph f l e);
              unmet = λ not. absurd (let p : true ≡ false = sym is ∙ not in cc);
              many = λ not. absurd (let p : true ≡ false = sym is ∙ not in cc);
            }
        by None e =
            let is : new.met ≡ false = ap is_some e in
            let a = start_of S.graph.arcs f.path in
            let b = end_of S.graph.arcs f.path in
            let same = ap (λ ts. length ts) (unmet-added R S.graph f e) in
            record {
              if_met = λ is_met. absurd (let p : true ≡ false = sym is_met ∙ is in cc);
              unmet = λ _. ap (λ o. unwrap_or o arcs) e;
              many = λ _. omega (arith, same, length-append S.graph.arcs (chain a (added R S.graph f) (S.graph.nodes + 1) b), length-chain a (added R S.graph f) (S.graph.nodes + 1) b);
            }

    grows : arcs ≤ more
    grows = ⊎_elim (λ e. omega (arith, laying.if_met e)) (λ e. omega (arith, laying.many e)) (met_cases new)

    one_laid : (first : ℕ) → LaidFrom first S → CanBeLaid arcs f → LaidFrom first (after_one R n S f)
    one_laid first l can = record {
      laid = laid-last arcs more S.done new laying.if_met laying.unmet
          (λ e. let start = laying.unmet e in record {
            path = λ k i. omega (arith, can.path k i);
            some = can.some;
            many = omega (arith, laying.many e);
          })
          l.laid;
      begins = next-last arcs more S.done new laying.if_met laying.unmet ∙ l.begins;
    }

  all_laid : (n first : ℕ) (F : List Firing) (S : Stage) → LaidFrom first S → ((f : Firing) → f ∈ F → CanBeLaid (length S.graph.arcs) f) → LaidFrom first (after R n S F)
  all_laid n first [] S l can = l
  all_laid n first (f ∷ fs) S l can =
      all_laid n first fs (after_one R n S f) (one_laid n S f first l (can f (inl refl)))
      (λ g i. let c = can g (inr i) in record { path = λ k j. omega (arith, c.path k j, grows n S f); some = c.some })

  pub rounds_laid : ((rule : Rule) → rule ∈ R → IsAccepted rule) → (G : QGraph) (n : ℕ) (S : Stage) → Rounds R G n S → LaidFrom (length G.arcs) S
  rounds_laid accepted G zero S e = subst (LaidFrom (length G.arcs)) (sym e) (record { laid = tt; begins = refl })
  rounds_laid accepted G (suc n) S (B, F, b, r, e) =
      subst (LaidFrom (length G.arcs)) (sym e)
      (all_laid (suc n) (length G.arcs) F B (rounds_laid accepted G n B b)
      (λ f i.
      let fires = r.fires f i in
      record { path = leads_low B.graph.arcs fires.from f.path fires.to fires.path.leads; some = built_some R accepted B.graph.arcs f fires }))

  -- what is laid so
  module _ (arcs : ℕ) where
    pub next_low : (ds : List Done) → AreLaid arcs ds → next_first arcs ds ≤ arcs
    next_low [] h = omega arith
    next_low (d ∷ ds) h = ⊎_elim
        (λ e. omega (arith, next-met arcs d ds e, next_low ds h.1))
        (λ e. let l = h.0 e in let m = l.many in omega (arith, next-unmet arcs d ds e, next_low ds h.1))
        (met_cases d)

    pub laid-drop : (i : ℕ) (ds : List Done) → AreLaid arcs ds → AreLaid arcs (drop i ds)
    laid-drop zero ds h = h
    laid-drop (suc i) [] h = h
    laid-drop (suc i) (d ∷ ds) h = laid-drop i ds h.1

    -- what a firing added lies from the next arc on
    pub added-high : (ds : List Done) (j k : ℕ) → AreLaid arcs ds → k ∈ added_first arcs (drop j ds) → next_first arcs ds ≤ k
    added-high [] zero k h i = absurd i
    added-high [] (suc j) k h i = absurd i
    added-high (d ∷ ds) zero k h i = ⊎_elim
        (λ e. absurd (subst (λ ks. k ∈ ks) (added-met arcs d ds e) i))
        (λ e. let r = between-from d.first (next_first arcs ds) k (subst (λ ks. k ∈ ks) (added-unmet arcs d ds e) i) in let low = r.0 in omega (arith, next-unmet arcs d ds e))
        (met_cases d)
    added-high (d ∷ ds) (suc j) k h i =
        let behind = added-high ds j k h.1 i in
        ⊎_elim
        (λ e. omega (arith, next-met arcs d ds e))
        (λ e. let l = h.0 e in let m = l.many in omega (arith, next-unmet arcs d ds e))
        (met_cases d)

    -- and before the end
    pub added-low : (ds : List Done) (j k : ℕ) → AreLaid arcs ds → k ∈ added_first arcs (drop j ds) → k < arcs
    added-low [] zero k h i = absurd i
    added-low [] (suc j) k h i = absurd i
    added-low (d ∷ ds) zero k h i = ⊎_elim
        (λ e. absurd (subst (λ ks. k ∈ ks) (added-met arcs d ds e) i))
        (λ e. let r = between-from d.first (next_first arcs ds) k (subst (λ ks. k ∈ ks) (added-unmet arcs d ds e) i) in let high = r.1 in omega (arith, next_low ds h.1))
        (met_cases d)
    added-low (d ∷ ds) (suc j) k h i = added-low ds j k h.1 i

    -- each arc from the next one on was added
    pub was_added : (ds : List Done) (k : ℕ) → AreLaid arcs ds → next_first arcs ds ≤ k → k < arcs → (i : ℕ) × (k ∈ added_first arcs (drop i ds))
    was_added [] k h low high = absurd (omega arith)
    was_added (d ∷ ds) k h low high = ⊎_elim
        (λ e. let r = was_added ds k h.1 (omega (arith, next-met arcs d ds e)) high in (suc r.0, r.1))
        (λ e. ⊎_elim
        (λ l. (zero, subst (λ ks. k ∈ ks) (sym (added-unmet arcs d ds e)) (between-in d.first (next_first arcs ds) k (omega (arith, next-unmet arcs d ds e), l))))
        (λ l. let r = was_added ds k h.1 l high in (suc r.0, r.1))
        (cases_lt k (next_first arcs ds)))
        (met_cases d)

    -- the path of a firing lies before what it added
    pub path-low : (ds : List Done) (i : ℕ) (d : Done) (k j : ℕ) → AreLaid arcs ds → slice_get ds i ≡ Some d → k ∈ added_first arcs (drop i ds) → j ∈ d.firing.path → j < k
    path-low ds i d k j h e a p =
        let is = drop_is ds i d e in
        let here : AreLaid arcs (d ∷ drop (suc i) ds) = subst (AreLaid arcs) is (laid-drop i ds h) in
        let mine : k ∈ added_first arcs (d ∷ drop (suc i) ds) = subst (λ xs. k ∈ added_first arcs xs) is a in
        ⊎_elim
        (λ m. absurd (subst (λ ks. k ∈ ks) (added-met arcs d (drop (suc i) ds) m) mine))
        (λ u.
        let r = between-from d.first (next_first arcs (drop (suc i) ds)) k (subst (λ ks. k ∈ ks) (added-unmet arcs d (drop (suc i) ds) u) mine) in
        let low = r.0 in
        omega (arith, (here.0 u).path j p))
        (met_cases d)

    -- how many arcs it added
    pub added_are : (ds : List Done) (i : ℕ) (d : Done) → AreLaid arcs ds → slice_get ds i ≡ Some d → d.met ≡ false → added_first arcs (drop i ds) ≡ from_on d.first (length (built R d.firing))
    added_are ds i d h e u =
        let is = drop_is ds i d e in
        let here : AreLaid arcs (d ∷ drop (suc i) ds) = subst (AreLaid arcs) is (laid-drop i ds h) in
        let m = (here.0 u).many in
        let many : next_first arcs (drop (suc i) ds) - d.first ≡ length (built R d.firing) = omega arith in
        ap (added_first arcs) is ∙ added-unmet arcs d (drop (suc i) ds) u ∙ ap (from_on d.first) many
