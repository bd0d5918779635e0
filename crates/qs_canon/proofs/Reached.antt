-- Every graph that grew, by n firings, is carried into what at least n rounds reach.
use Rattle.std.proofs.Common.{◌≡◌, ℕ, zero, suc, ◌≤◌, List, [], ◌∷◌, ◌++◌, length, refl, sym, ◌∙◌, ap, subst, inl, inr, ⊎_elim, ◌⊎◌, arith, length-append}
use Rattle.qs_tree.specs.Lists.{◌∈◌}
use Rattle.qs_tree.proofs.Members.{in_append_left, in_append_right}
use Rattle.qs_pattern.specs.Rules.{Rule}
use Rattle.qs_graph.specs.Graphs.{QGraph}
use Rattle.qs_firing.specs.Firings.{Firing, Fires}
use Rattle.qs_firing.specs.Adding.{adds}
use Rattle.qs_firing.proofs.Within.{IsWithin, arc_stays, within_refl, within_trans, within_adds}
use Rattle.qs_core.specs.Growth.{Grown, DoneAt, AllApart}
use Rattle.qs_core.proofs.Growth.{at_more}
use Rattle.qs_core.proofs.Twins.{HasEnds}
use Rattle.qs_canon.specs.Rounds.{Round, Rounds, Stage, firings, after, after_one}
use Rattle.qs_canon.specs.working.Same.{SameArc, SamePath, SameNode, SameFiring, of_start, of_firing, of_ends, no_arc, and_arc, node_of_start, node_of_firing}
use Rattle.qs_canon.proofs.Histories.{at_of}
use Rattle.qs_canon.proofs.Carried.{Partner, all_arcs, image_over}
use Rattle.qs_canon.proofs.Stages.{firings-after, rounds_grown, rounds_apart}

-- what is the same stays the same when more firings are done
mutual
  pub same_more : {R : List Rule} {G : QGraph} {fs gs : List Firing} {H K : QGraph} (xs ys : List Firing) (H' K' : QGraph) → IsWithin H H' → IsWithin K K' → {k l : ℕ} → SameArc R G fs gs H K k l → SameArc R G (fs ++ xs) (gs ++ ys) H' K' k l
  same_more xs ys H' K' w w' (of_start low e) = of_start low e
  same_more {R = R} {G = G} {fs = fs} {gs = gs} xs ys H' K' w w' (of_firing u f g P Q j fa ga r v p i ke le) =
      of_firing u f g P Q j (at_more R G fs xs f P fa) (at_more R G gs ys g Q ga) r v (same_path_more xs ys H' K' w w' p) i ke le
  same_more xs ys H' K' w w' {k = k} {l = l} (of_ends u a b ai bi kn ln f t tr) =
      of_ends u a b (arc_stays w k a ai) (arc_stays w' l b bi) kn ln (same_node_more xs ys H' K' w w' f) (same_node_more xs ys H' K' w w' t) tr

  pub same_path_more : {R : List Rule} {G : QGraph} {fs gs : List Firing} {H K : QGraph} (xs ys : List Firing) (H' K' : QGraph) → IsWithin H H' → IsWithin K K' → {ks ls : List ℕ} → SamePath R G fs gs H K ks ls → SamePath R G (fs ++ xs) (gs ++ ys) H' K' ks ls
  same_path_more xs ys H' K' w w' no_arc = no_arc
  same_path_more xs ys H' K' w w' (and_arc s t) = and_arc (same_more xs ys H' K' w w' s) (same_path_more xs ys H' K' w w' t)

  pub same_node_more : {R : List Rule} {G : QGraph} {fs gs : List Firing} {H K : QGraph} (xs ys : List Firing) (H' K' : QGraph) → IsWithin H H' → IsWithin K K' → {n m : ℕ} → SameNode R G fs gs H K n m → SameNode R G (fs ++ xs) (gs ++ ys) H' K' n m
  same_node_more xs ys H' K' w w' (node_of_start low e) = node_of_start low e
  same_node_more {R = R} {G = G} {fs = fs} {gs = gs} xs ys H' K' w w' (node_of_firing f g P Q i fa ga r v p some h ne me) =
      node_of_firing f g P Q i (at_more R G fs xs f P fa) (at_more R G gs ys g Q ga) r v (same_path_more xs ys H' K' w w' p) some h ne me

pub after_within : (R : List Rule) (n : ℕ) (S : Stage) (F : List Firing) → IsWithin S.graph (after R n S F).graph
after_within R n S [] = within_refl S.graph S.graph refl
after_within R n S (f ∷ F) = within_trans (within_adds R S.graph f) (after_within R n (after_one R n S f) F)

-- the last of the firings that were done
record Last (R : List Rule) (G : QGraph) (fs : List Firing) (H : QGraph) : Type 0 where
  before : List Firing
  last : Firing
  graph : QGraph
  is : fs ≡ before ++ last ∷ []
  grown : Grown R G before graph
  fires : Fires R graph.arcs last
  within : IsWithin graph H
  at : (f : Firing) (P : QGraph) → DoneAt R G fs f P → DoneAt R G before f P ⊎ ((f ≡ last) × (P ≡ graph))

last_of : (R : List Rule) (G : QGraph) (f : Firing) (fs : List Firing) (H : QGraph) → Grown R G (f ∷ fs) H → Last R G (f ∷ fs) H
last_of R G f [] H (r, e) = record { before = []; last = f; graph = G; is = refl; grown = refl; fires = r; within = within_trans (within_adds R G f) (within_refl (adds R G f) H e); at = λ g P a. ⊎_elim inr (λ b. absurd b) a }
last_of R G f (g ∷ fs) H (r, t) =
    let l = last_of R (adds R G f) g fs H t in
    record {
      before = f ∷ l.before;
      last = l.last;
      graph = l.graph;
      is = ap (λ xs. f ∷ xs) l.is;
      grown = (r, l.grown);
      fires = l.fires;
      within = l.within;
      at = λ h P a. ⊎_elim (λ e. inl (inl e)) (λ b. ⊎_elim (λ d. inl (inr d)) inr (l.at h P b)) a;
    }

module _ (R : List Rule) (G : QGraph) (ends : HasEnds G) where
  -- f has its partner among gs
  record Has (fs gs : List Firing) (H K : QGraph) (f : Firing) : Type 0 where
    other : Firing
    to : QGraph
    at : DoneAt R G gs other to
    same : SameFiring R G fs gs H K f other

  more : (fs gs xs ys : List Firing) (H K H' K' : QGraph) → IsWithin H H' → IsWithin K K' → (f : Firing) → Has fs gs H K f → Has (fs ++ xs) (gs ++ ys) H' K' f
  more fs gs xs ys H K H' K' w w' f h =
      record { other = h.other; to = h.to; at = at_more R G gs ys h.other h.to h.at; same = record { rule = h.same.rule; values = h.same.values; path = same_path_more xs ys H' K' w w' h.same.path } }

  -- all of the firings by which H grew have theirs
  AllHave : List Firing → QGraph → List Firing → QGraph → Type 0
  AllHave fs H gs K = (f : Firing) (P : QGraph) → DoneAt R G fs f P → Has fs gs H K f

  one_round_more : (n : ℕ) (B : Stage) (F : List Firing) → Grown R G (firings B) B.graph → AllApart (firings B) → Round R B.graph (firings B) F
      → (fs : List Firing) (H : QGraph) → (l : Last R G fs H) → AllHave l.before l.graph (firings B) B.graph → (f : Firing) (P : QGraph) → DoneAt R G fs f P → Has (l.before ++ l.last ∷ []) (firings B ++ F) H (after R n B F).graph f
  unfolding AllHave
  one_round_more n B F grown once r fs H l have f P at = ⊎_elim
      (λ a. more l.before (firings B) (l.last ∷ []) F l.graph B.graph H (after R n B F).graph l.within (after_within R n B F) f (have f P a))
      (λ (e, p). subst (Has (l.before ++ l.last ∷ []) (firings B ++ F) H (after R n B F).graph) (sym e) new)
      (l.at f P at)
    where
      partners : (g : Firing) (Q : QGraph) → DoneAt R G l.before g Q → Partner R G ends l.before (firings B) l.graph B.graph l.grown grown once g
      partners g Q a = let h = have g Q a in record { other = h.other; to = h.to; at = h.at; same = h.same }

      new : Has (l.before ++ l.last ∷ []) (firings B ++ F) H (after R n B F).graph l.last
      new =
          let x = image_over R G ends l.before (firings B) l.graph B.graph l.grown grown once l.last l.graph (within_refl l.graph l.graph refl) l.fires
          (all_arcs R G ends l.before (firings B) l.graph B.graph l.grown grown once partners) in
          let g : Firing = record { rule = l.last.rule; path = x.path; values = l.last.values } in
          let i : g ∈ (firings B ++ F) = ⊎_elim (in_append_left (firings B) F g) (in_append_right (firings B) F g) (r.all g x.fires) in
          let (Q, a) = at_of R G (firings B ++ F) g i in
          record { other = g; to = Q; at = a; same = record { rule = refl; values = refl; path = same_path_more (l.last ∷ []) F H (after R n B F).graph l.within (after_within R n B F) x.same } }

  reached : (n : ℕ) (S : Stage) → Rounds R G n S → (fs : List Firing) (H : QGraph) → Grown R G fs H → length fs ≤ n → AllHave fs H (firings S) S.graph
  unfolding AllHave
  reached zero S s fs H grown h = none fs h
    where
      none : (fs : List Firing) → length fs ≤ 0 → (f : Firing) (P : QGraph) → DoneAt R G fs f P → Has fs (firings S) H S.graph f
      none [] h f P a = absurd a
      none (x ∷ fs) h f P a = absurd (omega arith)
  reached (suc n) S (B, F, b, r, e) fs H grown h = some (reached n B b) fs grown h
    where
      some : ((xs : List Firing) (X : QGraph) → Grown R G xs X → length xs ≤ n → AllHave xs X (firings B) B.graph) → (fs : List Firing) → Grown R G fs H → length fs ≤ suc n → (f : Firing) (P : QGraph) → DoneAt R G fs f P → Has fs (firings S) H S.graph f
      some ih [] grown h f P a = absurd a
      some ih (x ∷ fs) grown h f P a =
          let l = last_of R G x fs H grown in
          let low : length l.before ≤ n = omega (arith, ap length l.is, length-append l.before (l.last ∷ [])) in
          let g : firings B ++ F ≡ firings S = sym (firings-after R (suc n) B F) ∙ ap firings (sym e) in
          subst (λ xs. Has xs (firings S) H S.graph f) (sym l.is)
          (subst (λ gs. Has (l.before ++ l.last ∷ []) gs H S.graph f) g
          (subst (λ (X : Stage). Has (l.before ++ l.last ∷ []) (firings B ++ F) H X.graph f) (sym e)
          (one_round_more (suc n) B F (rounds_grown R G n B b) (rounds_apart R G n B b) r (x ∷ fs) H l (ih l.before l.graph l.grown low) f P a)))

  pub reached_partners : (n : ℕ) (S : Stage) (s : Rounds R G n S) (fs : List Firing) (H : QGraph) (grown : Grown R G fs H) → length fs ≤ n
      → (f : Firing) (P : QGraph) → DoneAt R G fs f P → Partner R G ends fs (firings S) H S.graph grown (rounds_grown R G n S s) (rounds_apart R G n S s) f
  unfolding AllHave
  reached_partners n S s fs H grown h f P at = let p = reached n S s fs H grown h f P at in record { other = p.other; to = p.to; at = p.at; same = p.same }
