-- The closure found from the recorded firings of a graph over which all firings are done, with tables of numbers in place
-- of a search.
use Rattle.std.proofs.Common.{◌≡◌, ℕ, zero, suc, ◌+◌, ◌-◌, ◌<◌, ◌≤◌, Bool, true, false, List, [], ◌∷◌, ◌++◌, length, refl, sym, ◌∙◌, ap, subst, inl, inr, ⊎_elim, ◌⊎◌, arith, Option, Some, None, eqb, eqb-true, eq-eqb, append-nil, append_assoc}
use Rattle.std.specs.Prelude.{◌↔◌, if◌then◌else◌, ltb, leb}
use Rattle.std.proofs.lemmas.Option.{slice_get_within}
use Rattle.std.proofs.lemmas.Bool.{cases_lt, ltb-true, ltb-false, leb-true, leb-false}
use Rattle.qs_tree.specs.Lists.{◌∈◌}
use Rattle.qs_tree.proofs.Members.{in_append_left, in_append_right, from_append}
use Rattle.qs_pattern.specs.Rules.{Rule}
use Rattle.qs_graph.specs.Graphs.{Arc, QGraph}
use Rattle.qs_firing.specs.Firings.{Firing, Fires}
use Rattle.qs_firing.specs.Adding.{adds, met, from_on, result_by, result_arcs, start_of, end_of}
use Rattle.qs_firing.proofs.Merging.{arc, least_is, meeting}
use Rattle.qs_firing.proofs.Within.{within_trans, within_adds, within_refl, fires_stays, leads_stays, length-adds}
use Rattle.qs_core.specs.Growth.{Grown, DoneAt, AllApart}
use Rattle.qs_core.proofs.Growth.{at_last, grown_more, apart_more, start_is, end_is}
use Rattle.qs_core.proofs.Twins.{HasEnds, valid_ends, no_twins}
use Rattle.qs_canon.specs.Rounds.{Round, Rounds, Stage, firings, after, after_one, Closes}
use Rattle.qs_canon.specs.Carrying.{AreSame}
use Rattle.qs_canon.specs.working.Same.{width, SameArc, SamePath, SameNode, SameFiring, of_start, of_firing, of_ends, no_arc, and_arc, node_of_start, node_of_firing}
use Rattle.qs_canon.specs.working.CanonTables.{IsNextOf, IsRecorded, Table, opening_table, opening_nodes, new_nodes, IsNodeTable, numbered, AreNumbered, IsTable, in_numbers, IsNextBy, IsUnderWay}
use Rattle.qs_canon.proofs.Histories.{stands, at_of, in_of, adding}
use Rattle.qs_canon.proofs.Same.{one_arc, one_node, turned_arc, turned_path, turned_node, turned_firing}
use Rattle.qs_canon.proofs.Carried.{all_arcs, all_nodes, carried_fires, carried_start, carried_path, same_length, closed_partners, image_over, same_results, Partner}
use Rattle.qs_canon.proofs.Reached.{same_more, same_node_more, after_within}
use Rattle.qs_canon.proofs.Stages.{rounds_grown, rounds_apart, firings-one, firings-after, grown_after, closes_all}
use Rattle.qs_canon.proofs.Law.{arc_low, node_low, are_same_with, no_more}
use Rattle.qs_canon.proofs.Counting.{fewer_numbers, from_in}
use Rattle.qs_graph.proofs.Paths.{leads_low}

module _ (R : List Rule) (G : QGraph) (ends : (arc : Arc) → arc ∈ G.arcs → (arc.from ≤ G.nodes) × (arc.to ≤ G.nodes))
    (fs : List Firing) (H : QGraph) (grown : Grown R G fs H) (once : AllApart fs) (closed : (f : Firing) → Fires R H.arcs f → f ∈ fs)
    (n : ℕ) (S : Stage) (reached : Rounds R G n S) where
  pub next_round : (F : List Firing) → IsNextOf R G fs H S F → Round R S.graph (firings S) F
  next_round F x = record { ascends = x.ascends; fires = fires; new = x.new; all = all }
    where
      fires : (h : Firing) → h ∈ F → Fires R S.graph.arcs h
      fires h i =
          let (f, j, s) = x.recorded h i in
          let (P, at) = at_of R G fs f j in
          let t = stands R G fs H f P grown at in
          let q = carried_fires R G ends fs (firings S) H S.graph grown (rounds_grown R G n S reached) (rounds_apart R G n S reached) f (fires_stays R (within_trans (within_adds R P f) t.after) t.fires) h.path s.path in
          let e : record { rule = f.rule; path = h.path; values = f.values } ≡ h = (λ i. record { rule = s.rule i; path = h.path; values = s.values i }) in
          subst (Fires R S.graph.arcs) e q

      all : (h : Firing) → Fires R S.graph.arcs h → (h ∈ firings S) ⊎ (h ∈ F)
      all h r =
          let g = rounds_grown R G n S reached in
          let y = image_over R G ends (firings S) fs S.graph H g grown once h S.graph (within_refl S.graph S.graph refl) r
          (all_arcs R G ends (firings S) fs S.graph H g grown once (closed_partners R G ends (firings S) fs S.graph H g grown once closed)) in
          let s : SameFiring R G (firings S) fs S.graph H h (record { rule = h.rule; path = y.path; values = h.values }) = record { rule = refl; values = refl; path = y.same } in
          x.all (record { rule = h.rule; path = y.path; values = h.values }) h (closed (record { rule = h.rule; path = y.path; values = h.values }) y.fires) (turned_firing s)

-- numbers given in order
module _ (Rel : ℕ → ℕ → Type 0) where
  abbrev pub Each : List ℕ → List ℕ → Type 0
  Each [] [] = Unit {0}
  Each (k ∷ ks) (l ∷ ls) = Rel k l × Each ks ls
  Each _ _ = ⊥

  -- what is in the table behind it was in it, or was given
  pub numbered_sound : (ks ls : List ℕ) (T : Table) → Each ks ls → ((k l : ℕ) → T k ≡ Some l → Rel k l) → (k l : ℕ) → numbered ks ls T k ≡ Some l → Rel k l
  numbered_sound [] ls T e old k l is = old k l is
  numbered_sound (m ∷ ks) [] T e old k l is = absurd e
  numbered_sound (m ∷ ks) (n ∷ ls) T (r, e) old k l is = numbered_sound ks ls (λ x. if eqb x m then Some n else T x) e (λ x y h. tested x y (eqb x m) refl h) k l is
    where
      tested : (x y : ℕ) (b : Bool) → eqb x m ≡ b → (if b then Some n else T x) ≡ Some y → Rel x y
      tested x y true t h = let p = eqb-true x m t in let q : n ≡ y = cc in subst (λ z. Rel z y) (sym p) (subst (Rel m) q r)
      tested x y false t h = old x y h

  module _ (one : (k l m : ℕ) → Rel k l → Rel k m → l ≡ m) where
    pub numbered_keeps : (ks ls : List ℕ) (T : Table) → Each ks ls → (k l : ℕ) → T k ≡ Some l → Rel k l → numbered ks ls T k ≡ Some l
    numbered_keeps [] ls T e k l is r = is
    numbered_keeps (m ∷ ks) [] T e k l is r = absurd e
    numbered_keeps (m ∷ ks) (n ∷ ls) T (s, e) k l is r = numbered_keeps ks ls (λ x. if eqb x m then Some n else T x) e k l (tested (eqb k m) refl) r
      where
        tested : (b : Bool) → eqb k m ≡ b → (if b then Some n else T k) ≡ Some l
        tested true t = let p = eqb-true k m t in ap Some (one k n l (subst (λ z. Rel z n) (sym p) s) r)
        tested false t = is

    pub numbered_new : ((k m l : ℕ) → Rel k l → Rel m l → k ≡ m) → (ks ls : List ℕ) (T : Table) → Each ks ls → (k l : ℕ) → l ∈ ls → Rel k l → numbered ks ls T k ≡ Some l
    numbered_new apart [] [] T e k l i r = absurd i
    numbered_new apart [] (n ∷ ls) T e k l i r = absurd e
    numbered_new apart (m ∷ ks) [] T e k l i r = absurd e
    numbered_new apart (m ∷ ks) (n ∷ ls) T (s, e) k l (inr i) r = numbered_new apart ks ls (λ x. if eqb x m then Some n else T x) e k l i r
    numbered_new apart (m ∷ ks) (n ∷ ls) T (s, e) k l (inl d) r =
        let p : k ≡ m = apart k m l r (subst (Rel m) (sym d) s) in
        numbered_keeps ks ls (λ x. if eqb x m then Some n else T x) e k l (ap (λ b. if b then Some n else T k) (eq-eqb k m p) ∙ ap Some (sym d)) r

each_from_on : (Rel : ℕ → ℕ → Type 0) (m n n' : ℕ) → ((j : ℕ) → j < m → Rel (n + j) (n' + j)) → Each Rel (from_on n m) (from_on n' m)
each_from_on Rel zero n n' all = tt
each_from_on Rel (suc m) n n' all =
    let e : n + 0 ≡ n = omega arith in
    let e' : n' + 0 ≡ n' = omega arith in (
      subst (λ x. Rel x n') e (subst (λ x. Rel (n + 0) x) e' (all 0 (omega arith))),
      each_from_on Rel m (n + 1) (n' + 1) (λ j h.
          let d : n + suc j ≡ n + 1 + j = omega arith in
          let d' : n' + suc j ≡ n' + 1 + j = omega arith in
          subst (λ x. Rel x (n' + 1 + j)) d (subst (λ x. Rel (n + suc j) x) d' (all (suc j) (omega arith)))),
    )

each_at : (Rel : ℕ → ℕ → Type 0) (m n n' : ℕ) → Each Rel (from_on n m) (from_on n' m) → (j : ℕ) → j < m → Rel (n + j) (n' + j)
each_at Rel zero n n' e j h = absurd (omega arith)
each_at Rel (suc m) n n' (r, e) zero h =
    let d : n ≡ n + 0 = omega arith in
    let d' : n' ≡ n' + 0 = omega arith in
    subst (λ x. Rel x (n' + 0)) d (subst (λ x. Rel n x) d' r)
each_at Rel (suc m) n n' (r, e) (suc j) h =
    let d : n + 1 + j ≡ n + suc j = omega arith in
    let d' : n' + 1 + j ≡ n' + suc j = omega arith in
    subst (λ x. Rel x (n' + suc j)) d (subst (λ x. Rel (n + 1 + j) x) d' (each_at Rel m (n + 1) (n' + 1) e j (omega arith)))

path_each : {R : List Rule} {G : QGraph} {fs gs : List Firing} {H K : QGraph} {ks ls : List ℕ} → SamePath R G fs gs H K ks ls → Each (SameArc R G fs gs H K) ks ls
path_each no_arc = tt
path_each (and_arc s t) = (s, path_each t)

-- at first the start's arcs have their own numbers
pub table_opening : (R : List Rule) (G : QGraph) (fs : List Firing) (H : QGraph) → IsTable R G fs H [] G (opening_table G)
table_opening R G fs H k l = (tested (ltb k (length G.arcs)) refl, back)
  where
    tested : (b : Bool) → ltb k (length G.arcs) ≡ b → (if b then Some k else None) ≡ Some l → SameArc R G fs [] H G k l
    tested true t e = of_start (ltb-true k (length G.arcs) t) cc
    tested false t e = absurd cc

    low : (k l : ℕ) → k < length G.arcs → k ≡ l → (b : Bool) → ltb k (length G.arcs) ≡ b → (if b then Some k else None) ≡ Some l
    low k l h e true t = ap Some e
    low k l h e false t = let g = ltb-false k (length G.arcs) t in absurd (omega arith)

    back : {k l : ℕ} → SameArc R G fs [] H G k l → opening_table G k ≡ Some l
    back {k = k} {l = l} (of_start h e) = low k l h e (ltb k (length G.arcs)) refl
    back (of_firing u f g P Q j fa ga r v p w ke le) = absurd ga
    back {l = l} (of_ends u a b ai bi kn ln f t tr) = absurd (omega (arith, slice_get_within G.arcs l b bi))

pub nodes_opening : (R : List Rule) (G : QGraph) (fs : List Firing) (H : QGraph) → IsNodeTable R G fs H [] G (opening_nodes G)
nodes_opening R G fs H n m = (tested (leb n G.nodes) refl, back)
  where
    tested : (b : Bool) → leb n G.nodes ≡ b → (if b then Some n else None) ≡ Some m → SameNode R G fs [] H G n m
    tested true t e = node_of_start (leb-true n G.nodes t) cc
    tested false t e = absurd cc

    low : (n m : ℕ) → n ≤ G.nodes → n ≡ m → (b : Bool) → leb n G.nodes ≡ b → (if b then Some n else None) ≡ Some m
    low n m h e true t = ap Some e
    low n m h e false t = let g = leb-false n G.nodes t in absurd (omega arith)

    back : {n m : ℕ} → SameNode R G fs [] H G n m → opening_nodes G n ≡ Some m
    back {n = n} {m = m} (node_of_start h e) = low n m h e (leb n G.nodes) refl
    back (node_of_firing f g P Q i fa ga r v p some w ne me) = absurd ga

-- a part of the closure: K grew by gs, and everything in it is in H
module _ (R : List Rule) (G : QGraph) (fs : List Firing) (H : QGraph) (X : IsRecorded R G fs H) (gs : List Firing) (K : QGraph) (grown' : Grown R G gs K) (once' : AllApart gs) where
  ends : HasEnds G
  ends = valid_ends X.valid

  back_partners : (f : Firing) (P : QGraph) → DoneAt R G gs f P → Partner R G ends gs fs K H grown' X.grown X.once f
  back_partners = closed_partners R G ends gs fs K H grown' X.grown X.once X.closed

  -- each arc of K is one of H
  back_arc : (l : ℕ) → l < length K.arcs → (k : ℕ) × SameArc R G fs gs H K k l
  back_arc l h = let (k, s) = all_arcs R G ends gs fs K H grown' X.grown X.once back_partners l h in (k, turned_arc s)

  one_there : (k l m : ℕ) → SameArc R G fs gs H K k l → SameArc R G fs gs H K k m → l ≡ m
  one_there k l m s t = one_arc R G fs gs H K X.grown once' (λ u. no_twins R G ends u gs K grown') s t

  one_back : (k m l : ℕ) → SameArc R G fs gs H K k l → SameArc R G fs gs H K m l → k ≡ m
  one_back k m l s t = one_arc R G gs fs K H grown' X.once (λ u. no_twins R G ends u fs H X.grown) (turned_arc s) (turned_arc t)

  back_node : (m : ℕ) → m ≤ K.nodes → (n : ℕ) × SameNode R G fs gs H K n m
  back_node m h = let (n, s) = all_nodes R G ends gs fs K H grown' X.grown X.once back_partners m h in (n, turned_node s)

  pub few : length gs ≤ length fs
  few = no_more R G ends gs fs K H grown' X.grown once' X.once back_partners

  pub few_arcs : length K.arcs ≤ length H.arcs
  few_arcs = fewer_numbers (λ l k. SameArc R G fs gs H K k l) (λ l m k s t. one_there k l m s t) (length K.arcs) (length H.arcs)
      (λ l h. let (k, s) = back_arc l h in (k, arc_low R G fs gs H K X.grown s, s))

  pub few_nodes : K.nodes ≤ H.nodes
  few_nodes =
      let h = fewer_numbers (λ m n. SameNode R G fs gs H K n m) (λ m l n s t. one_node R G fs gs H K X.grown once' (λ u. no_twins R G ends u gs K grown') s t) (K.nodes + 1) (H.nodes + 1)
      (λ m h. let (n, s) = back_node m (omega arith) in let low = node_low R G fs gs H K X.grown s in (n, omega (arith, low), s)) in
      omega (arith, h)

  module _ (T : Table) (table : IsTable R G fs H gs K T) where
    pub path_of : (ks ls : List ℕ) → AreNumbered T ks ls → SamePath R G fs gs H K ks ls
    path_of [] [] a = no_arc
    path_of [] (l ∷ ls) a = absurd a
    path_of (k ∷ ks) [] a = absurd a
    path_of (k ∷ ks) (l ∷ ls) (e, a) = and_arc ((table k l).0 e) (path_of ks ls a)

    pub numbers_of : {ks ls : List ℕ} → SamePath R G fs gs H K ks ls → AreNumbered T ks ls
    numbers_of no_arc = tt
    numbers_of (and_arc {k = k} {l = l} s t) = ((table k l).1 s, numbers_of t)

    -- a recorded firing, with its path in numbers, fires over K
    pub numbered_fires : (f : Firing) (ls : List ℕ) → f ∈ fs → AreNumbered T f.path ls → Fires R K.arcs (in_numbers f ls)
    numbered_fires f ls i a =
        let (P, at) = at_of R G fs f i in
        let t = stands R G fs H f P X.grown at in
        carried_fires R G ends fs gs H K X.grown grown' once' f (fires_stays R (within_trans (within_adds R P f) t.after) t.fires) ls (path_of f.path ls a)

    -- one firing more
    module _ (f : Firing) (P : QGraph) (fa : DoneAt R G fs f P) (ls : List ℕ) (a : AreNumbered T f.path ls) (new : in_numbers f ls ∈ gs → ⊥) where
      abbrev g : Firing
      g = in_numbers f ls

      abbrev more : List Firing
      more = gs ++ g ∷ []

      abbrev K' : QGraph
      K' = adds R K g

      pub grown'' : Grown R G more K'
      grown'' = grown_more R G gs K g grown' (numbered_fires f ls (in_of R G fs f P fa) a)

      pub once'' : AllApart more
      once'' = apart_more gs g once' new

      g_at : DoneAt R G more g K
      g_at = at_last R G gs K g grown'

      stays : {k l : ℕ} → SameArc R G fs gs H K k l → SameArc R G fs more H K' k l
      stays {k = k} {l = l} s = subst (λ xs. SameArc R G xs more H K' k l) (append-nil fs) (same_more [] (g ∷ []) H K' (within_refl H H refl) (within_adds R K g) s)

      stay : {ks ms : List ℕ} → SamePath R G fs gs H K ks ms → SamePath R G fs more H K' ks ms
      stay no_arc = no_arc
      stay (and_arc s t) = and_arc (stays s) (stay t)

      same : SameFiring R G fs more H K' f g
      same = record { rule = refl; values = refl; path = stay (path_of f.path ls a) }

      pub results : SamePath R G fs more H K' (result_arcs R P f) (result_arcs R K g)
      results = same_results R G ends fs more H K' X.grown grown'' once'' f g P K fa g_at same

      one' : (k l m : ℕ) → SameArc R G fs more H K' k l → SameArc R G fs more H K' k m → l ≡ m
      one' k l m s t = one_arc R G fs more H K' X.grown once'' (λ u. no_twins R G ends u more K' grown'') s t

      apart' : (k m l : ℕ) → SameArc R G fs more H K' k l → SameArc R G fs more H K' m l → k ≡ m
      apart' k m l s t = one_arc R G more fs K' H grown'' X.once (λ u. no_twins R G ends u fs H X.grown) (turned_arc s) (turned_arc t)

      stays_node : {n m : ℕ} → SameNode R G fs gs H K n m → SameNode R G fs more H K' n m
      stays_node {n = n} {m = m} s = subst (λ xs. SameNode R G xs more H K' n m) (append-nil fs) (same_node_more [] (g ∷ []) H K' (within_refl H H refl) (within_adds R K g) s)

      one_n : (n m l : ℕ) → SameNode R G fs more H K' n m → SameNode R G fs more H K' n l → m ≡ l
      one_n n m l s t = one_node R G fs more H K' X.grown once'' (λ u. no_twins R G ends u more K' grown'') s t

      apart_n : (n l m : ℕ) → SameNode R G fs more H K' n m → SameNode R G fs more H K' l m → n ≡ l
      apart_n n l m s t = one_node R G more fs K' H grown'' X.once (λ u. no_twins R G ends u fs H X.grown) (turned_node s) (turned_node t)

      each_new : Each (SameNode R G fs more H K') (new_nodes R P f) (new_nodes R K g)
      each_new = each_from_on (SameNode R G fs more H K') (width R f - 1) (P.nodes + 1) (K.nodes + 1)
          (λ j h. node_of_firing f g P K (j + 1) fa g_at refl refl (stay (path_of f.path ls a)) (omega arith) (omega arith) (omega arith) (omega arith))

      -- the ends of its path
      pub same_ends : SameNode R G fs gs H K (start_of P.arcs f.path) (start_of K.arcs g.path) × SameNode R G fs gs H K (end_of P.arcs f.path) (end_of K.arcs g.path)
      same_ends =
          let s = stands R G fs H f P X.grown fa in
          let leads = leads_stays (within_trans (within_adds R P f) s.after) s.fires.from f.path s.fires.to s.fires.path.leads in
          let p = path_of f.path ls a in
          let (a', sa) = carried_start R G ends fs gs H K X.grown grown' once' p s.fires.from s.fires.to s.fires.path.some leads in
          let c = carried_path R G ends fs gs H K X.grown grown' once' p s.fires.from a' s.fires.to sa leads in
          let some : 0 < length ls = omega (arith, same_length p, s.fires.path.some) in
          let ea = start_is P.arcs s.fires.from f.path s.fires.to s.fires.path in
          let eb = end_is P.arcs s.fires.from f.path s.fires.to s.fires.path in
          let ea' = start_is K.arcs a' ls c.end (record { some = some; leads = c.leads }) in
          let eb' = end_is K.arcs a' ls c.end (record { some = some; leads = c.leads }) in (
            subst (λ x. SameNode R G fs gs H K x (start_of K.arcs ls)) (sym ea) (subst (λ x. SameNode R G fs gs H K s.fires.from x) (sym ea') sa),
            subst (λ x. SameNode R G fs gs H K x (end_of K.arcs ls)) (sym eb) (subst (λ x. SameNode R G fs gs H K s.fires.to x) (sym eb') c.same),
          )

      -- none of its nodes has a number yet
      pub fresh_nodes : (N : Table) → IsNodeTable R G fs H gs K N → (j m : ℕ) → j + 1 < width R f → N (P.nodes + 1 + j) ≡ Some m → ⊥
      fresh_nodes N nodes j m h e =
          let s = (nodes (P.nodes + 1 + j) m).0 e in
          let low : m ≤ K.nodes = node_low R G gs fs K H grown' (turned_node s) in
          let d = one_n (P.nodes + 1 + j) m (K.nodes + 1 + j) (stays_node s) (each_at (SameNode R G fs more H K') (width R f - 1) (P.nodes + 1) (K.nodes + 1) each_new j (omega (arith, h))) in
          omega (arith, low, d)

      -- its nodes get their numbers
      pub nodes_more : (N : Table) → IsNodeTable R G fs H gs K N → IsNodeTable R G fs H more K' (numbered (new_nodes R P f) (new_nodes R K g) N)
      nodes_more N nodes n m = (there, λ s. back s (cases_lt K.nodes m))
        where
          had_node : SameNode R G fs more H K' n m → m ≤ K.nodes → N n ≡ Some m
          had_node s h =
              let (n0, s0) = back_node m h in
              let e : n0 ≡ n = apart_n n0 n m (stays_node s0) s in
              subst (λ x. N x ≡ Some m) e ((nodes n0 m).1 s0)

          there : numbered (new_nodes R P f) (new_nodes R K g) N n ≡ Some m → SameNode R G fs more H K' n m
          there e = numbered_sound (SameNode R G fs more H K') (new_nodes R P f) (new_nodes R K g) N each_new (λ x y h. stays_node ((nodes x y).0 h)) n m e

          back : SameNode R G fs more H K' n m → (K.nodes < m) ⊎ (m ≤ K.nodes) → numbered (new_nodes R P f) (new_nodes R K g) N n ≡ Some m
          back s (inr low) = numbered_keeps (SameNode R G fs more H K') one_n (new_nodes R P f) (new_nodes R K g) N each_new n m (had_node s low) s
          back s (inl high) =
              let low : m ≤ K'.nodes = node_low R G more fs K' H grown'' (turned_node s) in
              let (u, w) = adding R K g (m - K.nodes) (omega arith) in
              let me : K.nodes + 1 + (m - K.nodes - 1) ≡ m = omega arith in
              let i : m ∈ new_nodes R K g = subst (λ x. x ∈ new_nodes R K g) me (from_in (K.nodes + 1) (width R g - 1) (m - K.nodes - 1) (omega arith)) in
              numbered_new (SameNode R G fs more H K') one_n apart_n (new_nodes R P f) (new_nodes R K g) N each_new n m i s

      -- an arc with the number of one of K had that number
      had : (k l : ℕ) → SameArc R G fs more H K' k l → l < length K.arcs → T k ≡ Some l
      had k l s h =
          let (k0, s0) = back_arc l h in
          let e : k0 ≡ k = apart' k0 k l (stays s0) s in
          subst (λ x. T x ≡ Some l) e ((table k0 l).1 s0)

      -- it counts as met exactly where its one result has a number
      pub met_is : (l : ℕ) → (met R K g ≡ Some l) ↔ ((k : ℕ) × (result_arcs R P f ≡ k ∷ []) × (T k ≡ Some l))
      met_is l = (there, back)
        where
          there : met R K g ≡ Some l → (k : ℕ) × (result_arcs R P f ≡ k ∷ []) × (T k ≡ Some l)
          there e =
              let x = meeting R K g l e in
              let low = slice_get_within K.arcs l (arc (start_of K.arcs g.path) (end_of K.arcs g.path) x.tree) (least_is K.arcs (start_of K.arcs g.path) (end_of K.arcs g.path) x.tree l x.least) in
              split (subst (λ o. SamePath R G fs more H K' (result_arcs R P f) (result_by o (length K.arcs) (width R g))) e results) low
            where
              split : {ks : List ℕ} → SamePath R G fs more H K' ks (l ∷ []) → l < length K.arcs → (k : ℕ) × (ks ≡ k ∷ []) × (T k ≡ Some l)
              split (and_arc {k = k} s no_arc) low = (k, refl, had k l s low)

          back : ((k : ℕ) × (result_arcs R P f ≡ k ∷ []) × (T k ≡ Some l)) → met R K g ≡ Some l
          back (k, e, t) =
              let s = (table k l).0 t in
              let low : l < length K.arcs = arc_low R G gs fs K H grown' (turned_arc s) in
              tested (met R K g) refl (subst (λ ks. SamePath R G fs more H K' ks (result_arcs R K g)) e results) (stays s) low
            where
              single : {ms : List ℕ} → SamePath R G fs more H K' (k ∷ []) ms → SameArc R G fs more H K' k l → ms ≡ l ∷ []
              single (and_arc {l = m} s no_arc) s' = ap (λ x. x ∷ []) (one' k m l s s')

              first : (n m : ℕ) → from_on n m ≡ l ∷ [] → n ≡ l
              first n zero e = absurd cc
              first n (suc m) e = cc

              tested : (o : Option ℕ) → met R K g ≡ o → SamePath R G fs more H K' (k ∷ []) (result_arcs R K g) → SameArc R G fs more H K' k l → l < length K.arcs → met R K g ≡ Some l
              tested (Some m) d p s low =
                  let q : m ∷ [] ≡ l ∷ [] = sym (ap (λ o. result_by o (length K.arcs) (width R g)) d) ∙ single p s in
                  let z : m ≡ l = cc in
                  d ∙ ap Some z
              tested None d p s low =
                  let q : from_on (length K.arcs) (width R g) ≡ l ∷ [] = sym (ap (λ o. result_by o (length K.arcs) (width R g)) d) ∙ single p s in
                  absurd (omega (arith, first (length K.arcs) (width R g) q))

      -- where it meets none, none of its results has a number yet
      pub fresh_arcs : met R K g ≡ None → (first : ℕ) → result_arcs R P f ≡ from_on first (width R f) → (j l : ℕ) → j < width R f → T (first + j) ≡ Some l → ⊥
      fresh_arcs u first is j l h e =
          let s = (table (first + j) l).0 e in
          let low : l < length K.arcs = arc_low R G gs fs K H grown' (turned_arc s) in
          let is' : result_arcs R K g ≡ from_on (length K.arcs) (width R f) = ap (λ o. result_by o (length K.arcs) (width R g)) u in
          let p = subst (λ ks. SamePath R G fs more H K' ks (from_on (length K.arcs) (width R f))) is (subst (λ ls. SamePath R G fs more H K' (result_arcs R P f) ls) is' results) in
          let d = one' (first + j) l (length K.arcs + j) (stays s) (each_at (SameArc R G fs more H K') (width R f) first (length K.arcs) (path_each p) j h) in
          omega (arith, low, d)

      -- its results get their numbers
      pub table_more : IsTable R G fs H more K' (numbered (result_arcs R P f) (result_arcs R K g) T)
      table_more k l = (there, λ s. back s (cases_lt l (length K.arcs)))
        where
          there : numbered (result_arcs R P f) (result_arcs R K g) T k ≡ Some l → SameArc R G fs more H K' k l
          there e = numbered_sound (SameArc R G fs more H K') (result_arcs R P f) (result_arcs R K g) T (path_each results) (λ x y h. stays ((table x y).0 h)) k l e

          back : SameArc R G fs more H K' k l → (l < length K.arcs) ⊎ (length K.arcs ≤ l) → numbered (result_arcs R P f) (result_arcs R K g) T k ≡ Some l
          back s (inl low) = numbered_keeps (SameArc R G fs more H K') one' (result_arcs R P f) (result_arcs R K g) T (path_each results) k l (had k l s low) s
          back s (inr high) =
              let low : l < length K'.arcs = arc_low R G more fs K' H grown'' (turned_arc s) in
              let (u, w) = adding R K g (l - length K.arcs) (omega (arith, length-adds R K g)) in
              let le : length K.arcs + (l - length K.arcs) ≡ l = omega arith in
              let i : l ∈ from_on (length K.arcs) (width R g) = subst (λ x. x ∈ from_on (length K.arcs) (width R g)) le (from_in (length K.arcs) (width R g) (l - length K.arcs) w) in
              let j : l ∈ result_arcs R K g = subst (λ xs. l ∈ xs) (sym (ap (λ o. result_by o (length K.arcs) (width R g)) u)) i in
              numbered_new (SameArc R G fs more H K') one' apart' (result_arcs R P f) (result_arcs R K g) T (path_each results) k l j s

      -- and what had numbers keeps them
      pub still_numbered : (ks ms : List ℕ) → AreNumbered T ks ms → AreNumbered (numbered (result_arcs R P f) (result_arcs R K g) T) ks ms
      still_numbered [] [] e = tt
      still_numbered [] (m ∷ ms) e = absurd e
      still_numbered (k ∷ ks) [] e = absurd e
      still_numbered (k ∷ ks) (m ∷ ms) (i, e) = ((table_more k m).1 (stays ((table k m).0 i)), still_numbered ks ms e)

-- the rounds
module _ (R : List Rule) (G : QGraph) (fs : List Firing) (H : QGraph) (X : IsRecorded R G fs H) (n : ℕ) (S : Stage) (reached : Rounds R G n S) (T : Table) (table : IsTable R G fs H (firings S) S.graph T) where
  pub next_by : (F : List Firing) → IsNextBy T fs S F → Round R S.graph (firings S) F
  next_by F x = next_round R G (valid_ends X.valid) fs H X.grown X.once X.closed n S reached F
      (record {
        ascends = x.ascends;
        recorded = λ g i.
            let (f, j, ls, a, e) = x.recorded g i in
            (f, j, subst (SameFiring R G fs (firings S) H S.graph f) (sym e) (record { rule = refl; values = refl; path = path_of R G fs H X (firings S) S.graph (rounds_grown R G n S reached) (rounds_apart R G n S reached) T table f.path ls a }));
        new = x.new;
        all = λ f g i s.
            let e : in_numbers f g.path ≡ g = (λ i. record { rule = s.rule i; path = g.path; values = s.values i }) in
            subst (λ y. (y ∈ firings S) ⊎ (y ∈ F)) e
            (x.all f g.path i (numbers_of R G fs H X (firings S) S.graph (rounds_grown R G n S reached) (rounds_apart R G n S reached) T table s.path));
      })

  -- and each round is found so
  pub by_round : (F : List Firing) → Round R S.graph (firings S) F → IsNextBy T fs S F
  by_round F r = record {
    ascends = r.ascends;
    recorded = λ g i.
        let gS = rounds_grown R G n S reached in
        let y = image_over R G (valid_ends X.valid) (firings S) fs S.graph H gS X.grown X.once g S.graph (within_refl S.graph S.graph refl) (r.fires g i)
        (all_arcs R G (valid_ends X.valid) (firings S) fs S.graph H gS X.grown X.once (closed_partners R G (valid_ends X.valid) (firings S) fs S.graph H gS X.grown X.once X.closed)) in
        (in_numbers g y.path, X.closed (in_numbers g y.path) y.fires, g.path, numbers_of R G fs H X (firings S) S.graph gS (rounds_apart R G n S reached) T table (turned_path y.same), refl);
    new = r.new;
    all = λ f ls i a. r.all (in_numbers f ls) (numbered_fires R G fs H X (firings S) S.graph (rounds_grown R G n S reached) (rounds_apart R G n S reached) T table f ls i a);
  }

  -- the tables of the closure are the maps
  pub maps : (N : Table) → IsNodeTable R G fs H (firings S) S.graph N → Closes R G S
      → (A : AreSame R G fs H (firings S) S.graph) × ((k : ℕ) → k < length H.arcs → T k ≡ Some (A.arcs k)) × ((m : ℕ) → m ≤ H.nodes → N m ≡ Some (A.nodes m))
  maps N nodes c =
      let (A, same, same') = are_same_with R G (valid_ends X.valid) fs (firings S) H S.graph X.grown (rounds_grown R G n S reached) X.once (rounds_apart R G n S reached) X.closed (closes_all R G S c) in
      (A, (λ k h. (table k (A.arcs k)).1 (same k h)), λ m h. (nodes m (A.nodes m)).1 (same' m h))

  -- with no firing left, S is the closure
  pub closes_by : IsNextBy T fs S [] → Closes R G S
  closes_by x = record { rounds = n; reached = reached; closed = next_by [] x }

-- a recorded firing is done in the round behind which all arcs of its path have numbers for the first time
module _ (R : List Rule) (G : QGraph) (fs : List Firing) (H : QGraph) (X : IsRecorded R G fs H) (n : ℕ) (B : Stage) (reached : Rounds R G n B) (F : List Firing) (r : Round R B.graph (firings B) F)
    (T : Table) (table : IsTable R G fs H (firings B) B.graph T) (T' : Table) (table' : IsTable R G fs H (firings (after R (suc n) B F)) (after R (suc n) B F).graph T') where
  abbrev S : Stage
  S = after R (suc n) B F

  reached' : Rounds R G (suc n) S
  reached' = (B, F, reached, r, refl)

  grown : Grown R G (firings B) B.graph
  grown = rounds_grown R G n B reached

  once : AllApart (firings B)
  once = rounds_apart R G n B reached

  later : {k l : ℕ} → SameArc R G fs (firings B) H B.graph k l → SameArc R G fs (firings S) H S.graph k l
  later {k = k} {l = l} s =
      subst (λ xs. SameArc R G xs (firings S) H S.graph k l) (append-nil fs)
      (subst (λ ys. SameArc R G (fs ++ []) ys H S.graph k l) (sym (firings-after R (suc n) B F)) (same_more [] F H S.graph (within_refl H H refl) (after_within R (suc n) B F) s))

  -- numbers below the arcs of B were there in B
  pub earlier : (ks ls : List ℕ) → AreNumbered T' ks ls → ((l : ℕ) → l ∈ ls → l < length B.graph.arcs) → AreNumbered T ks ls
  earlier [] [] a low = tt
  earlier [] (l ∷ ls) a low = absurd a
  earlier (k ∷ ks) [] a low = absurd a
  earlier (k ∷ ks) (l ∷ ls) (e, a) low =
      let (k0, s0) = back_arc R G fs H X (firings B) B.graph grown once l (low l (inl refl)) in
      let same : k0 ≡ k = one_back R G fs H X (firings S) S.graph (rounds_grown R G (suc n) S reached') (rounds_apart R G (suc n) S reached') k0 k l (later s0) ((table' k l).0 e) in
      (subst (λ x. T x ≡ Some l) same ((table k0 l).1 s0), earlier ks ls a (λ m i. low m (inr i)))

  in_B : (g : Firing) → g ∈ firings S → Fires R B.graph.arcs g
  in_B g i = ⊎_elim
      (λ j. let (P, at) = at_of R G (firings B) g j in let t = stands R G (firings B) B.graph g P grown at in fires_stays R (within_trans (within_adds R P g) t.after) t.fires)
      (r.fires g)
      (from_append (firings B) F g (subst (λ xs. g ∈ xs) (firings-after R (suc n) B F) i))

  pub first_round : (f : Firing) (ls : List ℕ) → f ∈ fs → AreNumbered T' f.path ls → (in_numbers f ls ∈ firings S) ↔ AreNumbered T f.path ls
  first_round f ls i a = (
    λ j. let q = in_B (in_numbers f ls) j in earlier f.path ls a (λ l m. leads_low B.graph.arcs q.from ls q.to q.path.leads l m),
    λ b. subst (λ xs. in_numbers f ls ∈ xs) (sym (firings-after R (suc n) B F))
        (⊎_elim (in_append_left (firings B) F (in_numbers f ls)) (in_append_right (firings B) F (in_numbers f ls)) (r.all (in_numbers f ls) (numbered_fires R G fs H X (firings B) B.graph grown once T table f ls i b))),
  )

  pub later_numbers : (ks ls : List ℕ) → AreNumbered T ks ls → AreNumbered T' ks ls
  later_numbers [] [] a = tt
  later_numbers [] (l ∷ ls) a = absurd a
  later_numbers (k ∷ ks) [] a = absurd a
  later_numbers (k ∷ ks) (l ∷ ls) (e, a) = ((table' k l).1 (later ((table k l).0 e)), later_numbers ks ls a)

pub one_number : (T : Table) (ks ls ms : List ℕ) → AreNumbered T ks ls → AreNumbered T ks ms → ls ≡ ms
one_number T [] [] [] a b = refl
one_number T [] [] (m ∷ ms) a b = absurd b
one_number T [] (l ∷ ls) ms a b = absurd a
one_number T (k ∷ ks) [] ms a b = absurd a
one_number T (k ∷ ks) (l ∷ ls) [] a b = absurd b
one_number T (k ∷ ks) (l ∷ ls) (m ∷ ms) (e, a) (d, b) = let p : ls ≡ ms = one_number T ks ls ms a b in let q : l ≡ m = (let o = sym e ∙ d in cc) in cc

apart_front : (xs ys : List Firing) → AllApart (xs ++ ys) → AllApart xs
apart_front [] ys a = tt
apart_front (x ∷ xs) ys (n, a) = ((λ i. n (in_append_left xs ys x i)), apart_front xs ys a)

apart_middle : (xs : List Firing) (y : Firing) (ys : List Firing) → AllApart (xs ++ y ∷ ys) → y ∈ xs → ⊥
apart_middle [] y ys a i = absurd i
apart_middle (x ∷ xs) y ys (n, a) (inl e) = n (in_append_right xs (y ∷ ys) x (inl (sym e)))
apart_middle (x ∷ xs) y ys (n, a) (inr i) = apart_middle xs y ys a i

pub after-one : (R : List Rule) (n : ℕ) (S : Stage) (E : List Firing) (g : Firing) → after R n S (E ++ g ∷ []) ≡ after_one R n (after R n S E) g
after-one R n S [] g = refl
after-one R n S (f ∷ E) g = after-one R n (after_one R n S f) E g

-- a round by its firings
module _ (R : List Rule) (G : QGraph) (fs : List Firing) (H : QGraph) (X : IsRecorded R G fs H) (n : ℕ) (S : Stage) where
  pub begins : (F : List Firing) (T N : Table) → Rounds R G n S → IsTable R G fs H (firings S) S.graph T → IsNodeTable R G fs H (firings S) S.graph N → IsNextBy T fs S F → IsUnderWay R G fs H n S [] F T N
  begins F T N reached table nodes x = record { reached = reached; round = next_by R G fs H X n S reached T table F x; table = table; nodes = nodes; recorded = x.recorded }

  pub ends_by : (E : List Firing) (T N : Table) → IsUnderWay R G fs H n S E [] T N
      → Rounds R G (suc n) (after R (suc n) S E) × IsTable R G fs H (firings (after R (suc n) S E)) (after R (suc n) S E).graph T × IsNodeTable R G fs H (firings (after R (suc n) S E)) (after R (suc n) S E).graph N
  ends_by E T N u = ((S, E, u.reached, subst (Round R S.graph (firings S)) (append-nil E) u.round, refl), u.table, u.nodes)

  module _ (E : List Firing) (g : Firing) (F : List Firing) (T N : Table) (u : IsUnderWay R G fs H n S E (g ∷ F) T N) where
    abbrev now : Stage
    now = after R (suc n) S E

    pub grown_now : Grown R G (firings now) now.graph
    grown_now = grown_after R G (suc n) S E (rounds_grown R G n S u.reached) (λ h i. u.round.fires h (in_append_left E (g ∷ F) h i))

    all_apart : AllApart (firings now ++ (g ∷ F))
    all_apart =
        let whole = rounds_apart R G (suc n) (after R (suc n) S (E ++ (g ∷ F))) (S, E ++ (g ∷ F), u.reached, u.round, refl) in
        let e : firings (after R (suc n) S (E ++ (g ∷ F))) ≡ firings now ++ (g ∷ F) =
        firings-after R (suc n) S (E ++ (g ∷ F)) ∙ sym (append_assoc (firings S) E (g ∷ F)) ∙ ap (λ xs. xs ++ (g ∷ F)) (sym (firings-after R (suc n) S E)) in
        subst AllApart e whole

    pub once_now : AllApart (firings now)
    once_now = apart_front (firings now) (g ∷ F) all_apart

    pub new_now : g ∈ firings now → ⊥
    new_now = apart_middle (firings now) g F all_apart

    -- the next firing: what it meets, and the table behind it
    module _ (f : Firing) (P : QGraph) (fa : DoneAt R G fs f P) (ls : List ℕ) (a : AreNumbered T f.path ls) (is : g ≡ in_numbers f ls) where
      new : in_numbers f ls ∈ firings now → ⊥
      new i = new_now (subst (λ x. x ∈ firings now) (sym is) i)

      pub meets_by : (l : ℕ) → (met R now.graph g ≡ Some l) ↔ ((k : ℕ) × (result_arcs R P f ≡ k ∷ []) × (T k ≡ Some l))
      meets_by l = subst (λ x. (met R now.graph x ≡ Some l) ↔ ((k : ℕ) × (result_arcs R P f ≡ k ∷ []) × (T k ≡ Some l))) (sym is)
          (met_is R G fs H X (firings now) now.graph grown_now once_now T u.table f P fa ls a new l)

      pub goes_on : IsUnderWay R G fs H n S (E ++ g ∷ []) F (numbered (result_arcs R P f) (result_arcs R now.graph g) T) (numbered (new_nodes R P f) (new_nodes R now.graph g) N)
      goes_on = record {
        reached = u.reached;
        round = subst (Round R S.graph (firings S)) (sym (append_assoc E (g ∷ []) F)) u.round;
        table =
            subst (λ (Y : Stage). IsTable R G fs H (firings Y) Y.graph (numbered (result_arcs R P f) (result_arcs R now.graph g) T)) (sym (after-one R (suc n) S E g))
            (subst (λ xs. IsTable R G fs H xs (adds R now.graph g) (numbered (result_arcs R P f) (result_arcs R now.graph g) T)) (sym (firings-one R (suc n) now g))
            (subst (λ x. IsTable R G fs H (firings now ++ x ∷ []) (adds R now.graph x) (numbered (result_arcs R P f) (result_arcs R now.graph x) T)) (sym is)
            (table_more R G fs H X (firings now) now.graph grown_now once_now T u.table f P fa ls a new)));
        nodes =
            subst (λ (Y : Stage). IsNodeTable R G fs H (firings Y) Y.graph (numbered (new_nodes R P f) (new_nodes R now.graph g) N)) (sym (after-one R (suc n) S E g))
            (subst (λ xs. IsNodeTable R G fs H xs (adds R now.graph g) (numbered (new_nodes R P f) (new_nodes R now.graph g) N)) (sym (firings-one R (suc n) now g))
            (subst (λ x. IsNodeTable R G fs H (firings now ++ x ∷ []) (adds R now.graph x) (numbered (new_nodes R P f) (new_nodes R now.graph x) N)) (sym is)
            (nodes_more R G fs H X (firings now) now.graph grown_now once_now T u.table f P fa ls a new N u.nodes)));
        recorded = λ h i.
            let (f', j, ms, b, e) = u.recorded h (inr i) in (
              f',
              j,
              ms,
              subst (λ x. AreNumbered (numbered (result_arcs R P f) (result_arcs R now.graph x) T) f'.path ms) (sym is)
                  (still_numbered R G fs H X (firings now) now.graph grown_now once_now T u.table f P fa ls a new f'.path ms b),
              e,
            );
      }

  -- a round can be gone through
  pub goes_through : (F E : List Firing) (T N : Table) → IsUnderWay R G fs H n S E F T N → (U : Table) × (M : Table) × IsUnderWay R G fs H n S (E ++ F) [] U M
  goes_through [] E T N u = (T, N, subst (λ xs. IsUnderWay R G fs H n S xs [] T N) (sym (append-nil E)) u)
  goes_through (g ∷ F) E T N u =
      let (f, i, ls, a, e) = u.recorded g (inl refl) in
      let (P, fa) = at_of R G fs f i in
      let (U, M, v) = goes_through F (E ++ g ∷ []) (numbered (result_arcs R P f) (result_arcs R (after R (suc n) S E).graph g) T) (numbered (new_nodes R P f) (new_nodes R (after R (suc n) S E).graph g) N) (goes_on E g F T N u f P fa ls a e) in
      (U, M, subst (λ xs. IsUnderWay R G fs H n S xs [] U M) (append_assoc E (g ∷ []) F) v)

-- so every round is reached with its tables
pub tables : (R : List Rule) (G : QGraph) (fs : List Firing) (H : QGraph) (X : IsRecorded R G fs H) (n : ℕ) (S : Stage) → Rounds R G n S
    → (T : Table) × (N : Table) × IsTable R G fs H (firings S) S.graph T × IsNodeTable R G fs H (firings S) S.graph N
tables R G fs H X zero S e =
    subst (λ (Y : Stage). (T : Table) × (N : Table) × IsTable R G fs H (firings Y) Y.graph T × IsNodeTable R G fs H (firings Y) Y.graph N) (sym e)
    (opening_table G, opening_nodes G, table_opening R G fs H, nodes_opening R G fs H)
tables R G fs H X (suc n) S (B, F, b, r, e) = behind (tables R G fs H X n B b)
  where
    behind : ((T : Table) × (N : Table) × IsTable R G fs H (firings B) B.graph T × IsNodeTable R G fs H (firings B) B.graph N)
        → (T : Table) × (N : Table) × IsTable R G fs H (firings S) S.graph T × IsNodeTable R G fs H (firings S) S.graph N
    behind (T, N, t, m) =
        let u = begins R G fs H X n B F T N b t m (by_round R G fs H X n B b T t F r) in
        let (U, M, v) = goes_through R G fs H X n B F [] T N u in
        let (reached, t', m') = ends_by R G fs H X n B F U M v in
        subst (λ (Y : Stage). (T : Table) × (N : Table) × IsTable R G fs H (firings Y) Y.graph T × IsNodeTable R G fs H (firings Y) Y.graph N) (sym e) (U, M, t', m')
