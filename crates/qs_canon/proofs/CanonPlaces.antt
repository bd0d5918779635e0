-- The next firing of a round is done.
use Rattle.std.proofs.Common.{◌≡◌, ℕ, zero, suc, ◌+◌, ◌-◌, ◌<◌, ◌≤◌, ◌^◌, Bool, true, false, List, [], ◌∷◌, ◌++◌, length, refl, sym, ap, ◌∙◌, subst, arith, inl, inr, ⊎_elim, ◌⊎◌, eq-eqb, Option, Some, None, slice_get, unwrap_or}
use Rattle.std.specs.Prelude.{if◌then◌else◌, ◌==◌, is_some}
use Rattle.std.proofs.lemmas.Bool.{cases_eq, cases_lt, ne_eqb}
use Rattle.std.proofs.lemmas.Option.{slice_get_within}
use Rattle.qs_tree.proofs.Elements.{exists_at}
use Rattle.qs_tree.specs.Lists.{◌∈◌}
use Rattle.qs_tree.specs.Trees.{Tree}
use Rattle.qs_pattern.specs.Rules.{Rule}
use Rattle.qs_graph.specs.Graphs.{Arc, QGraph}
use Rattle.qs_graph.specs.Chains.{chain}
use Rattle.qs_graph.proofs.Lines.{length-chain}
use Rattle.qs_firing.specs.Firings.{Firing}
use Rattle.qs_firing.specs.Adding.{adds, added, built, met, meets, first_arc, from_on, result_by, result_arcs, start_of, end_of}
use Rattle.qs_firing.proofs.Building.{built_some}
use Rattle.qs_firing.proofs.Merging.{least_is, meeting, met-adds, unmet-added}
use Rattle.qs_firing.proofs.Within.{arc_stays, within_trans, within_adds, length-adds}
use Rattle.qs_core.specs.Growth.{Grown, DoneAt, AllApart}
use Rattle.qs_core.specs.Core.{Fired, fired}
use Rattle.qs_core.specs.Runs.{Machine}
use Rattle.qs_canon.specs.declared.numbers.Numbers.{Numbers}
use Rattle.qs_canon.specs.Rounds.{Stage, Done, firings, after}
use Rattle.qs_canon.specs.working.Same.{width}
use Rattle.qs_canon.specs.working.CanonTables.{Table, AreNumbered, in_numbers, IsUnderWay, numbered, new_nodes}
use Rattle.qs_canon.specs.working.CanonNumbers.{table_of}
use Rattle.qs_canon.specs.working.CanonChains.{Chain, IsUnnumbered, IsChainAdded}
use Rattle.qs_canon.specs.working.CanonSteps.{stage_of, stage_now, IsAtWork}
use Rattle.qs_canon.proofs.Histories.{stands, Stands}
use Rattle.qs_canon.proofs.Same.{adds_many}
use Rattle.qs_canon.proofs.Results.{added_at, chain_of}
use Rattle.qs_canon.proofs.Canonical as canonical

-- tables with the same numbers
under_as : (R : List Rule) (G : QGraph) (fs : List Firing) (H : QGraph) (n : ℕ) (S : Stage) (E F : List Firing) (T N U V : Table) → ((k : ℕ) → T k ≡ U k) → ((k : ℕ) → N k ≡ V k)
    → IsUnderWay R G fs H n S E F T N → IsUnderWay R G fs H n S E F U V
under_as R G fs H n S E F T N U V t m u =
    subst (λ (X : Table). IsUnderWay R G fs H n S E F U X) (λ i k. m k i) (subst (λ (X : Table). IsUnderWay R G fs H n S E F X N) (λ i k. t k i) u)

numbered_as : (T U : Table) (ks ls : List ℕ) → ((k : ℕ) → T k ≡ U k) → AreNumbered T ks ls → AreNumbered U ks ls
numbered_as T U ks ls e = subst (λ (X : Table). AreNumbered X ks ls) (λ i k. e k i)

none_of : (o : Option ℕ) → ((l : ℕ) → o ≡ Some l → ⊥) → o ≡ None
none_of None n = refl
none_of (Some l) n = absurd (n l refl)

first_from : (n m k : ℕ) → from_on n m ≡ k ∷ [] → n ≡ k
first_from n zero k e = absurd cc
first_from n (suc m) k e = cc

only_from : (n m k : ℕ) → from_on n m ≡ k ∷ [] → m ≡ 1
only_from n zero k e = absurd cc
only_from n (suc zero) k e = refl
only_from n (suc (suc m)) k e = absurd cc

-- a list that isn't empty
pub parts_of : (ts : List Tree) → 0 < length ts → (t : Tree) × (us : List Tree) × (ts ≡ t ∷ us)
parts_of [] h = absurd (omega arith)
parts_of (t ∷ us) h = (t, us, refl)

module _ (M : Machine) (now : Numbers) (n : ℕ) (S : Stage) (E : List Firing) (d : Fired) (ls : List ℕ) (F : List Firing) (w : IsAtWork M now n S E (in_numbers d.firing ls ∷ F)) (i : d ∈ M.state.done) (a : AreNumbered (table_of now.arcs.items) d.firing.path ls) where
  abbrev R : List Rule
  R = M.base.rules

  abbrev G : QGraph
  G = M.base.start

  abbrev fs : List Firing
  fs = fired M.state

  abbrev H : QGraph
  H = M.state.graph

  abbrev f : Firing
  f = d.firing

  abbrev g : Firing
  g = in_numbers d.firing ls

  abbrev at : Stage
  at = after M.base.rules (suc n) S E

  abbrev K : QGraph
  K = (after M.base.rules (suc n) S E).graph

  abbrev T : Table
  T = table_of now.arcs.items

  abbrev N : Table
  N = table_of now.nodes.items

  grown : Grown R G (firings at) K
  grown = canonical.grown_now R G fs H w.finished.recorded n S E g F T N w.under

  once : AllApart (firings at)
  once = canonical.once_now R G fs H w.finished.recorded n S E g F T N w.under

  new : g ∈ firings at → ⊥
  new = canonical.new_now R G fs H w.finished.recorded n S E g F T N w.under

  abbrev P : QGraph
  P = (w.finished.results d i).0

  done_at : DoneAt R G fs f P
  done_at = (w.finished.results d i).1

  first_is : d.first ≡ first_arc R P f
  first_is = ap (λ (x : Fired). x.first) (w.finished.results d i).2

  stood : Stands R G H f P
  stood = stands R G fs H f P w.finished.recorded.grown done_at

  pub some : 0 < width R f
  some = built_some R w.finished.accepted P.arcs f stood.fires

  -- its recorded result
  results_from : result_arcs R P f ≡ from_on d.first (width R f)
  results_from = tested (met R P f) refl
    where
      tested : (o : Option ℕ) → met R P f ≡ o → result_arcs R P f ≡ from_on d.first (width R f)
      tested None e =
          ap (λ o. result_by o (length P.arcs) (width R f)) e
          ∙ ap (λ m. from_on m (width R f)) (sym (first_is ∙ ap (λ (o : Option ℕ). unwrap_or o (length P.arcs)) e))
      tested (Some k) e =
          let x = meeting R P f k e in
          let first : d.first ≡ k = first_is ∙ ap (λ (o : Option ℕ). unwrap_or o (length P.arcs)) e in
          ap (λ o. result_by o (length P.arcs) (width R f)) e
          ∙ (λ i. sym first i ∷ [])
          ∙ sym (ap (λ (ts : List Tree). from_on d.first (length ts)) x.one)

  -- it meets an arc exactly where the first arc of that has a number
  pub met_of : (l : ℕ) → T d.first ≡ Some l → met R K g ≡ Some l
  met_of l e = tested (met R K g) refl
    where
      tested : (o : Option ℕ) → met R K g ≡ o → met R K g ≡ Some l
      tested None u =
          let z : d.first ≡ d.first + 0 = omega arith in
          absurd (canonical.fresh_arcs R G fs H w.finished.recorded (firings at) K grown once T w.under.table f P done_at ls a new u d.first results_from 0 l some (subst (λ k. T k ≡ Some l) z e))
      tested (Some m) u =
          let (k, r, t) = (canonical.met_is R G fs H w.finished.recorded (firings at) K grown once T w.under.table f P done_at ls a new m).0 u in
          let same : d.first ≡ k = first_from d.first (width R f) k (sym results_from ∙ r) in
          let s : Some m ≡ Some l = sym t ∙ ap T (sym same) ∙ e in
          u ∙ s

  pub unmet_of : T d.first ≡ None → met R K g ≡ None
  unmet_of e = none_of (met R K g)
      (λ m u.
      let (k, r, t) = (canonical.met_is R G fs H w.finished.recorded (firings at) K grown once T w.under.table f P done_at ls a new m).0 u in
      let same : d.first ≡ k = first_from d.first (width R f) k (sym results_from ∙ r) in
      let s : None ≡ Some m = sym e ∙ ap T same ∙ t in
      absurd cc)

  goes_on : IsUnderWay R G fs H n S (E ++ g ∷ []) F (numbered (result_arcs R P f) (result_arcs R K g) T) (numbered (new_nodes R P f) (new_nodes R K g) N)
  goes_on = canonical.goes_on R G fs H w.finished.recorded n S E g F T N w.under f P done_at ls a refl

  -- the stage behind it
  stage_behind : (graph : QGraph) (first : ℕ) (meet : Bool) (round : ℕ) (next : Numbers) → graph ≡ adds R K g → first ≡ first_arc R K g → meet ≡ meets R K g → round ≡ n + 1
      → next.last_node ≡ graph.nodes → next.edges.items ≡ graph.arcs → next.placed.items ≡ now.placed.items ++ record { firing = g; first = first; round = round; met = meet } ∷ []
      → stage_now next ≡ after R (suc n) S (E ++ g ∷ [])
  stage_behind graph first meet round next is f_is m_is r_is nodes arcs placed =
      let p : now.placed.items ≡ at.done = ap (λ (X : Stage). X.done) w.stage in
      let r : round ≡ suc n = omega (arith, r_is) in
      (λ i. stage_of (nodes i) (arcs i) (placed i))
      ∙ (λ i. record { graph = is i; done = p i ++ record { firing = g; first = f_is i; round = r i; met = m_is i } ∷ [] })
      ∙ sym (canonical.after-one R (suc n) S E g)

  nodes_now : now.last_node ≡ K.nodes
  nodes_now = ap (λ (X : Stage). X.graph.nodes) w.stage

  arcs_now : now.edges.items ≡ K.arcs
  arcs_now = ap (λ (X : Stage). X.graph.arcs) w.stage

  -- where it meets an arc
  module _ (l : ℕ) (has : T d.first ≡ Some l) where
    pub placed_met : (round : ℕ) (next : Numbers) → round ≡ n + 1 → next.arcs.items ≡ now.arcs.items → next.nodes.items ≡ now.nodes.items → next.origins.items ≡ now.origins.items → next.edges.items ≡ now.edges.items → next.last_node ≡ now.last_node
        → next.placed.items ≡ now.placed.items ++ record { firing = g; first = l; round = round; met = true } ∷ [] → IsAtWork M next n S (E ++ g ∷ []) F
    placed_met round next r arcs nodes origins edges last placed = record {
      finished = w.finished;
      under = under_as R G fs H n S (E ++ g ∷ []) F (numbered (result_arcs R P f) (result_arcs R K g) T) (numbered (new_nodes R P f) (new_nodes R K g) N) (table_of next.arcs.items) (table_of next.nodes.items)
          (λ k. same_arcs k ∙ ap (λ (xs : List (Option ℕ)). table_of xs k) (sym arcs)) (λ k. ap (λ (X : Table). X k) same_nodes ∙ ap (λ (xs : List (Option ℕ)). table_of xs k) (sym nodes)) goes_on;
      stage = stage_behind K l true round next (sym (met-adds R K g l meet)) (sym (ap (λ (o : Option ℕ). unwrap_or o (length K.arcs)) meet)) (sym (ap (λ (o : Option ℕ). is_some o) meet)) r (last ∙ nodes_now) (edges ∙ arcs_now) placed;
      arcs_each = ap (λ (xs : List (Option ℕ)). length xs) arcs ∙ w.arcs_each;
      nodes_each = ap (λ (xs : List (Option ℕ)). length xs) nodes ∙ w.nodes_each;
      traced = record {
        each = ap (λ (xs : List ℕ). length xs) origins ∙ w.traced.each ∙ ap (λ (xs : List Arc). length xs) (sym edges);
        origin = λ k m. (
          λ e. ap (λ (xs : List ℕ). slice_get xs m) origins ∙ (w.traced.origin k m).0 (ap (λ (xs : List (Option ℕ)). table_of xs k) (sym arcs) ∙ e),
          λ e. ap (λ (xs : List (Option ℕ)). table_of xs k) arcs ∙ (w.traced.origin k m).1 (ap (λ (xs : List ℕ). slice_get xs m) (sym origins) ∙ e),
        );
      };
    }
      where
        meet : met R K g ≡ Some l
        meet = met_of l has

        mine : result_arcs R K g ≡ l ∷ []
        mine = ap (λ o. result_by o (length K.arcs) (width R g)) meet

        its : result_arcs R P f ≡ d.first ∷ []
        its =
            let (k, r, t) = (canonical.met_is R G fs H w.finished.recorded (firings at) K grown once T w.under.table f P done_at ls a new l).0 meet in
            let same : d.first ≡ k = first_from d.first (width R f) k (sym results_from ∙ r) in
            r ∙ (λ i. sym same i ∷ [])

        one : width R f ≡ 1
        one = only_from d.first (width R f) d.first (sym results_from ∙ its)

        same_arcs : (k : ℕ) → numbered (result_arcs R P f) (result_arcs R K g) T k ≡ T k
        same_arcs k = (λ i. numbered (its i) (mine i) T k) ∙ tested (cases_eq k d.first)
          where
            tested : (k ≡ d.first) ⊎ (k ≡ d.first → ⊥) → (if k == d.first then Some l else T k) ≡ T k
            tested (inl e) = ap (λ b. if b then Some l else T k) (eq-eqb k d.first e) ∙ sym has ∙ ap T (sym e)
            tested (inr m) = ap (λ b. if b then Some l else T k) (ne_eqb k d.first m)

        same_nodes : numbered (new_nodes R P f) (new_nodes R K g) N ≡ N
        same_nodes = let z : width R f - 1 ≡ 0 = omega (arith, one) in ap (λ m. numbered (from_on (P.nodes + 1) m) (new_nodes R K g) N) z

  -- it is a chain
  stands_there : (j : ℕ) (arc : Arc) → slice_get (chain_of R P f) j ≡ Some arc → slice_get H.arcs (d.first + j) ≡ Some arc
  stands_there j arc is = tested (met R P f) refl
    where
      tested : (o : Option ℕ) → met R P f ≡ o → slice_get H.arcs (d.first + j) ≡ Some arc
      tested None e =
          let low : j < width R f = (let h = slice_get_within (chain_of R P f) j arc is in let l = length-chain (start_of P.arcs f.path) (built R f) (P.nodes + 1) (end_of P.arcs f.path) in omega (arith, h, l)) in
          let (x, there, here) = added_at R G fs H w.finished.recorded.grown f P done_at e j low in
          let same : Some x ≡ Some arc = sym here ∙ is in
          let first : d.first ≡ length P.arcs = first_is ∙ ap (λ (o : Option ℕ). unwrap_or o (length P.arcs)) e in
          ap (λ m. slice_get H.arcs (m + j)) first ∙ there ∙ same
      tested (Some k) e =
          let x = meeting R P f k e in
          let first : d.first ≡ k = first_is ∙ ap (λ (o : Option ℕ). unwrap_or o (length P.arcs)) e in
          only j (arc_stays (within_trans (within_adds R P f) stood.after) k (record { from = start_of P.arcs f.path; to = end_of P.arcs f.path; tree = x.tree })
          (least_is P.arcs (start_of P.arcs f.path) (end_of P.arcs f.path) x.tree k x.least))
          (subst (λ (ts : List Tree). slice_get (chain (start_of P.arcs f.path) ts (P.nodes + 1) (end_of P.arcs f.path)) j ≡ Some arc) x.one is) first
        where
          only : {t : Tree} {k : ℕ} (j : ℕ) → slice_get H.arcs k ≡ Some (record { from = start_of P.arcs f.path; to = end_of P.arcs f.path; tree = t })
              → slice_get (chain (start_of P.arcs f.path) (t ∷ []) (P.nodes + 1) (end_of P.arcs f.path)) j ≡ Some arc → d.first ≡ k → slice_get H.arcs (d.first + j) ≡ Some arc
          only {k = k} zero there here first = let z : d.first + 0 ≡ k = omega (arith, first) in ap (slice_get H.arcs) z ∙ there ∙ here
          only (suc j) there here first = absurd cc

  last_of : (j : ℕ) → j < width R f → (x : Arc) × (slice_get H.arcs (d.first + j) ≡ Some x)
  last_of j h =
      let l = length-chain (start_of P.arcs f.path) (built R f) (P.nodes + 1) (end_of P.arcs f.path) in
      let (x, is) = exists_at (chain_of R P f) j (omega (arith, l, h)) in
      (x, stands_there j x is)

  pub first_within : d.first < length now.arcs.items
  first_within =
      let (x, is) = last_of 0 some in
      let h = slice_get_within H.arcs (d.first + 0) x is in
      let e = w.arcs_each in
      omega (arith, h, e)

  -- where it meets none, its recorded result is a chain without numbers
  module _ (has : T d.first ≡ None) where
    unmet : met R K g ≡ None
    unmet = unmet_of has

    abbrev tree : Tree
    tree = (parts_of (built R f) some).0

    abbrev others : List Tree
    others = (parts_of (built R f) some).1

    trees : built R f ≡ tree ∷ others
    trees = (parts_of (built R f) some).2

    wide : width R f ≡ suc (length others)
    wide = ap (λ (ts : List Tree). length ts) trees

    abbrev the_chain : Chain
    the_chain = record {
      from = start_of P.arcs f.path;
      from_number = start_of K.arcs ls;
      to = end_of P.arcs f.path;
      to_number = end_of K.arcs ls;
      tree = (parts_of (built R f) some).0;
      others = (parts_of (built R f) some).1;
      next = P.nodes + 1;
    }

    pub fits : (length now.edges.items + suc (length others) ≤ length H.arcs) × (now.last_node + length others ≤ H.nodes)
    fits =
        let u = unmet-added R K g unmet in
        let l : length (added R K g) ≡ suc (length others) = ap (λ (ts : List Tree). length ts) u ∙ wide in
        let more = canonical.grown'' R G fs H w.finished.recorded (firings at) K grown once T w.under.table f P done_at ls a new in
        let apart = canonical.once'' R G fs H w.finished.recorded (firings at) K grown once T w.under.table f P done_at ls a new in
        let arcs = canonical.few_arcs R G fs H w.finished.recorded (firings at ++ g ∷ []) (adds R K g) more apart in
        let nodes = canonical.few_nodes R G fs H w.finished.recorded (firings at ++ g ∷ []) (adds R K g) more apart in
        let k = length-adds R K g in
        let e = ap (λ (xs : List Arc). length xs) arcs_now in
        (omega (arith, arcs, k, l, e), omega (arith, nodes, l, nodes_now))

    nodes_within : P.nodes + 1 + length others ≤ length now.nodes.items
    nodes_within =
        let each = w.nodes_each in
        let after = stood.after.nodes in
        ⊎_elim
        (λ (h : 0 < length others). let m = adds_many R P f 1 (omega arith) (omega (arith, wide, h)) in omega (arith, each, after, m, wide))
        (λ (h : length others ≤ 0). omega (arith, each, after, h))
        (cases_lt 0 (length others))

    pub unnumbered : IsUnnumbered H now d.first the_chain
    unnumbered =
        let ends = canonical.same_ends R G fs H w.finished.recorded (firings at) K grown once T w.under.table f P done_at ls a new in
        record {
          within =
              let (x, is) = last_of (length others) (omega (arith, wide)) in
              let h = slice_get_within H.arcs (d.first + length others) x is in
              omega (arith, h);
          stands = λ j arc is. stands_there j arc (subst (λ (ts : List Tree). slice_get (chain (start_of P.arcs f.path) ts (P.nodes + 1) (end_of P.arcs f.path)) j ≡ Some arc) (sym trees) is);
          from_is = (w.under.nodes (start_of P.arcs f.path) (start_of K.arcs ls)).1 ends.0;
          to_is = (w.under.nodes (end_of P.arcs f.path) (end_of K.arcs ls)).1 ends.1;
          new_nodes = λ j h. none_of (N (P.nodes + 1 + j))
              (λ m e. canonical.fresh_nodes R G fs H w.finished.recorded (firings at) K grown once T w.under.table f P done_at ls a new N w.under.nodes j m (omega (arith, h, wide)) e);
          new_arcs = λ j h. none_of (T (d.first + j))
              (λ m e. canonical.fresh_arcs R G fs H w.finished.recorded (firings at) K grown once T w.under.table f P done_at ls a new unmet d.first results_from j m (omega (arith, h, wide)) e);
          nodes_within = nodes_within;
          arcs_each = w.arcs_each;
          arcs_fit = let (p, q) = fits in let r = w.finished.arcs_fit in omega (arith, p, r);
          nodes_fit = let (p, q) = fits in let r = w.finished.nodes_fit in omega (arith, q, r);
        }

    -- and it is added
    module _ (middle : Numbers) (x : IsChainAdded d.first the_chain now middle) where
      same_arcs : (k : ℕ) → numbered (result_arcs R P f) (result_arcs R K g) T k ≡ table_of middle.arcs.items k
      same_arcs k =
          let mine : result_arcs R K g ≡ from_on (length K.arcs) (width R f) = ap (λ o. result_by o (length K.arcs) (width R g)) unmet in
          (λ i. numbered (results_from i) (mine i) T k)
          ∙ (λ i. numbered (from_on d.first (wide i)) (from_on (length (sym arcs_now i)) (wide i)) T k)
          ∙ sym (x.arcs k)

      same_nodes : (k : ℕ) → numbered (new_nodes R P f) (new_nodes R K g) N k ≡ table_of middle.nodes.items k
      same_nodes k =
          let less : width R f - 1 ≡ length others = omega (arith, wide) in
          (λ i. numbered (from_on (P.nodes + 1) (less i)) (from_on (sym nodes_now i + 1) (less i)) N k)
          ∙ sym (x.nodes k)

      pub placed_unmet : (round : ℕ) (next : Numbers) → round ≡ n + 1 → next.arcs.items ≡ middle.arcs.items → next.nodes.items ≡ middle.nodes.items → next.origins.items ≡ middle.origins.items → next.edges.items ≡ middle.edges.items → next.last_node ≡ middle.last_node
          → next.placed.items ≡ middle.placed.items ++ record { firing = g; first = length now.edges.items; round = round; met = false } ∷ [] → IsAtWork M next n S (E ++ g ∷ []) F
      placed_unmet round next r arcs nodes origins edges last placed =
          let u : added R K g ≡ tree ∷ others = unmet-added R K g unmet ∙ trees in
          let l : length (added R K g) - 1 ≡ length others = (let e = ap (λ (ts : List Tree). length ts) u in omega (arith, e)) in
          let t = x.traced w.traced in
          record {
            finished = w.finished;
            under = under_as R G fs H n S (E ++ g ∷ []) F (numbered (result_arcs R P f) (result_arcs R K g) T) (numbered (new_nodes R P f) (new_nodes R K g) N) (table_of next.arcs.items) (table_of next.nodes.items)
                (λ k. same_arcs k ∙ ap (λ (xs : List (Option ℕ)). table_of xs k) (sym arcs)) (λ k. same_nodes k ∙ ap (λ (xs : List (Option ℕ)). table_of xs k) (sym nodes)) goes_on;
            stage = stage_behind (adds R K g) (length now.edges.items) false round next refl
                (ap (λ (xs : List Arc). length xs) arcs_now ∙ sym (ap (λ (o : Option ℕ). unwrap_or o (length K.arcs)) unmet)) (sym (ap (λ (o : Option ℕ). is_some o) unmet)) r
                (last ∙ x.last_node ∙ (λ i. nodes_now i + sym l i))
                (edges ∙ x.edges ∙ (λ i. arcs_now i ++ chain (start_of K.arcs ls) (sym u i) (nodes_now i + 1) (end_of K.arcs ls)))
                (placed ∙ ap (λ (ds : List Done). ds ++ record { firing = g; first = length now.edges.items; round = round; met = false } ∷ []) x.placed);
            arcs_each = ap (λ (xs : List (Option ℕ)). length xs) arcs ∙ x.arcs_each ∙ w.arcs_each;
            nodes_each = ap (λ (xs : List (Option ℕ)). length xs) nodes ∙ x.nodes_each ∙ w.nodes_each;
            traced = record {
              each = ap (λ (xs : List ℕ). length xs) origins ∙ t.each ∙ ap (λ (xs : List Arc). length xs) (sym edges);
              origin = λ k m. (
                λ e. ap (λ (xs : List ℕ). slice_get xs m) origins ∙ (t.origin k m).0 (ap (λ (xs : List (Option ℕ)). table_of xs k) (sym arcs) ∙ e),
                λ e. ap (λ (xs : List (Option ℕ)). table_of xs k) arcs ∙ (t.origin k m).1 (ap (λ (xs : List ℕ). slice_get xs m) (sym origins) ∙ e),
              );
            };
          }

      -- what had numbers keeps them
      pub stays : (ks ms : List ℕ) → AreNumbered T ks ms → AreNumbered (table_of middle.arcs.items) ks ms
      stays ks ms b =
          numbered_as (numbered (result_arcs R P f) (result_arcs R K g) T) (table_of middle.arcs.items) ks ms same_arcs
          (canonical.still_numbered R G fs H w.finished.recorded (firings at) K grown once T w.under.table f P done_at ls a new ks ms b)

module _ (M : Machine) (now : Numbers) (n : ℕ) (S : Stage) (E : List Firing) (d : Fired) (ls : List ℕ) (F : List Firing) (i : d ∈ M.state.done) (a : AreNumbered (table_of now.arcs.items) d.firing.path ls)
    (g : Firing) (is : g ≡ in_numbers d.firing ls) (w : IsAtWork M now n S E (g ∷ F)) where
  named : IsAtWork M now n S E (in_numbers d.firing ls ∷ F)
  named = subst (λ x. IsAtWork M now n S E (x ∷ F)) is w

  pub place_within : d.first < length now.arcs.items
  place_within = first_within M now n S E d ls F named i a

  pub place_few : table_of now.arcs.items d.first ≡ None → length now.edges.items < 2 ^ 32
  place_few e = let (p, q) = fits M now n S E d ls F named i a e in let r = w.finished.arcs_fit in omega (arith, p, r)

  pub place_chain : table_of now.arcs.items d.first ≡ None → (c : Chain) × IsUnnumbered M.state.graph now d.first c
  place_chain e = (the_chain M now n S E d ls F named i a e, unnumbered M now n S E d ls F named i a e)

  pub place_met : (l : ℕ) → table_of now.arcs.items d.first ≡ Some l → (round : ℕ) (next : Numbers) → round ≡ n + 1 → next.arcs.items ≡ now.arcs.items → next.nodes.items ≡ now.nodes.items → next.origins.items ≡ now.origins.items
      → next.edges.items ≡ now.edges.items → next.last_node ≡ now.last_node → next.placed.items ≡ now.placed.items ++ record { firing = g; first = l; round = round; met = true } ∷ [] → IsAtWork M next n S (E ++ g ∷ []) F
  place_met l e round next r arcs nodes origins edges last placed =
      subst (λ x. IsAtWork M next n S (E ++ x ∷ []) F) (sym is)
      (placed_met M now n S E d ls F named i a l e round next r arcs nodes origins edges last
      (subst (λ x. next.placed.items ≡ now.placed.items ++ record { firing = x; first = l; round = round; met = true } ∷ []) is placed))

  pub place_unmet : table_of now.arcs.items d.first ≡ None → (middle : Numbers) → ((c : Chain) → IsUnnumbered M.state.graph now d.first c → IsChainAdded d.first c now middle) → (round : ℕ) (next : Numbers) → round ≡ n + 1
      → next.arcs.items ≡ middle.arcs.items → next.nodes.items ≡ middle.nodes.items → next.origins.items ≡ middle.origins.items → next.edges.items ≡ middle.edges.items → next.last_node ≡ middle.last_node
      → next.placed.items ≡ middle.placed.items ++ record { firing = g; first = length now.edges.items; round = round; met = false } ∷ [] → IsAtWork M next n S (E ++ g ∷ []) F
  place_unmet e middle added round next r arcs nodes origins edges last placed =
      subst (λ x. IsAtWork M next n S (E ++ x ∷ []) F) (sym is)
      (placed_unmet M now n S E d ls F named i a e middle (added (the_chain M now n S E d ls F named i a e) (unnumbered M now n S E d ls F named i a e)) round next r arcs nodes origins edges last
      (subst (λ x. next.placed.items ≡ middle.placed.items ++ record { firing = x; first = length now.edges.items; round = round; met = false } ∷ []) is placed))

  pub place_stays : table_of now.arcs.items d.first ≡ None → (middle : Numbers) → ((c : Chain) → IsUnnumbered M.state.graph now d.first c → IsChainAdded d.first c now middle)
      → (ks ms : List ℕ) → AreNumbered (table_of now.arcs.items) ks ms → AreNumbered (table_of middle.arcs.items) ks ms
  place_stays e middle added =
      stays M now n S E d ls F named i a e middle (added (the_chain M now n S E d ls F named i a e) (unnumbered M now n S E d ls F named i a e))
