-- Every step of the core keeps what every core state keeps.
use Rattle.std.proofs.Common.{◌≡◌, ℕ, zero, suc, ◌+◌, ◌<◌, ◌≤◌, List, [], ◌∷◌, ◌++◌, length, map, set, refl, sym, ◌∙◌, ap, subst, inl, inr, ⊎_elim, ◌⊎◌, arith, Some, slice_get, length-append, length-set}
use Rattle.std.proofs.lemmas.Option.{slice_get_within}
use Rattle.std.proofs.lemmas.List.{length-map, map-append}
use Rattle.std.proofs.lemmas.Bool.{cases_lt}
use Rattle.qs_tree.proofs.Elements.{set_cases}
use Rattle.qs_tree.specs.Lists.{◌∈◌}
use Rattle.qs_tree.proofs.Members.{in_at, in_append_left, in_append_right, from_append}
use Rattle.qs_pattern.specs.Rules.{IsUnique}
use Rattle.qs_pattern.proofs.Marks.{all_unique-true}
use Rattle.qs_graph.specs.Graphs.{QGraph, IsValid}
use Rattle.qs_graph.proofs.Paths.{place_of}
use Rattle.qs_firing.specs.Firings.{Firing}
use Rattle.qs_firing.specs.Adding.{adds, added}
use Rattle.qs_firing.specs.Work.{IsWorkOf, Work}
use Rattle.qs_firing.proofs.Within.{IsWithin, within_adds, length-adds}
use Rattle.qs_firing.proofs.Works.{one_greatest, fires_of_work, work_low, work_stays, work_back, works_back, one_work}
use Rattle.qs_core.specs.declared.step.Status.{Status}
use Rattle.qs_core.specs.declared.step.Status.TheVariants as status
use Rattle.qs_core.specs.declared.step.Stop.{Stop}
use Rattle.qs_core.specs.Growth.{Grown, DoneAt, AllApart, NoTwins}
use Rattle.qs_core.specs.Core.{Base, CoreState, Fired, fired, fired_at, all_wait, opening, rest_one, IsFree, Next, after_rest, after_claim, after_publish, after_stop}
use Rattle.qs_core.specs.Keeps.{AreFirst, Keeps}
use Rattle.qs_core.proofs.Growth.{grown_more, at_more, at_last, apart_more}
use Rattle.qs_core.proofs.Twins.{valid_ends, no_twins}
use Rattle.qs_core.proofs.Places.{all_waiting, more_cases, rest_cases, at_one_place}

pub keeps_opening : (B : Base) → Keeps B (opening B)
keeps_opening B = record {
  grown = refl;
  status_each = length-map B.start.arcs (λ x. status.Waiting);
  of_waiting = λ m e f w i. i;
  of_claimed = λ m i k e F w. let d = all_waiting B.start.arcs m (status.Claimed i k) e in absurd cc;
  of_done = λ m e f w. let d = all_waiting B.start.arcs m status.Done e in absurd cc;
  placed = λ f i. absurd i;
  one_claim = λ m n i k l e d. let c = all_waiting B.start.arcs m (status.Claimed i k) e in absurd cc;
  seated = λ m i k e. let c = all_waiting B.start.arcs m (status.Claimed i k) e in absurd cc;
  few = omega arith;
  once = tt;
  merged = λ v u k l arc at at' h. absurd (omega (arith, slice_get_within B.start.arcs l arc at'));
  results = λ d i. absurd i;
}

pub keeps_stopped : (B : Base) (S : CoreState) (s : Stop) → Keeps B S → Keeps B (after_stop S s)
keeps_stopped B S s K = record {
  grown = K.grown;
  status_each = K.status_each;
  of_waiting = K.of_waiting;
  of_claimed = K.of_claimed;
  of_done = K.of_done;
  placed = K.placed;
  one_claim = K.one_claim;
  seated = K.seated;
  few = K.few;
  once = K.once;
  merged = K.merged;
  results = K.results;
}

pub keeps_rest : (B : Base) (S : CoreState) (i : ℕ) → IsFree B S i → Keeps B S → Keeps B (after_rest S i)
keeps_rest B S i free K = record {
  grown = K.grown;
  status_each = length-map S.status (rest_one i) ∙ K.status_each;
  of_waiting = λ m e f w. ⊎_elim (λ (d, n). K.of_waiting m d f w) (λ (k, d, n). absurd cc) (rest_cases i S.status m status.Waiting e);
  of_claimed = λ m j k e F w. ⊎_elim (λ (d, n). K.of_claimed m j k d F w) (λ (l, d, n). absurd cc) (rest_cases i S.status m (status.Claimed j k) e);
  of_done = λ m e f w. ⊎_elim (λ (d, n). K.of_done m d f w) (λ (k, d, n). exhausted m k d f w) (rest_cases i S.status m status.Done e);
  placed = K.placed;
  one_claim = λ m n j k l e d. ⊎_elim
      (λ (e', x). ⊎_elim (λ (d', y). K.one_claim m n j k l e' d') (λ (p, d', y). absurd cc) (rest_cases i S.status n (status.Claimed j l) d))
      (λ (p, e', x). absurd cc)
      (rest_cases i S.status m (status.Claimed j k) e);
  seated = λ m j k e. ⊎_elim (λ (d, n). K.seated m j k d) (λ (l, d, n). absurd cc) (rest_cases i S.status m (status.Claimed j k) e);
  few = K.few;
  once = K.once;
  merged = K.merged;
  results = K.results;
}
  where
    exhausted : (m k : ℕ) → slice_get S.status m ≡ Some (status.Claimed i k) → (f : Firing) → IsWorkOf B.rules S.graph.arcs m f → f ∈ fired S
    exhausted m k d f w =
        let x = free m k d in
        let (j, at) = place_of x.work f (x.is.complete f w) in
        (K.of_claimed m i k d x.work x.is).before j f at (omega (arith, x.all, slice_get_within x.work j f at))

-- seat i claims a waiting arc, and has no other claim
keeps_claimed : (B : Base) (S : CoreState) (i m : ℕ) → i < B.seats → ((n k : ℕ) → slice_get S.status n ≡ Some (status.Claimed i k) → ⊥) → slice_get S.status m ≡ Some status.Waiting → Keeps B S
    → Keeps B (record { graph = S.graph; done = S.done; status = set S.status m (status.Claimed i 0); stop = S.stop })
keeps_claimed B S i m seat none waits K = record {
  grown = K.grown;
  status_each = length-set S.status m (status.Claimed i 0) ∙ K.status_each;
  of_waiting = λ n e f w. ⊎_elim (λ (d, c). absurd cc) (λ (ne, d). K.of_waiting n d f w) (set_cases S.status m (status.Claimed i 0) n status.Waiting e);
  of_claimed = λ n j k e F w. ⊎_elim (λ (d, c). fresh n j k d c F w) (λ (ne, d). K.of_claimed n j k d F w) (set_cases S.status m (status.Claimed i 0) n (status.Claimed j k) e);
  of_done = λ n e f w. ⊎_elim (λ (d, c). absurd cc) (λ (ne, d). K.of_done n d f w) (set_cases S.status m (status.Claimed i 0) n status.Done e);
  placed = K.placed;
  one_claim = λ n p j k l e d. one n p j k l (set_cases S.status m (status.Claimed i 0) n (status.Claimed j k) e) (set_cases S.status m (status.Claimed i 0) p (status.Claimed j l) d);
  seated = λ n j k e. ⊎_elim
      (λ (d, c). let same : j ≡ i = cc in subst (λ x. x < B.seats) (sym same) seat)
      (λ (ne, d). K.seated n j k d)
      (set_cases S.status m (status.Claimed i 0) n (status.Claimed j k) e);
  few = K.few;
  once = K.once;
  merged = K.merged;
  results = K.results;
}
  where
    fresh : (n j k : ℕ) → n ≡ m → status.Claimed j k ≡ status.Claimed i 0 → (F : List Firing) → Work B.rules S.graph.arcs n F → AreFirst (fired S) F k
    fresh n j k d c F w =
        let z : k ≡ 0 = cc in
        record {
          within = omega arith;
          before = λ l f at lt. absurd (omega arith);
          behind = λ l f at le. K.of_waiting n (ap (slice_get S.status) d ∙ waits) f (w.sound f (in_at F l f at));
        }

    one : (n p j k l : ℕ) → ((n ≡ m) × (status.Claimed j k ≡ status.Claimed i 0)) ⊎ ((n ≡ m → ⊥) × (slice_get S.status n ≡ Some (status.Claimed j k)))
        → ((p ≡ m) × (status.Claimed j l ≡ status.Claimed i 0)) ⊎ ((p ≡ m → ⊥) × (slice_get S.status p ≡ Some (status.Claimed j l))) → n ≡ p
    one n p j k l (inl (d, c)) (inl (e, b)) = d ∙ sym e
    one n p j k l (inl (d, c)) (inr (e, b)) = let same : j ≡ i = cc in absurd (none p l (b ∙ ap (λ x. Some (status.Claimed x l)) same))
    one n p j k l (inr (d, c)) (inl (e, b)) = let same : j ≡ i = cc in absurd (none n k (c ∙ ap (λ x. Some (status.Claimed x k)) same))
    one n p j k l (inr (d, c)) (inr (e, b)) = K.one_claim n p j k l c b

pub keeps_claim : (B : Base) (S : CoreState) (i m : ℕ) → i < B.seats → IsFree B S i → slice_get S.status m ≡ Some status.Waiting → Keeps B S → Keeps B (after_claim S i m)
keeps_claim B S i m seat free waits K = keeps_claimed B (after_rest S i) i m seat
    (λ n k e. ⊎_elim (λ (d, never). never k refl) (λ (l, d, f). cc) (rest_cases i S.status n (status.Claimed i k) e))
    (still S.status m waits)
    (keeps_rest B S i free K)
  where
    still : (xs : List Status) (m : ℕ) → slice_get xs m ≡ Some status.Waiting → slice_get (map (rest_one i) xs) m ≡ Some status.Waiting
    still [] m e = absurd cc
    still (x ∷ xs) zero e = let d : x ≡ status.Waiting = cc in ap (λ x. Some (rest_one i x)) d
    still (x ∷ xs) (suc m) e = still xs m e

-- the status of an arc behind a publication: that of the status.Claimed arc, an old one, or that of a new arc
abbrev Cases : (S : CoreState) (arc : ℕ) (claim : Status) → ℕ → Status → Type 0
Cases S arc claim m s = ((m ≡ arc) × (s ≡ claim)) ⊎ (((m ≡ arc → ⊥) × (slice_get S.status m ≡ Some s)) ⊎ ((length S.graph.arcs ≤ m) × (s ≡ status.Waiting)))

-- what is kept of the firings, without their results
record Kept (B : Base) (G : QGraph) (fs : List Firing) (all : List Status) : Type 0 where
  grown : Grown B.rules B.start fs G
  status_each : length all ≡ length G.arcs
  of_waiting : (m : ℕ) → slice_get all m ≡ Some status.Waiting → (f : Firing) → IsWorkOf B.rules G.arcs m f → f ∈ fs → ⊥
  of_claimed : (m i k : ℕ) → slice_get all m ≡ Some (status.Claimed i k) → (F : List Firing) → Work B.rules G.arcs m F → AreFirst fs F k
  of_done : (m : ℕ) → slice_get all m ≡ Some status.Done → (f : Firing) → IsWorkOf B.rules G.arcs m f → f ∈ fs
  placed : (f : Firing) → f ∈ fs → (m : ℕ) × IsWorkOf B.rules G.arcs m f
  seated : (m i k : ℕ) → slice_get all m ≡ Some (status.Claimed i k) → i < B.seats
  one_claim : (m n i k l : ℕ) → slice_get all m ≡ Some (status.Claimed i k) → slice_get all n ≡ Some (status.Claimed i l) → m ≡ n
  once : AllApart fs
  merged : IsValid B.start → IsUnique B.rules → NoTwins B.start G

kept_publish : (B : Base) (S : CoreState) (i : ℕ) (n : Next B S i) → Keeps B S → Kept B (adds B.rules S.graph n.firing) (fired S ++ n.firing ∷ []) (set S.status n.arc (status.Claimed i (n.k + 1)) ++ all_wait (added B.rules S.graph n.firing))
kept_publish B S i n K = record {
  grown = grown_more B.rules B.start (fired S) S.graph n.firing K.grown (fires_of_work B.rules mine);
  status_each = omega (
    arith,
    K.status_each,
    length-append (set S.status n.arc (status.Claimed i (n.k + 1))) (all_wait (added B.rules S.graph n.firing)),
    length-set S.status n.arc (status.Claimed i (n.k + 1)),
    length-map (added B.rules S.graph n.firing) (λ x. status.Waiting),
    length-adds B.rules S.graph n.firing,
  );
  of_waiting = λ m e f w j. waits m f w j (cases m status.Waiting e);
  of_claimed = λ m j k e F w. claims m j k F w (cases m (status.Claimed j k) e);
  of_done = λ m e f w. finishes m f w (cases m status.Done e);
  placed = λ f j. ⊎_elim (λ d. let (m, w) = K.placed f d in (m, work_stays B.rules within (work_low B.rules w) w)) (λ e. (n.arc, work_stays B.rules within low (is_mine f e))) (done_cases f j);
  seated = λ m j k e. seats m j k (cases m (status.Claimed j k) e);
  one_claim = λ m p j k l e d. one m p j k l (cases m (status.Claimed j k) e) (cases p (status.Claimed j l) d);
  once = apart_more (fired S) n.firing K.once fresh;
  merged = λ v u. no_twins B.rules B.start (valid_ends v) (all_unique-true B.rules u) ((fired S) ++ n.firing ∷ []) (adds B.rules S.graph n.firing)
      (grown_more B.rules B.start (fired S) S.graph n.firing K.grown (fires_of_work B.rules mine));
}
  where
    mine : IsWorkOf B.rules S.graph.arcs n.arc n.firing
    mine = n.is.sound n.firing (in_at n.work n.k n.firing n.at)

    is_mine : (f : Firing) → f ≡ n.firing → IsWorkOf B.rules S.graph.arcs n.arc f
    is_mine f e = subst (IsWorkOf B.rules S.graph.arcs n.arc) (sym e) mine

    low : n.arc < length S.graph.arcs
    low = work_low B.rules mine

    within : IsWithin S.graph (adds B.rules S.graph n.firing)
    within = within_adds B.rules S.graph n.firing

    first : AreFirst (fired S) n.work n.k
    first = K.of_claimed n.arc i n.k n.claim n.work n.is

    fresh : n.firing ∈ (fired S) → ⊥
    fresh = first.behind n.k n.firing n.at (omega arith)

    done_cases : (f : Firing) → f ∈ ((fired S) ++ n.firing ∷ []) → (f ∈ (fired S)) ⊎ (f ≡ n.firing)
    done_cases f j = ⊎_elim inl (λ k. inr (⊎_elim (λ e. e) (λ b. absurd b) k)) (from_append (fired S) (n.firing ∷ []) f j)

    cases : (m : ℕ) (s : Status) → slice_get (set S.status n.arc (status.Claimed i (n.k + 1)) ++ all_wait (added B.rules S.graph n.firing)) m ≡ Some s → Cases S n.arc (status.Claimed i (n.k + 1)) m s
    cases m s e = ⊎_elim
        (λ d. ⊎_elim inl (λ c. inr (inl c)) (set_cases S.status n.arc (status.Claimed i (n.k + 1)) m s d))
        (λ (h, (j, d)). inr (inr (omega (arith, K.status_each, length-set S.status n.arc (status.Claimed i (n.k + 1))), all_waiting (added B.rules S.graph n.firing) j s d)))
        (more_cases (set S.status n.arc (status.Claimed i (n.k + 1))) (all_wait (added B.rules S.graph n.firing)) m s e)

    old_low : (m : ℕ) (s : Status) → slice_get S.status m ≡ Some s → m < length S.graph.arcs
    old_low m s e = omega (arith, K.status_each, slice_get_within S.status m s e)

    -- the firing that is now done is in the work of no other arc
    not_mine : (m : ℕ) (f : Firing) → (m ≡ n.arc → ⊥) → IsWorkOf B.rules S.graph.arcs m f → f ≡ n.firing → ⊥
    not_mine m f ne w e = ne (one_greatest w.greatest (is_mine f e).greatest)

    waits : (m : ℕ) (f : Firing) → IsWorkOf B.rules (adds B.rules S.graph n.firing).arcs m f → f ∈ ((fired S) ++ n.firing ∷ []) → Cases S n.arc (status.Claimed i (n.k + 1)) m status.Waiting → ⊥
    waits m f w j (inl (d, c)) = cc
    waits m f w j (inr (inl (ne, e))) =
        let b = work_back B.rules within (old_low m status.Waiting e) w in
        ⊎_elim (K.of_waiting m e f b) (not_mine m f ne b) (done_cases f j)
    waits m f w j (inr (inr (h, e))) = ⊎_elim
        (λ d. let (p, x) = K.placed f d in let same : m ≡ p = one_greatest w.greatest x.greatest in omega (arith, work_low B.rules x))
        (λ d. let same : m ≡ n.arc = one_greatest w.greatest (is_mine f d).greatest in omega (arith, low))
        (done_cases f j)

    finishes : (m : ℕ) (f : Firing) → IsWorkOf B.rules (adds B.rules S.graph n.firing).arcs m f → Cases S n.arc (status.Claimed i (n.k + 1)) m status.Done → f ∈ ((fired S) ++ n.firing ∷ [])
    finishes m f w (inl (d, c)) = absurd cc
    finishes m f w (inr (inl (ne, e))) = in_append_left (fired S) (n.firing ∷ []) f (K.of_done m e f (work_back B.rules within (old_low m status.Done e) w))
    finishes m f w (inr (inr (h, e))) = absurd cc

    claims : (m j k : ℕ) (F : List Firing) → Work B.rules (adds B.rules S.graph n.firing).arcs m F → Cases S n.arc (status.Claimed i (n.k + 1)) m (status.Claimed j k) → AreFirst ((fired S) ++ n.firing ∷ []) F k
    claims m j k F w (inl (d, c)) =
        let at_arc : Work B.rules (adds B.rules S.graph n.firing).arcs n.arc F = subst (λ x. Work B.rules (adds B.rules S.graph n.firing).arcs x F) d w in
        let same : F ≡ n.work = one_work B.rules (works_back B.rules within low at_arc) n.is in
        let ke : k ≡ n.k + 1 = cc in
        subst (λ X. AreFirst ((fired S) ++ n.firing ∷ []) X k) (sym same) (record {
          within = omega (arith, slice_get_within n.work n.k n.firing n.at);
          before = λ p f at lt. ⊎_elim
              (λ l. in_append_left (fired S) (n.firing ∷ []) f (first.before p f at l))
              (λ g. let pe : p ≡ n.k = omega arith in let x : slice_get n.work n.k ≡ Some f = subst (λ q. slice_get n.work q ≡ Some f) pe at in
              let y = n.at in in_append_right (fired S) (n.firing ∷ []) f (inl cc))
              (cases_lt p n.k);
          behind = λ p f at le. λ dn. ⊎_elim
              (first.behind p f at (omega arith))
              (λ e. let x : slice_get n.work p ≡ Some n.firing = at ∙ ap Some e in omega (arith, at_one_place n.work n.is.ascends p n.k n.firing x n.at))
              (done_cases f dn);
        })
    claims m j k F w (inr (inl (ne, e))) =
        let b = works_back B.rules within (old_low m (status.Claimed j k) e) w in
        let a = K.of_claimed m j k e F b in
        record {
          within = a.within;
          before = λ p f at lt. in_append_left (fired S) (n.firing ∷ []) f (a.before p f at lt);
          behind = λ p f at le dn. ⊎_elim (a.behind p f at le) (not_mine m f ne (b.sound f (in_at F p f at))) (done_cases f dn);
        }
    claims m j k F w (inr (inr (h, e))) = absurd cc

    seats : (m j k : ℕ) → Cases S n.arc (status.Claimed i (n.k + 1)) m (status.Claimed j k) → j < B.seats
    seats m j k (inl (d, c)) = let same : j ≡ i = cc in subst (λ x. x < B.seats) (sym same) (K.seated n.arc i n.k n.claim)
    seats m j k (inr (inl (ne, e))) = K.seated m j k e
    seats m j k (inr (inr (h, e))) = absurd cc

    one : (m p j k l : ℕ) → Cases S n.arc (status.Claimed i (n.k + 1)) m (status.Claimed j k) → Cases S n.arc (status.Claimed i (n.k + 1)) p (status.Claimed j l) → m ≡ p
    one m p j k l (inl (d, c)) (inl (e, b)) = d ∙ sym e
    one m p j k l (inl (d, c)) (inr (inl (ne, b))) =
        let same : j ≡ i = cc in absurd (ne (K.one_claim p n.arc i l n.k (b ∙ ap (λ x. Some (status.Claimed x l)) same) n.claim))
    one m p j k l (inr (inl (ne, b))) (inl (d, c)) =
        let same : j ≡ i = cc in absurd (ne (K.one_claim m n.arc i k n.k (b ∙ ap (λ x. Some (status.Claimed x k)) same) n.claim))
    one m p j k l (inr (inl (ne, b))) (inr (inl (mne, c))) = K.one_claim m p j k l b c
    one m p j k l (inr (inr (h, e))) d = absurd cc
    one m p j k l c (inr (inr (h, e))) = absurd cc

pub fired-one : (B : Base) (S : CoreState) (i : ℕ) (n : Next B S i) → fired (after_publish B.rules S i n.arc n.k n.firing) ≡ fired S ++ n.firing ∷ []
fired-one B S i n = map-append (λ (d : Fired). d.firing) S.done (fired_at B.rules S.graph n.firing ∷ [])

pub keeps_publish : (B : Base) (S : CoreState) (i : ℕ) (n : Next B S i) → length S.done < B.limit → Keeps B S → Keeps B (after_publish B.rules S i n.arc n.k n.firing)
keeps_publish B S i n less K = record {
  grown = kept.grown;
  status_each = kept.status_each;
  of_waiting = kept.of_waiting;
  of_claimed = kept.of_claimed;
  of_done = kept.of_done;
  placed = kept.placed;
  one_claim = kept.one_claim;
  seated = kept.seated;
  few = omega (arith, less, length-append S.done (new ∷ []));
  once = kept.once;
  merged = kept.merged;
  results = λ d j. ⊎_elim (old d) (λ k. ⊎_elim (now d) (λ b. absurd b) k) (from_append S.done (new ∷ []) d j);
}
  where
    new : Fired
    new = fired_at B.rules S.graph n.firing

    kept : Kept B (adds B.rules S.graph n.firing) (fired (after_publish B.rules S i n.arc n.k n.firing)) (set S.status n.arc (status.Claimed i (n.k + 1)) ++ all_wait (added B.rules S.graph n.firing))
    kept = subst (λ fs. Kept B (adds B.rules S.graph n.firing) fs (set S.status n.arc (status.Claimed i (n.k + 1)) ++ all_wait (added B.rules S.graph n.firing))) (sym (fired-one B S i n)) (kept_publish B S i n K)

    old : (d : Fired) → d ∈ S.done → (P : QGraph) × DoneAt B.rules B.start (fired (after_publish B.rules S i n.arc n.k n.firing)) d.firing P × (d ≡ fired_at B.rules P d.firing)
    old d j = let (P, a, l) = K.results d j in
        (P, subst (λ xs. DoneAt B.rules B.start xs d.firing P) (sym (fired-one B S i n)) (at_more B.rules B.start (fired S) (n.firing ∷ []) d.firing P a), l)

    now : (d : Fired) → d ≡ new → (P : QGraph) × DoneAt B.rules B.start (fired (after_publish B.rules S i n.arc n.k n.firing)) d.firing P × (d ≡ fired_at B.rules P d.firing)
    now d e = subst (λ (x : Fired). (P : QGraph) × DoneAt B.rules B.start (fired (after_publish B.rules S i n.arc n.k n.firing)) x.firing P × (x ≡ fired_at B.rules P x.firing)) (sym e)
        (S.graph, subst (λ xs. DoneAt B.rules B.start xs n.firing S.graph) (sym (fired-one B S i n)) (at_last B.rules B.start (fired S) S.graph n.firing K.grown), refl)
