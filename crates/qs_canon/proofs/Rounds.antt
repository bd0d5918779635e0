-- A round is determined by the graph and the done firings.
use Rattle.std.proofs.Common.{◌≡◌, ℕ, zero, suc, ◌+◌, ◌<◌, ◌≤◌, List, [], ◌∷◌, length, refl, sym, ◌∙◌, ap, subst, ⊎_elim, arith, length-append}
use Rattle.std.proofs.Math.Nat.{eq-or-lt_of_le}
use Rattle.std.proofs.lemmas.Bool.{cases_lt}
use Rattle.qs_tree.specs.Lists.{◌∈◌}
use Rattle.qs_pattern.specs.Rules.{Rule}
use Rattle.qs_graph.specs.Graphs.{QGraph}
use Rattle.qs_firing.specs.Firings.{Firing}
use Rattle.qs_firing.specs.Adding.{first_arc, meets}
use Rattle.qs_canon.specs.Rounds.{Round, Rounds, Stage, firings, after, after_one, Closes, Needs}
use Rattle.qs_firing.proofs.Orders.{Before-asym}
use Rattle.qs_firing.proofs.Ascending.{same_ascending}

-- what a round has, the other has
there : {R : List Rule} {G : QGraph} {H E F : List Firing} → Round R G H E → Round R G H F → (f : Firing) → f ∈ E → f ∈ F
there e r f i = ⊎_elim (λ d. absurd (e.new f i d)) (λ j. j) (r.all f (e.fires f i))

pub one_round : {R : List Rule} {G : QGraph} {H E F : List Firing} → Round R G H E → Round R G H F → E ≡ F
one_round {E = E} {F = F} e f = same_ascending Before-asym E F e.ascends f.ascends (there e f) (there f e)

-- what n rounds reach is determined
pub one_stage : (R : List Rule) (G : QGraph) (n : ℕ) (S T : Stage) → Rounds R G n S → Rounds R G n T → S ≡ T
one_stage R G zero S T s t = s ∙ sym t
one_stage R G (suc n) S T (B, E, b, e, s) (C, F, c, f, t) =
    let p : B ≡ C = one_stage R G n B C b c in
    let f' : Round R B.graph (firings B) F = subst (λ (X : Stage). Round R X.graph (firings X) F) (sym p) f in
    let q : E ≡ F = one_round e f' in
    cc

pub length-after : (R : List Rule) (n : ℕ) (S : Stage) (F : List Firing) → length (after R n S F).done ≡ length S.done + length F
length-after R n S [] = omega arith
length-after R n S (f ∷ fs) =
    omega (arith, length-after R n (after_one R n S f) fs, length-append S.done (record { firing = f; first = first_arc R S.graph f; round = n; met = meets R S.graph f } ∷ []))

-- an earlier stage has no more firings
pub earlier : (R : List Rule) (G : QGraph) (n m : ℕ) (S T : Stage) → m ≤ n → Rounds R G n S → Rounds R G m T → length T.done ≤ length S.done
earlier R G n m S T h s t = ⊎_elim (same n m S T s t) (before n m S T s t) (eq-or-lt_of_le h)
  where
    same : (n m : ℕ) (S T : Stage) → Rounds R G n S → Rounds R G m T → m ≡ n → length T.done ≤ length S.done
    same n m S T s t e =
        let s' : Rounds R G m S = subst (λ (k : ℕ). Rounds R G k S) (sym e) s in
        let p : S ≡ T = one_stage R G m S T s' t in
        omega (arith, ap (λ (X : Stage). length X.done) p)

    before : (n m : ℕ) (S T : Stage) → Rounds R G n S → Rounds R G m T → m < n → length T.done ≤ length S.done
    before zero m S T s t h = absurd (omega arith)
    before (suc n) m S T (B, F, b, f, is) t h =
        let small : length T.done ≤ length B.done = ⊎_elim (same n m B T b t) (before n m B T b t) (eq-or-lt_of_le (omega arith)) in
        omega (arith, length-after R (suc n) B F, ap (λ (X : Stage). length X.done) is)

-- once closed, always closed
pub stays_closed : (R : List Rule) (G : QGraph) (n m : ℕ) (C S : Stage) → n ≤ m → Rounds R G n C → Round R C.graph (firings C) [] → Rounds R G m S → S ≡ C
stays_closed R G n zero C S h c r s =
    let e : n ≡ zero = omega arith in
    let c' : Rounds R G zero C = subst (λ (k : ℕ). Rounds R G k C) e c in
    one_stage R G zero S C s c'
stays_closed R G n (suc m) C S h c r (B, F, b, f, is) = ⊎_elim same (before (λ le. stays_closed R G n m C B le c r b)) (eq-or-lt_of_le h)
  where
    same : n ≡ suc m → S ≡ C
    same e =
        let c' : Rounds R G (suc m) C = subst (λ (k : ℕ). Rounds R G k C) e c in
        one_stage R G (suc m) S C (B, F, b, f, is) c'

    before : (n ≤ m → B ≡ C) → n < suc m → S ≡ C
    before hyp lt =
        let p : B ≡ C = hyp (omega arith) in
        let f' : Round R C.graph (firings C) F = subst (λ (X : Stage). Round R X.graph (firings X) F) p f in
        let q : F ≡ [] = one_round f' r in
        let e : after R (suc m) B F ≡ B = subst (λ (X : List Firing). after R (suc m) B X ≡ B) (sym q) refl in
        is ∙ e ∙ p

-- no rules both close with at most L firings and need more
pub not_both : (R : List Rule) (G : QGraph) (L : ℕ) (C : Stage) → Closes R G C → length C.done ≤ L → Needs R G L → ⊥
not_both R G L C c few n = ⊎_elim late early (cases_lt n.rounds c.rounds)
  where
    late : n.rounds < c.rounds → ⊥
    late h = omega (arith, n.more, earlier R G c.rounds n.rounds C n.stage (omega arith) c.reached n.reached)

    early : c.rounds ≤ n.rounds → ⊥
    early h =
        let p : n.stage ≡ C = stays_closed R G c.rounds n.rounds C n.stage h c.reached c.closed n.reached in
        omega (arith, n.more, ap (λ (X : Stage). length X.done) p)

-- there is one closure
pub one_closure : (R : List Rule) (G : QGraph) (C D : Stage) → Closes R G C → Closes R G D → C ≡ D
one_closure R G C D c d = ⊎_elim
    (λ h. sym (stays_closed R G c.rounds d.rounds C D (omega arith) c.reached c.closed d.reached))
    (λ h. stays_closed R G d.rounds c.rounds D C h d.reached d.closed c.reached)
    (cases_lt c.rounds d.rounds)
