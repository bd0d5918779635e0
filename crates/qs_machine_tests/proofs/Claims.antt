-- Each seat's claim is what is held for it, before each step and behind it.
use Rattle.std.proofs.Common.{◌≡◌, ℕ, zero, suc, ◌+◌, ◌<◌, Bool, true, false, List, [], ◌∷◌, ◌++◌, length, map, set, get_or, refl, sym, ◌∙◌, ap, subst, inl, inr, ⊎_elim, arith, Option, Some, None, slice_get}
use Rattle.std.specs.Prelude.{◌↔◌, IsTrue, if◌then◌else◌}
use Rattle.std.proofs.lemmas.Option.{slice_get_within}
use Rattle.std.proofs.lemmas.List.{length-map}
use Rattle.qs_tree.proofs.Elements.{set_here, set_other, set_cases}
use Rattle.qs_tree.proofs.Members.{at_place}
use Rattle.qs_pattern.specs.Rules.{Rule}
use Rattle.qs_graph.proofs.Paths.{slice_get-append}
use Rattle.qs_firing.specs.Firings.{Firing}
use Rattle.qs_firing.specs.Adding.{added}
use Rattle.qs_firing.specs.Work.{WorkWithTrees, IsRightFor}
use Rattle.qs_core.specs.declared.step.Status.TheVariants as status
use Rattle.qs_core.specs.declared.step.Step.TheVariants as step
use Rattle.qs_core.specs.declared.answers.End.{End}
use Rattle.qs_core.specs.declared.answers.End.TheVariants as end
use Rattle.qs_core.specs.declared.answers.Claim.{Claim}
use Rattle.qs_core.specs.declared.answers.Claim.TheVariants as claim
use Rattle.qs_core.specs.declared.answers.Put.{Put}
use Rattle.qs_core.specs.declared.answers.Put.TheVariants as put
use Rattle.qs_core.specs.Core.{Base, CoreState, opening, all_wait, rest_one, HasClaim, IsFree, after_rest, after_claim, after_publish}
use Rattle.qs_core.specs.Runs.{Machine, with_step, IsReplayed}
use Rattle.qs_core.specs.Answers.{opened, RestsIfClaimed, IsClaimed, IsPublished, IsHalted}
use Rattle.qs_machine_tests.specs.working.Claims.{AreHeld}
use Rattle.qs_core.proofs.Places.{all_waiting, more_cases, rest_cases}
use Rattle.qs_core.proofs.Runs.{keeps, status_of_rested}
use Rattle.qs_core.proofs.Staying.{free_worked}

neither : (i : ℕ) (x : ℕ × ℕ) → slice_get (None ∷ None ∷ []) i ≡ Some (Some x) → ⊥
neither zero x e = cc
neither (suc zero) x e = cc
neither (suc (suc i)) x e = cc

pub held_opening : (B : Base) → AreHeld (None ∷ None ∷ []) (opening B)
held_opening B i m k = ((λ e. let w = all_waiting B.start.arcs m (status.Claimed i k) e in absurd cc), (λ e. absurd (neither i (m, k) e)))

pub held_claim : (S : CoreState) (held : List (Option (ℕ × ℕ))) (i m : ℕ) → i < length held → slice_get S.status m ≡ Some status.Waiting → AreHeld held S → AreHeld (set held i (Some (m, 0))) (after_claim S i m)
held_claim S held i m low waits H j n k = (there, back)
  where
    there : slice_get (set (map (rest_one i) S.status) m (status.Claimed i 0)) n ≡ Some (status.Claimed j k) → slice_get (set held i (Some (m, 0))) j ≡ Some (Some (n, k))
    there e = ⊎_elim
        (λ (d, c). let same : j ≡ i = cc in let none : k ≡ 0 = cc in
        ap (slice_get (set held i (Some (m, 0)))) same ∙ set_here held i (Some (m, 0)) low ∙ (λ x. Some (Some (sym d x, sym none x))))
        (λ (ne, c). ⊎_elim
        (λ (a, other). set_other held i (Some (m, 0)) j (Some (n, k)) (λ d. other k (ap (λ l. status.Claimed l k) d)) ((H j n k).0 a))
        (λ (l, a, done). absurd cc)
        (rest_cases i S.status n (status.Claimed j k) c))
        (set_cases (map (rest_one i) S.status) m (status.Claimed i 0) n (status.Claimed j k) e)

    back : slice_get (set held i (Some (m, 0))) j ≡ Some (Some (n, k)) → slice_get (set (map (rest_one i) S.status) m (status.Claimed i 0)) n ≡ Some (status.Claimed j k)
    back e = ⊎_elim
        (λ (d, c). let pair : ◌≡◌ {A = ℕ × ℕ} (n, k) (m, 0) = cc in
        ap (λ (p : ℕ × ℕ). slice_get (set (map (rest_one i) S.status) m (status.Claimed i 0)) p.0) pair
        ∙ set_here (map (rest_one i) S.status) m (status.Claimed i 0) (omega (arith, slice_get_within S.status m status.Waiting waits, length-map S.status (rest_one i)))
        ∙ (λ x. Some (status.Claimed (sym d x) (sym pair x).1)))
        (λ (ne, c).
        set_other (map (rest_one i) S.status) m (status.Claimed i 0) n (status.Claimed j k)
        (λ d. let h = (H j n k).1 c in let w = ap (slice_get S.status) d in cc)
        (status_of_rested i j k (λ d. ne (sym d)) S.status n ((H j n k).1 c)))
        (set_cases held i (Some (m, 0)) j (Some (n, k)) e)

pub held_rest : (S : CoreState) (held : List (Option (ℕ × ℕ))) (i : ℕ) → AreHeld held S → AreHeld (set held i None) (after_rest S i)
held_rest S held i H j n k = (there, back)
  where
    there : slice_get (map (rest_one i) S.status) n ≡ Some (status.Claimed j k) → slice_get (set held i None) j ≡ Some (Some (n, k))
    there e = ⊎_elim
        (λ (a, other). set_other held i None j (Some (n, k)) (λ d. other k (ap (λ l. status.Claimed l k) d)) ((H j n k).0 a))
        (λ (l, a, done). absurd cc)
        (rest_cases i S.status n (status.Claimed j k) e)

    back : slice_get (set held i None) j ≡ Some (Some (n, k)) → slice_get (map (rest_one i) S.status) n ≡ Some (status.Claimed j k)
    back e = ⊎_elim
        (λ (d, c). absurd cc)
        (λ (ne, c). status_of_rested i j k (λ d. ne (sym d)) S.status n ((H j n k).1 c))
        (set_cases held i None j (Some (n, k)) e)

pub held_rests : (M N : Machine) (held : List (Option (ℕ × ℕ))) (i : ℕ) → RestsIfClaimed M i N → AreHeld held M.state → AreHeld (set held i None) N.state
held_rests M N held i (inl (claim, is)) H = subst (λ (X : Machine). AreHeld (set held i None) X.state) (sym is) (held_rest M.state held i H)
held_rests M N held i (inr (none, is)) H = subst (λ (X : Machine). AreHeld (set held i None) X.state) (sym is) nothing
  where
    nothing : AreHeld (set held i None) M.state
    nothing j n k = (
      (λ a. set_other held i None j (Some (n, k)) (λ d. none (n, k, subst (λ l. HasClaim M.state l n k) d a)) ((H j n k).0 a)),
      (λ e. ⊎_elim (λ (d, c). absurd cc) (λ (ne, c). (H j n k).1 c) (set_cases held i None j (Some (n, k)) e)),
    )

pub held_publish : (R : List Rule) (S : CoreState) (held : List (Option (ℕ × ℕ))) (i m k : ℕ) (f : Firing) → slice_get held i ≡ Some (Some (m, k)) → AreHeld held S
    → AreHeld (set held i (Some (m, k + 1))) (after_publish R S i m k f)
held_publish R S held i m k f at H j n l = (there, back)
  where
    there : slice_get (set S.status m (status.Claimed i (k + 1)) ++ all_wait (added R S.graph f)) n ≡ Some (status.Claimed j l) → slice_get (set held i (Some (m, k + 1))) j ≡ Some (Some (n, l))
    there e = ⊎_elim
        (λ a. ⊎_elim
        (λ (d, c). let same : j ≡ i = cc in let number : l ≡ k + 1 = cc in
        ap (slice_get (set held i (Some (m, k + 1)))) same ∙ set_here held i (Some (m, k + 1)) (slice_get_within held i (Some (m, k)) at) ∙ (λ x. Some (Some (sym d x, sym number x))))
        (λ (ne, c). set_other held i (Some (m, k + 1)) j (Some (n, l))
        (λ d. ne (let both : ◌≡◌ {A = Option (Option (ℕ × ℕ))} (Some (Some (n, l))) (Some (Some (m, k))) = sym ((H j n l).0 c) ∙ ap (slice_get held) d ∙ at in
        let pair : ◌≡◌ {A = ℕ × ℕ} (n, l) (m, k) = cc in ap (λ (p : ℕ × ℕ). p.0) pair))
        ((H j n l).0 c))
        (set_cases S.status m (status.Claimed i (k + 1)) n (status.Claimed j l) a))
        (λ (low, (x, w)). let z = all_waiting (added R S.graph f) x (status.Claimed j l) w in absurd cc)
        (more_cases (set S.status m (status.Claimed i (k + 1))) (all_wait (added R S.graph f)) n (status.Claimed j l) e)

    back : slice_get (set held i (Some (m, k + 1))) j ≡ Some (Some (n, l)) → slice_get (set S.status m (status.Claimed i (k + 1)) ++ all_wait (added R S.graph f)) n ≡ Some (status.Claimed j l)
    back e = slice_get-append (set S.status m (status.Claimed i (k + 1))) (all_wait (added R S.graph f)) n (status.Claimed j l) (⊎_elim
        (λ (d, c). let pair : ◌≡◌ {A = ℕ × ℕ} (n, l) (m, k + 1) = cc in
        ap (λ (p : ℕ × ℕ). slice_get (set S.status m (status.Claimed i (k + 1))) p.0) pair
        ∙ set_here S.status m (status.Claimed i (k + 1)) (slice_get_within S.status m (status.Claimed i k) ((H i m k).1 at))
        ∙ (λ x. Some (status.Claimed (sym d x) (sym pair x).1)))
        (λ (ne, c).
        set_other S.status m (status.Claimed i (k + 1)) n (status.Claimed j l)
        (λ d. ne (let h = (H j n l).1 c in let g = (H i m k).1 at in let w = ap (slice_get S.status) d in let same : j ≡ i = cc in same))
        ((H j n l).1 c))
        (set_cases held i (Some (m, k + 1)) j (Some (n, l)) e))

pub free_of_none : (B : Base) (S : CoreState) (held : List (Option (ℕ × ℕ))) (i : ℕ) → AreHeld held S → slice_get held i ≡ Some None → IsFree B S i
free_of_none B S held i H at m k c = absurd (let h = (H i m k).0 c in cc)

pub claim_of_work : (S : CoreState) (held : List (Option (ℕ × ℕ))) (i m k : ℕ) (work : WorkWithTrees) → AreHeld held S → slice_get held i ≡ Some (Some (m, k)) → work.arc ≡ m → HasClaim S i work.arc k
claim_of_work S held i m k work H at arc = subst (λ n. HasClaim S i n k) (sym arc) ((H i m k).1 at)

pub free_of_some : (M : Machine) (held : List (Option (ℕ × ℕ))) (i m k : ℕ) (work : WorkWithTrees) → IsReplayed M → AreHeld held M.state → slice_get held i ≡ Some (Some (m, k)) → work.arc ≡ m
    → IsRightFor M.base.rules M.state.graph.arcs work → k ≡ length work.made → IsFree M.base M.state i
free_of_some M held i m k work run H at arc right all =
    free_worked M.base M.state (keeps M.base M.journal M.state.stop M.state run) i k work (claim_of_work M.state held i m k work H at arc) right all

pub held_at : (held : List (Option (ℕ × ℕ))) (i : ℕ) (x y : Option (ℕ × ℕ)) → i < length held → x ≡ get_or held i x → x ≡ y → slice_get held i ≡ Some y
held_at held i x y low read is = at_place held i x low read ∙ ap (λ z. Some z) is

pub held_opened : (M : Machine) (B : Base) (held : List (Option (ℕ × ℕ))) → M ≡ opened B → held ≡ None ∷ None ∷ [] → AreHeld held M.state
held_opened M B held is list = subst (λ (X : Machine). AreHeld held X.state) (sym is) (subst (λ xs. AreHeld xs (opening B)) (sym list) (held_opening B))

same_held : (M₀ M : Machine) (held : List (Option (ℕ × ℕ))) → M ≡ M₀ → AreHeld held M₀.state → AreHeld held M.state
same_held M₀ M held same H = subst (λ (X : Machine). AreHeld held X.state) (sym same) H

pub held_took : (M₀ M N : Machine) (held : List (Option (ℕ × ℕ))) (i m : ℕ) (answer : Claim) → answer ≡ claim.Took m → i < length held → AreHeld held M₀.state → M ≡ M₀ → IsClaimed M i answer N → AreHeld (set held i (Some (m, 0))) N.state
held_took M₀ M N held i m answer told low H same claimed =
    let (going, waits, is) = subst (λ (a : Claim). IsClaimed M i a N) told claimed in
    same_held (with_step M (step.Claim i m) (after_claim M.state i m)) N (set held i (Some (m, 0))) is (held_claim M.state held i m low waits (same_held M₀ M held same H))

pub held_found_none : (M₀ M N : Machine) (held : List (Option (ℕ × ℕ))) (i : ℕ) (answer : Claim) → answer ≡ claim.NotYet → AreHeld held M₀.state → M ≡ M₀ → IsClaimed M i answer N → AreHeld (set held i None) N.state
held_found_none M₀ M N held i answer told H same claimed =
    let (going, none, other, rests) = subst (λ (a : Claim). IsClaimed M i a N) told claimed in
    held_rests M N held i rests (same_held M₀ M held same H)

pub held_closed : (M₀ M N : Machine) (held : List (Option (ℕ × ℕ))) (i : ℕ) (answer : Claim) (e : End) → answer ≡ claim.Ended e → e ≡ end.Closed → AreHeld held M₀.state → M ≡ M₀ → IsClaimed M i answer N → AreHeld (set held i None) N.state
held_closed M₀ M N held i answer e told closed H same claimed =
    let (going, none, other, rests) = subst (λ (a : Claim). IsClaimed M i a N) (told ∙ ap (λ (x : End). claim.Ended x) closed) claimed in
    held_rests M N held i rests (same_held M₀ M held same H)

pub held_told : (M₀ M N : Machine) (held : List (Option (ℕ × ℕ))) (i : ℕ) (answer : Claim) (e : End) → answer ≡ claim.Ended e → e ≡ end.Over → AreHeld held M₀.state → M ≡ M₀ → IsClaimed M i answer N → AreHeld held N.state
held_told M₀ M N held i answer e told over H same claimed =
    let (stopped, is) = subst (λ (a : Claim). IsClaimed M i a N) (told ∙ ap (λ (x : End). claim.Ended x) over) claimed in
    same_held M N held is (same_held M₀ M held same H)

pub held_took_this : (M N : Machine) (held : List (Option (ℕ × ℕ))) (i m : ℕ) (took : Bool) → took ≡ true → i < length held → AreHeld held M.state
    → (IsTrue took ↔ ((M.state.stop ≡ None) × (slice_get M.state.status m ≡ Some status.Waiting)))
    → N ≡ (if took then with_step M (step.Claim i m) (after_claim M.state i m) else M) → AreHeld (set held i (Some (m, 0))) N.state
held_took_this M N held i m false e low H tells is = absurd cc
held_took_this M N held i m true e low H tells is = same_held (with_step M (step.Claim i m) (after_claim M.state i m)) N (set held i (Some (m, 0))) is (held_claim M.state held i m low (tells.0 refl).1 H)

pub held_rested : (M N : Machine) (held : List (Option (ℕ × ℕ))) (i : ℕ) (rested : Bool) → rested ≡ true → AreHeld held M.state → N ≡ (if rested then with_step M (step.Rest i) (after_rest M.state i) else M) → AreHeld (set held i None) N.state
held_rested M N held i false e H is = absurd cc
held_rested M N held i true e H is = same_held (with_step M (step.Rest i) (after_rest M.state i)) N (set held i None) is (held_rest M.state held i H)

pub held_missed : (M N T : Machine) (held : List (Option (ℕ × ℕ))) (took : Bool) → took ≡ false → AreHeld held M.state → N ≡ (if took then T else M) → AreHeld held N.state
held_missed M N T held true e H is = absurd cc
held_missed M N T held false e H is = same_held M N held is H

pub held_published : (M N : Machine) (held : List (Option (ℕ × ℕ))) (i m k : ℕ) (work : WorkWithTrees) (first : ℕ) (answer : Put) → answer ≡ put.Published first → slice_get held i ≡ Some (Some (m, k)) → work.arc ≡ m → AreHeld held M.state → IsPublished M i work k answer N
    → AreHeld (set held i (Some (m, k + 1))) N.state
held_published M N held i m k work first answer told at arc H published =
    let (going, few, (made, there, number, is)) = subst (λ (a : Put). IsPublished M i work k a N) told published in
    let done : AreHeld (set held i (Some (work.arc, k + 1))) (after_publish M.base.rules M.state i work.arc k made.firing) =
    held_publish M.base.rules M.state held i work.arc k made.firing (at ∙ ap (λ n. Some (Some (n, k))) (sym arc)) H in
    same_held (with_step M (step.Publish i) (after_publish M.base.rules M.state i work.arc k made.firing)) N (set held i (Some (m, k + 1))) is
    (subst (λ n. AreHeld (set held i (Some (n, k + 1))) (after_publish M.base.rules M.state i work.arc k made.firing)) arc done)

pub held_over : (M N : Machine) (held : List (Option (ℕ × ℕ))) (i k : ℕ) (work : WorkWithTrees) (answer : Put) → answer ≡ put.Over → AreHeld held M.state → IsPublished M i work k answer N → AreHeld held N.state
held_over M N held i k work answer told H published =
    let (going, full, is) = subst (λ (a : Put). IsPublished M i work k a N) told published in
    subst (λ (X : Machine). AreHeld held X.state) (sym is) H

pub held_ended : (M N : Machine) (held : List (Option (ℕ × ℕ))) (i k : ℕ) (work : WorkWithTrees) (answer : Put) (e : End) → answer ≡ put.Ended e → AreHeld held M.state → IsPublished M i work k answer N → AreHeld held N.state
held_ended M N held i k work answer e told H published =
    let (stopped, is) = subst (λ (a : Put). IsPublished M i work k a N) told published in
    same_held M N held is H

pub held_halted : (M N : Machine) (held : List (Option (ℕ × ℕ))) (i : ℕ) → IsHalted M i N → AreHeld held M.state → AreHeld held N.state
held_halted M N held i (inl (ended, is)) H = same_held M N held is H
held_halted M N held i (inr (going, is)) H = subst (λ (X : Machine). AreHeld held X.state) (sym is) H
