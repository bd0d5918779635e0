-- What a seat has seen stays so, whatever others enter.
use Rattle.std.proofs.Common.{◌≡◌, ℕ, suc, ◌<◌, List, [], ◌∷◌, ◌++◌, length, map, All, None, Some, refl, sym, ◌∙◌, ap, subst, inl, inr, ◌⊎◌, ⊎_elim, arith, append-nil, append_assoc}
use Rattle.std.specs.Prelude.{◌↔◌, Option}
use Rattle.std.proofs.lemmas.Option.{slice_get_within}
use Rattle.qs_graph.specs.Graphs.{Arc}
use Rattle.qs_firing.specs.Work.{Work, WorkWithTrees, IsRightFor}
use Rattle.qs_firing.proofs.Works.{work_older}
use Rattle.qs_turn.specs.History.{IsOtherPass, ContinuedByOthers}
use Rattle.qs_core.specs.declared.step.Step.TheVariants as step
use Rattle.qs_core.specs.declared.step.Stop.{Stop}
use Rattle.qs_core.specs.declared.step.Stop.TheVariants as stop
use Rattle.qs_core.specs.declared.step.Status.TheVariants as status
use Rattle.qs_core.specs.Core.{Base, CoreState, opening, HasClaim, IsFree, HasEnded}
use Rattle.qs_core.specs.Runs.{Machine}
use Rattle.qs_core.specs.Answers.{opened}
use Rattle.qs_core.specs.Keeps.{Keeps}
use Rattle.qs_core.proofs.Places.{all_waiting}
use Rattle.qs_core.proofs.Runs.{keeps, own}
use Rattle.qs_core.proofs.Staying.{free_worked, arcs_more}
use Rattle.qs_board.specs.declared.entry.Entry.{Entry}
use Rattle.qs_board.specs.declared.entry.Entry.TheVariants as entry
use Rattle.qs_board.specs.History.{entry_seat, IsBehind, HoldsBehind}
use Rattle.qs_board.proofs.Histories.{Enters, Leads, holds, none_leads, leads_on}

pub kept : (B : Base) (history : List Entry) (M : Machine) → IsBehind B history M → Keeps B M.state
kept B history M m = subst (λ (X : Base). Keeps X M.state) m.base (keeps M.base M.journal M.state.stop M.state m.replayed)

-- an arc that is claimed stands
pub claim_low : (B : Base) (history : List Entry) (M : Machine) → IsBehind B history M → (i a k : ℕ) → HasClaim M.state i a k → a < length M.state.graph.arcs
claim_low B history M m i a k c =
    let each = (kept B history M m).status_each in
    let in_it = slice_get_within M.state.status a (status.Claimed i k) c in
    omega (arith, each, in_it)

-- one entry leaves the claims of other seats alone
one_claim : (B : Base) (S : CoreState) (e : Entry) (T : CoreState) → Enters B S e T → (i m k : ℕ) → (entry_seat e ≡ i → ⊥) → HasClaim S i m k ↔ HasClaim T i m k
one_claim B S (entry.Step v) T made i m k other = own B S v T made i m k other
one_claim B S (entry.Stop (stop.Over j)) T (may, is) i m k other = subst (λ (X : CoreState). HasClaim S i m k ↔ HasClaim X i m k) (sym is) ((λ c. c), λ c. c)
one_claim B S (entry.Stop (stop.Halted j)) T (may, is) i m k other = subst (λ (X : CoreState). HasClaim S i m k ↔ HasClaim X i m k) (sym is) ((λ c. c), λ c. c)

claims_lead : (B : Base) (n i : ℕ) (S : CoreState) (es : List Entry) (T : CoreState) → Leads B S es T → All (λ e. IsOtherPass n i (entry_seat e)) es → (m k : ℕ) → HasClaim S i m k ↔ HasClaim T i m k
claims_lead B n i S [] T l others m k = subst (λ (X : CoreState). HasClaim S i m k ↔ HasClaim X i m k) l ((λ c. c), λ c. c)
claims_lead B n i S (e ∷ es) T (U, made, l) others m k =
    let first = one_claim B S e U made i m k (others 0 e (omega arith)).0 in
    let rest = claims_lead B n i U es T l (λ j d h. others (suc j) d (omega arith)) m k in
    ((λ c. rest.0 (first.0 c)), λ c. first.1 (rest.1 c))

-- no entry takes an arc away
one_entry_more : (B : Base) (S : CoreState) (e : Entry) (T : CoreState) → Enters B S e T → (more : List Arc) × (T.graph.arcs ≡ S.graph.arcs ++ more)
one_entry_more B S (entry.Step v) T made = arcs_more B S v T made
one_entry_more B S (entry.Stop (stop.Over j)) T (may, is) = ([], ap (λ (X : CoreState). X.graph.arcs) is ∙ sym (append-nil S.graph.arcs))
one_entry_more B S (entry.Stop (stop.Halted j)) T (may, is) = ([], ap (λ (X : CoreState). X.graph.arcs) is ∙ sym (append-nil S.graph.arcs))

pub arcs_lead : (B : Base) (S : CoreState) (es : List Entry) (T : CoreState) → Leads B S es T → (more : List Arc) × (T.graph.arcs ≡ S.graph.arcs ++ more)
arcs_lead B S [] T l = ([], ap (λ (X : CoreState). X.graph.arcs) (sym l) ∙ sym (append-nil S.graph.arcs))
arcs_lead B S (e ∷ es) T (U, made, l) =
    let (one, is) = one_entry_more B S e U made in
    let (more, on) = arcs_lead B U es T l in
    (one ++ more, on ∙ ap (λ xs. xs ++ more) is ∙ append_assoc S.graph.arcs one more)

-- a stop that stands stays
before_entry : (o : Option Stop) → (o ≡ None → ⊥) ⊎ (o ≡ None)
before_entry None = inr refl
before_entry (Some s) = inl (λ e. cc)

one_going : (B : Base) (S : CoreState) (e : Entry) (T : CoreState) → Enters B S e T → S.stop ≡ None
one_going B S (entry.Step (step.Claim i m)) T (may, is) = may.going
one_going B S (entry.Step (step.Rest i)) T (may, is) = may.going
one_going B S (entry.Step (step.Publish i)) T (may, is) = may.going
one_going B S (entry.Stop (stop.Over i)) T (may, is) = may.going
one_going B S (entry.Stop (stop.Halted i)) T (may, is) = ⊎_elim (λ n. absurd (may.not_ended (inr n))) (λ e. e) (before_entry S.stop)

going_before : (B : Base) (S : CoreState) (es : List Entry) (T : CoreState) → Leads B S es T → T.stop ≡ None → S.stop ≡ None
going_before B S [] T l none = ap (λ (X : CoreState). X.stop) l ∙ none
going_before B S (e ∷ es) T (U, made, l) none = one_going B S e U made

-- seen is what the pass of seat i has seen, and M is the machine behind it; N is the machine behind a history that goes
-- on from there
module _ (B : Base) (seen history : List Entry) (M N : Machine) (m : IsBehind B seen M) (n : IsBehind B history N) where
  pub right_stays : (later : List Entry) → history ≡ seen ++ later → (work : WorkWithTrees) → work.arc < length M.state.graph.arcs → IsRightFor B.rules M.state.graph.arcs work → IsRightFor B.rules N.state.graph.arcs work
  right_stays later is work low right =
      let (more, all) = arcs_lead B M.state later N.state (leads_on B seen later history M N m n is) in
      subst (λ (arcs : List Arc). IsRightFor B.rules arcs work) (sym all)
      (record { work = (work_older B.rules M.state.graph.arcs more work.arc (map (λ made. made.firing) work.made) low).0 right.work; trees = right.trees })

  pub arcs_stay : (later : List Entry) → history ≡ seen ++ later → (view : List Arc) → ((more : List Arc) × (M.state.graph.arcs ≡ view ++ more)) → (more : List Arc) × (N.state.graph.arcs ≡ view ++ more)
  arcs_stay later is view (old, same) =
      let (more, all) = arcs_lead B M.state later N.state (leads_on B seen later history M N m n is) in
      (old ++ more, all ∙ ap (λ xs. xs ++ more) same ∙ append_assoc view old more)

  pub going_stays : (later : List Entry) → history ≡ seen ++ later → N.state.stop ≡ None → M.state.stop ≡ None
  going_stays later is none = going_before B M.state later N.state (leads_on B seen later history M N m n is) none

  pub none_later : (later : List Entry) → history ≡ seen ++ later → HasEnded M.state → later ≡ []
  none_later later is ended = none_leads B M.state later N.state ended (leads_on B seen later history M N m n is)

  pub end_stays : (later : List Entry) → history ≡ seen ++ later → HasEnded M.state → HasEnded N.state
  end_stays later is ended =
      let none = none_later later is ended in
      let same : M.state ≡ N.state = subst (λ (es : List Entry). Leads B M.state es N.state) none (leads_on B seen later history M N m n is) in
      subst HasEnded same ended

  module _ (i : ℕ) (others : ContinuedByOthers entry_seat B.seats i seen history) where
    pub claim_stays : (a k : ℕ) → HasClaim M.state i a k ↔ HasClaim N.state i a k
    claim_stays a k = claims_lead B B.seats i M.state others.0 N.state (leads_on B seen others.0 history M N m n others.1) others.2 a k

    pub free_stays : IsFree B M.state i → IsFree B N.state i
    free_stays free a k c =
        let d : HasClaim M.state i a k = (claim_stays a k).1 c in
        let x = free a k d in
        let low = claim_low B seen M m i a k d in
        let (more, is) = arcs_lead B M.state others.0 N.state (leads_on B seen others.0 history M N m n others.1) in
        record {
          work = x.work;
          is = subst (λ (arcs : List Arc). Work B.rules arcs a x.work) (sym is) ((work_older B.rules M.state.graph.arcs more a x.work low).0 x.is);
          all = x.all;
        }

-- a claim whose work is all done
pub free_behind : (B : Base) (history : List Entry) (i k : ℕ) (work : WorkWithTrees) → HoldsBehind B history (λ S. HasClaim S i work.arc k) → HoldsBehind B history (λ S. IsRightFor B.rules S.graph.arcs work) → k ≡ length work.made
    → HoldsBehind B history (λ S. IsFree B S i)
free_behind B history i k work claim right all = λ M m. free_worked B M.state (kept B history M m) i k work (claim M m) (right M m) all

-- nothing was seen
pub free_opened : (B : Base) (i : ℕ) → HoldsBehind B [] (λ S. IsFree B S i)
free_opened B i =
    holds B [] (opened B) (λ S. IsFree B S i) (record { base = refl; replayed = record { going = opening B; steps = refl; stop = refl }; history_is = refl })
    (λ m k c. let w = all_waiting B.start.arcs m (status.Claimed i k) c in absurd cc)
