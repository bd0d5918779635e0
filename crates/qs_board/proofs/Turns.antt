-- What a call of a board enters, and what its pass then knows.
use Rattle.std.proofs.Common.{◌≡◌, ℕ, zero, suc, ◌+◌, ◌<◌, Bool, true, false, List, [], ◌∷◌, ◌++◌, length, map, set, Option, Some, None, refl, sym, ◌∙◌, ap, subst, inl, inr, ◌⊎◌, ⊎_elim, arith, slice_get, slice_index_or, All, append-nil, eqb, eqb-true, eq-eqb}
use Rattle.std.specs.Prelude.{IfSome, Result, Ok, Err, IfOk, OnErr}
use Rattle.std.specs.Option.{option_map}
use Rattle.std.proofs.lemmas.Option.{slice_get_within}
use Rattle.std.proofs.lemmas.List.{length-map}
use Rattle.qs_tree.proofs.Decisions.{same_there}
use Rattle.qs_tree.proofs.Elements.{set_here}
use Rattle.qs_graph.specs.Graphs.{Arc}
use Rattle.qs_graph.proofs.Paths.{slice_get-append}
use Rattle.qs_firing.specs.Adding.{added}
use Rattle.qs_firing.specs.Work.{WorkWithTrees, IsRightFor}
use Rattle.qs_turn.specs.declared.told.Told.{Ghosts}
use Rattle.qs_turn.specs.declared.turns.Pass.{Pass}
use Rattle.qs_turn.specs.History.{ContinuedByOthers, followed_by}
use Rattle.qs_turn.specs.Passes.{number_of, seen_of}
use Rattle.qs_core.specs.declared.step.Step.{Step}
use Rattle.qs_core.specs.declared.step.Step.TheVariants as step
use Rattle.qs_core.specs.declared.step.Stop.{Stop}
use Rattle.qs_core.specs.declared.step.Stop.TheVariants as stop
use Rattle.qs_core.specs.declared.step.Status.{Status}
use Rattle.qs_core.specs.declared.step.Status.TheVariants as status
use Rattle.qs_core.specs.declared.answers.End.{End}
use Rattle.qs_core.specs.declared.answers.End.TheVariants as end
use Rattle.qs_core.specs.declared.answers.Claim.{Claim}
use Rattle.qs_core.specs.declared.answers.Claim.TheVariants as claim
use Rattle.qs_core.specs.declared.answers.Put.{Put}
use Rattle.qs_core.specs.declared.answers.Put.TheVariants as put
use Rattle.qs_core.specs.Core.{Base, CoreState, all_wait, rest_one, HasClaim, IsFree, HasEnded, NoneWaits, after_rest}
use Rattle.qs_core.specs.Runs.{Machine, MachineWithRoom, IsReplayed, with_step, with_stop}
use Rattle.qs_core.specs.Answers.{OtherHasClaim, RestsIfClaimed, end_of_stop, IsStopped, IsClaimed, IsPublished, IsHalted}
use Rattle.qs_core.proofs.Places.{rest_cases}
use Rattle.qs_core.proofs.Machines.{none_claims}
use Rattle.qs_core.proofs.Staying.{free_none}
use Rattle.qs_board.specs.declared.entry.Entry.{Entry}
use Rattle.qs_board.specs.declared.entry.Entry.TheVariants as entry
use Rattle.qs_board.specs.History.{entry_seat, entries, history_of, IsBehind, HoldsBehind}
use Rattle.qs_board.specs.declared.board.Board.{Board}
use Rattle.qs_board.specs.Calls.{Finds, HasAllIfTook}
use Rattle.qs_board.specs.Seats.{board_base, SeesEnd, KnowsClaim, KnowsPut}
use Rattle.qs_board.specs.working.Turns.{GoesOn}
use Rattle.qs_board.proofs.Histories.{Leads, holds, beginning}
use Rattle.qs_board.proofs.Staying.{claim_low, right_stays, arcs_stay, going_stays, end_stays, claim_stays, free_stays}

-- one entry more, or none
get_end : (h : List Entry) → slice_get h (length h) ≡ None
get_end [] = refl
get_end (e ∷ h) = get_end h

get_last : (h : List Entry) (e : Entry) → slice_get (h ++ e ∷ []) (length h) ≡ Some e
get_last [] e = refl
get_last (d ∷ h) e = get_last h e

pub goes_nowhere : (i : ℕ) (seen h : List Entry) → h ≡ seen → GoesOn i seen h
goes_nowhere i seen h same = subst (λ (xs : List Entry). GoesOn i seen xs) (sym same) (subst (λ (o : Option Entry). (seen ≡ followed_by seen o) × IfSome o (λ e. entry_seat e ≡ i)) (sym (get_end seen)) (refl, tt))

pub goes_one : (i : ℕ) (seen h : List Entry) (e : Entry) → h ≡ seen ++ e ∷ [] → entry_seat e ≡ i → GoesOn i seen h
goes_one i seen h e same own =
    subst (λ (xs : List Entry). GoesOn i seen xs) (sym same)
    (subst (λ (o : Option Entry). (seen ++ e ∷ [] ≡ followed_by seen o) × IfSome o (λ d. entry_seat d ≡ i)) (sym (get_last seen e)) (refl, own))

-- what goes on from a history begins with it
pub goes_from : (i : ℕ) (seen h : List Entry) → GoesOn i seen h → (later : List Entry) × (h ≡ seen ++ later)
goes_from i seen h (is, own) = go (slice_get h (length seen)) is
  where
    go : (o : Option Entry) → h ≡ followed_by seen o → (later : List Entry) × (h ≡ seen ++ later)
    go None e = ([], e ∙ sym (append-nil seen))
    go (Some d) e = (d ∷ [], e)

step_behind : (J : List Step) (v : Step) → entries (J ++ v ∷ []) None ≡ entries J None ++ entry.Step v ∷ []
step_behind [] v = refl
step_behind (w ∷ J) v = ap (λ es. entry.Step w ∷ es) (step_behind J v)

stop_behind : (J : List Step) (s : Stop) → entries J (Some s) ≡ entries J None ++ entry.Stop s ∷ []
stop_behind [] s = refl
stop_behind (w ∷ J) s = ap (λ es. entry.Step w ∷ es) (stop_behind J s)

-- the history behind a step and behind a stop
history_step : (M : Machine) (v : Step) (T : CoreState) → M.state.stop ≡ None → T.stop ≡ M.state.stop → history_of (with_step M v T) ≡ history_of M ++ entry.Step v ∷ []
history_step M v T going same =
    ap (λ o. entries (M.journal ++ v ∷ []) o) (same ∙ going) ∙ step_behind M.journal v ∙ ap (λ o. entries M.journal o ++ entry.Step v ∷ []) (sym going)

history_stop : (M : Machine) (s : Stop) → M.state.stop ≡ None → history_of (with_stop M s) ≡ history_of M ++ entry.Stop s ∷ []
history_stop M s going = stop_behind M.journal s ∙ ap (λ o. entries M.journal o ++ entry.Stop s ∷ []) (sym going)

module _ (M N : Machine) (i : ℕ) where
  entered_none : N ≡ M → GoesOn i (history_of M) (history_of N)
  entered_none is = goes_nowhere i (history_of M) (history_of N) (ap history_of is)

  entered_step : (v : Step) (T : CoreState) → M.state.stop ≡ None → T.stop ≡ M.state.stop → entry_seat (entry.Step v) ≡ i → N ≡ with_step M v T → GoesOn i (history_of M) (history_of N)
  entered_step v T going same own is = goes_one i (history_of M) (history_of N) (entry.Step v) (ap history_of is ∙ history_step M v T going same) own

  entered_stop : (s : Stop) → M.state.stop ≡ None → entry_seat (entry.Stop s) ≡ i → N ≡ with_stop M s → GoesOn i (history_of M) (history_of N)
  entered_stop s going own is = goes_one i (history_of M) (history_of N) (entry.Stop s) (ap history_of is ∙ history_stop M s going) own

  entered_rest : M.state.stop ≡ None → RestsIfClaimed M i N → GoesOn i (history_of M) (history_of N)
  entered_rest going rests = ⊎_elim (λ (h, is). entered_step (step.Rest i) (after_rest M.state i) going refl refl is) (λ (h, is). entered_none is) rests

  pub claim_enters : (a : Claim) → IsClaimed M i a N → GoesOn i (history_of M) (history_of N)
  claim_enters (claim.Took m) (going, waits, is) = entered_step (step.Claim i m) _ going refl refl is
  claim_enters claim.NotYet (going, none, other, rests) = entered_rest going rests
  claim_enters (claim.Ended end.Closed) (going, none, other, rests) = entered_rest going rests
  claim_enters (claim.Ended end.Over) (stopped, is) = entered_none is
  claim_enters (claim.Ended end.Halted) (stopped, is) = entered_none is

  pub put_enters : (work : WorkWithTrees) (k : ℕ) (a : Put) → IsPublished M i work k a N → GoesOn i (history_of M) (history_of N)
  put_enters work k (put.Published first) (going, few, (made, at, f, is)) = entered_step (step.Publish i) _ going refl refl is
  put_enters work k put.Over (going, full, is) = entered_stop (stop.Over i) going refl is
  put_enters work k (put.Ended e) (stopped, is) = entered_none is

  not_stopped : (o : Option Stop) → (o ≡ None → ⊥) ⊎ (o ≡ None)
  not_stopped None = inr refl
  not_stopped (Some s) = inl (λ e. cc)

  pub halt_enters : IsHalted M i N → GoesOn i (history_of M) (history_of N)
  halt_enters (inl (ended, is)) = entered_none is
  halt_enters (inr (not, is)) = ⊎_elim (λ n. absurd (not (inr n))) (λ going. entered_stop (stop.Halted i) going refl is) (not_stopped M.state.stop)

  -- what no call changes
  rest_base : RestsIfClaimed M i N → N.base ≡ M.base
  rest_base rests = ⊎_elim (λ (h, is). ap (λ (X : Machine). X.base) is) (λ (h, is). ap (λ (X : Machine). X.base) is) rests

  pub claim_base : (a : Claim) → IsClaimed M i a N → N.base ≡ M.base
  claim_base (claim.Took m) (going, waits, is) = ap (λ (X : Machine). X.base) is
  claim_base claim.NotYet (going, none, other, rests) = rest_base rests
  claim_base (claim.Ended end.Closed) (going, none, other, rests) = rest_base rests
  claim_base (claim.Ended end.Over) (stopped, is) = ap (λ (X : Machine). X.base) is
  claim_base (claim.Ended end.Halted) (stopped, is) = ap (λ (X : Machine). X.base) is

  pub put_base : (work : WorkWithTrees) (k : ℕ) (a : Put) → IsPublished M i work k a N → N.base ≡ M.base
  put_base work k (put.Published first) (going, few, (made, at, f, is)) = ap (λ (X : Machine). X.base) is
  put_base work k put.Over (going, full, is) = ap (λ (X : Machine). X.base) is
  put_base work k (put.Ended e) (stopped, is) = ap (λ (X : Machine). X.base) is

  pub halt_base : IsHalted M i N → N.base ≡ M.base
  halt_base (inl (ended, is)) = ap (λ (X : Machine). X.base) is
  halt_base (inr (not, is)) = ap (λ (X : Machine). X.base) is

  -- a claim changes no arc
  rest_arcs : RestsIfClaimed M i N → N.state.graph.arcs ≡ M.state.graph.arcs
  rest_arcs rests = ⊎_elim (λ (h, is). ap (λ (X : Machine). X.state.graph.arcs) is) (λ (h, is). ap (λ (X : Machine). X.state.graph.arcs) is) rests

  pub claim_arcs : (a : Claim) → IsClaimed M i a N → N.state.graph.arcs ≡ M.state.graph.arcs
  claim_arcs (claim.Took m) (going, waits, is) = ap (λ (X : Machine). X.state.graph.arcs) is
  claim_arcs claim.NotYet (going, none, other, rests) = rest_arcs rests
  claim_arcs (claim.Ended end.Closed) (going, none, other, rests) = rest_arcs rests
  claim_arcs (claim.Ended end.Over) (stopped, is) = ap (λ (X : Machine). X.state.graph.arcs) is
  claim_arcs (claim.Ended end.Halted) (stopped, is) = ap (λ (X : Machine). X.state.graph.arcs) is

  -- how the run has ended
  stands : (e : End) → IsStopped M.state e → N ≡ M → HasEnded N.state
  stands e stopped is = subst (λ (X : Machine). HasEnded X.state) (sym is) (inr (λ none. let x : None ≡ Some e = sym (ap (option_map end_of_stop) none) ∙ stopped in cc))

  halted : (s : Stop) → N ≡ with_stop M s → HasEnded N.state
  halted s is = subst (λ (X : Machine). HasEnded X.state) (sym is) (inr (λ none. cc))

  done_or_other : (OtherHasClaim M.state i → ⊥) → NoneWaits M.state → (m : ℕ) (s : Status) → slice_get M.state.status m ≡ Some s → ((k : ℕ) → s ≡ status.Claimed i k → ⊥) → s ≡ status.Done
  done_or_other alone none m status.Waiting at never = absurd (none m at)
  done_or_other alone none m status.Done at never = refl
  done_or_other alone none m (status.Claimed j k) at never = tested (eqb j i) refl
    where
      tested : (b : Bool) → eqb j i ≡ b → status.Claimed j k ≡ status.Done
      tested true t = absurd (never k (ap (λ n. status.Claimed n k) (eqb-true j i t)))
      tested false t = absurd (alone (j, (λ same. let u = eq-eqb j i same in cc), (m, k, at)))

  closes : M.state.stop ≡ None → NoneWaits M.state → (OtherHasClaim M.state i → ⊥) → RestsIfClaimed M i N → HasEnded N.state
  closes going none alone (inl (had, is)) =
      subst (λ (X : Machine). HasEnded X.state) (sym is) (inl (record {
        going = going;
        all = λ m s at. ⊎_elim (λ (d, never). done_or_other alone none m s d never) (λ (k, d, done). done) (rest_cases i M.state.status m s at);
      }))
  closes going none alone (inr (had, is)) =
      subst (λ (X : Machine). HasEnded X.state) (sym is) (inl (record { going = going; all = λ m s at. done_or_other alone none m s at (λ k e. had (m, k, at ∙ ap Some e)) }))

  pub claim_ended : (e : End) → IsClaimed M i (claim.Ended e) N → HasEnded N.state
  claim_ended end.Closed (going, none, other, rests) = closes going none other rests
  claim_ended end.Over (stopped, is) = stands end.Over stopped is
  claim_ended end.Halted (stopped, is) = stands end.Halted stopped is

  pub put_over : (work : WorkWithTrees) (k : ℕ) → IsPublished M i work k put.Over N → HasEnded N.state
  put_over work k (going, full, is) = halted (stop.Over i) is

  pub put_ended : (work : WorkWithTrees) (k : ℕ) (e : End) → IsPublished M i work k (put.Ended e) N → HasEnded N.state
  put_ended work k e (stopped, is) = stands e stopped is

  pub halt_ended : IsHalted M i N → HasEnded N.state
  halt_ended (inl (ended, is)) = subst (λ (X : Machine). HasEnded X.state) (sym is) ended
  halt_ended (inr (not, is)) = halted (stop.Halted i) is

  -- the seat's claim
  pub took : (m : ℕ) → IsClaimed M i (claim.Took m) N → HasClaim N.state i m 0
  took m (going, waits, is) =
      let in_it = slice_get_within M.state.status m status.Waiting waits in
      let same = length-map M.state.status (rest_one i) in
      subst (λ (X : Machine). HasClaim X.state i m 0) (sym is) (set_here (map (rest_one i) M.state.status) m (status.Claimed i 0) (omega (arith, in_it, same)))

  pub rested : (B : Base) → IsClaimed M i claim.NotYet N → IsFree B N.state i
  rested B (going, none, other, inl (had, is)) =
      subst (λ (X : Machine). IsFree B X.state i) (sym is) (λ m k c. absurd (none_claims i M.state.status m k c))
  rested B (going, none, other, inr (had, is)) = subst (λ (X : Machine). IsFree B X.state i) (sym is) (free_none B M.state i had)

  pub published : (work : WorkWithTrees) (k first : ℕ) → HasClaim M.state i work.arc k → IsPublished M i work k (put.Published first) N → HasClaim N.state i work.arc (k + 1)
  published work k first has (going, few, (made, at, f, is)) =
      let in_it = slice_get_within M.state.status work.arc (status.Claimed i k) has in
      subst (λ (X : Machine). HasClaim X.state i work.arc (k + 1)) (sym is)
      (slice_get-append (set M.state.status work.arc (status.Claimed i (k + 1))) (all_wait (added M.base.rules M.state.graph made.firing)) work.arc (status.Claimed i (k + 1))
      (set_here M.state.status work.arc (status.Claimed i (k + 1)) in_it))

-- what was seen is found
module _ (B : Base) (i : ℕ) (seen : List Entry) (M : Machine) (finds : Finds B i seen M) where
  pub itself : IsBehind B (history_of M) M
  itself = record { base = finds.base; replayed = finds.replayed; history_is = refl }

  before : (L : Machine) × IsBehind B seen L × Leads B L.state finds.others.0 M.state
  before = beginning B seen finds.others.0 M (subst (λ (es : List Entry). IsBehind B es M) finds.others.1 itself)

  pub view_found : (view : List Arc) → HoldsBehind B seen (λ S. (more : List Arc) × (S.graph.arcs ≡ view ++ more)) → (more : List Arc) × (M.state.graph.arcs ≡ view ++ more)
  view_found view sees = let (L, l, on) = before in arcs_stay B seen (history_of M) L M l itself finds.others.0 finds.others.1 view (sees L l)

  going_seen : (L : Machine) → IsBehind B seen L → M.state.stop ≡ None → L.state.stop ≡ None
  going_seen L l going = going_stays B seen (history_of M) L M l itself finds.others.0 finds.others.1 going

  pub claim_found : (j a k : ℕ) → j ≡ i → HoldsBehind B seen (λ S. S.stop ≡ None → HasClaim S i a k) → M.state.stop ≡ None → HasClaim M.state j a k
  claim_found j a k same sees going =
      let (L, l, on) = before in
      subst (λ n. HasClaim M.state n a k) (sym same) ((claim_stays B seen (history_of M) L M l itself i finds.others a k).0 (sees L l (going_seen L l going)))

  pub more_found : (k n : ℕ) → HoldsBehind B seen (λ S. S.stop ≡ None → k < n) → M.state.stop ≡ None → k < n
  more_found k n sees going = let (L, l, on) = before in sees L l (going_seen L l going)

  pub right_found : (k : ℕ) (work : WorkWithTrees) → HoldsBehind B seen (λ S. S.stop ≡ None → HasClaim S i work.arc k) → HoldsBehind B seen (λ S. S.stop ≡ None → IsRightFor B.rules S.graph.arcs work) → M.state.stop ≡ None
      → IsRightFor M.base.rules M.state.graph.arcs work
  right_found k work claims sees going =
      let (L, l, on) = before in
      let none = going_seen L l going in
      let low = claim_low B seen L l i work.arc k (claims L l none) in
      subst (λ (X : Base). IsRightFor X.rules M.state.graph.arcs work) (sym finds.base)
      (right_stays B seen (history_of M) L M l itself finds.others.0 finds.others.1 work low (sees L l none))

  pub free_found : (j : ℕ) → j ≡ i → HoldsBehind B seen (λ S. IsFree B S i) → IsFree M.base M.state j
  free_found j same sees =
      let (L, l, on) = before in
      subst (λ (X : Base). IsFree X M.state j) (sym finds.base)
      (subst (λ n. IsFree B M.state n) (sym same) (free_stays B seen (history_of M) L M l itself i finds.others (sees L l)))

-- how a claim, a publication and a halt go on from what the pass has seen, which is the history found
goes_as : (i j : ℕ) (M N : Machine) (seen : List Entry) → j ≡ i → seen ≡ history_of M → GoesOn j (history_of M) (history_of N) → GoesOn i seen (history_of N)
goes_as i j M N seen same found goes = subst (λ (es : List Entry). GoesOn i es (history_of N)) (sym found) (subst (λ n. GoesOn n (history_of M) (history_of N)) same goes)

pub claim_goes : {E : Type 0} (r : Result Claim E) (i j : ℕ) (M N : Machine) (view seen_arcs : List Arc) (seen : List Entry) → j ≡ i → seen ≡ history_of M → IfOk r (λ a. IsClaimed M j a N × HasAllIfTook a seen_arcs view) → OnErr r (N ≡ M) → GoesOn i seen (history_of N)
claim_goes (Ok a) i j M N view arcs seen same found ok err = goes_as i j M N seen same found (claim_enters M N j a ok.0)
claim_goes (Err e) i j M N view arcs seen same found ok err = goes_nowhere i seen (history_of N) (ap history_of err ∙ sym found)

pub put_goes : {E : Type 0} (r : Result Put E) (i j : ℕ) (M N : Machine) (work : WorkWithTrees) (k : ℕ) (seen : List Entry) → j ≡ i → seen ≡ history_of M → IfOk r (λ a. IsPublished M j work k a N) → OnErr r (N ≡ M) → GoesOn i seen (history_of N)
put_goes (Ok a) i j M N work k seen same found ok err = goes_as i j M N seen same found (put_enters M N j work k a ok)
put_goes (Err e) i j M N work k seen same found ok err = goes_nowhere i seen (history_of N) (ap history_of err ∙ sym found)

pub halt_goes : (i j : ℕ) (M N : Machine) (seen : List Entry) → j ≡ i → seen ≡ history_of M → IsHalted M j N → GoesOn i seen (history_of N)
halt_goes i j M N seen same found halts = goes_as i j M N seen same found (halt_enters M N j halts)

-- the view behind a claim
same_arcs : {E : Type 0} (r : Result Claim E) (j : ℕ) (M N : Machine) (view : List Arc) → IfOk r (λ a. IsClaimed M j a N × HasAllIfTook a M.state.graph.arcs view) → OnErr r (N ≡ M) → N.state.graph.arcs ≡ M.state.graph.arcs
same_arcs (Ok a) j M N view ok err = claim_arcs M N j a ok.0
same_arcs (Err e) j M N view ok err = ap (λ (X : Machine). X.state.graph.arcs) err

module _ {E : Type 0} (B : Base) (now : List Entry) (r : Result Claim E) (j : ℕ) (M N : Machine) (old new : List Arc) (ok : IfOk r (λ a. IsClaimed M j a N × HasAllIfTook a M.state.graph.arcs new)) (err : OnErr r (N ≡ M)) (behind : IsBehind B now N)
    (view : (new ≡ old) ⊎ (new ≡ M.state.graph.arcs)) where
  pub view_known : (new ≡ old) ⊎ HoldsBehind B now (λ S. new ≡ S.graph.arcs)
  view_known = ⊎_elim inl (λ all. inr (holds B now N (λ S. new ≡ S.graph.arcs) behind (all ∙ sym (same_arcs r j M N new ok err)))) view

  pub arcs_known : ((more : List Arc) × (M.state.graph.arcs ≡ old ++ more)) → HoldsBehind B now (λ S. (more : List Arc) × (S.graph.arcs ≡ new ++ more))
  arcs_known (more, first) =
      holds B now N (λ S. (more : List Arc) × (S.graph.arcs ≡ new ++ more)) behind
      (⊎_elim
      (λ same. (more, same_arcs r j M N new ok err ∙ first ∙ ap (λ xs. xs ++ more) (sym same)))
      (λ all. ([], same_arcs r j M N new ok err ∙ sym all ∙ sym (append-nil new)))
      view)

module _ {g : Ghosts MachineWithRoom Entry} (b : Board) (p : Pass MachineWithRoom Entry g) where
  -- what a pass knows behind its claim
  claim_known : (view : List Arc) (j : ℕ) (M N : Machine) (a : Claim) → j ≡ number_of p → IsClaimed M j a N → HasAllIfTook a M.state.graph.arcs view → IsBehind (board_base b) (seen_of p) N → KnowsClaim b p view a
  claim_known view j M N (claim.Took m) same claimed all behind =
      let has : HasClaim N.state j m 0 = took M N j m claimed in
      let arcs : N.state.graph.arcs ≡ view = claim_arcs M N j (claim.Took m) claimed ∙ sym all in
      let low = claim_low (board_base b) (seen_of p) N behind j m 0 has in
      let long : length N.state.graph.arcs ≡ length view = ap (λ (xs : List Arc). length xs) arcs in (
        omega (arith, low, long),
        holds (board_base b) (seen_of p) N (λ S. HasClaim S (number_of p) m 0) behind (subst (λ n. HasClaim N.state n m 0) same has),
        holds (board_base b) (seen_of p) N (λ S. S.graph.arcs ≡ view) behind arcs,
      )
  claim_known view j M N claim.NotYet same claimed all behind =
      holds (board_base b) (seen_of p) N (λ S. IsFree (board_base b) S (number_of p)) behind (subst (λ n. IsFree (board_base b) N.state n) same (rested M N j (board_base b) claimed))
  claim_known view j M N (claim.Ended e) same claimed all behind =
      holds (board_base b) (seen_of p) N (λ S. HasEnded S) behind (claim_ended M N j e claimed)

  pub knows_claim : {E : Type 0} (r : Result Claim E) (view : List Arc) (j : ℕ) (M N : Machine) → j ≡ number_of p → IfOk r (λ a. IsClaimed M j a N × HasAllIfTook a M.state.graph.arcs view) → IsBehind (board_base b) (seen_of p) N → IfOk r (λ a. KnowsClaim b p view a)
  knows_claim (Ok a) view j M N same ok behind = claim_known view j M N a same ok.0 ok.1 behind
  knows_claim (Err e) view j M N same ok behind = tt

  -- and behind its publication, which found M
  module _ (i : ℕ) (seen : List Entry) (M N : Machine) (work : WorkWithTrees) (k j : ℕ) (finds : Finds (board_base b) i seen M) (own : j ≡ i) (same : j ≡ number_of p)
      (claims : HoldsBehind (board_base b) seen (λ S. S.stop ≡ None → HasClaim S i work.arc k)) (right : HoldsBehind (board_base b) seen (λ S. S.stop ≡ None → IsRightFor (board_base b).rules S.graph.arcs work))
      (behind : IsBehind (board_base b) (seen_of p) N) where
    goes : (a : Put) → IsPublished M j work k a N → (later : List Entry) × (seen_of p ≡ history_of M ++ later)
    goes a put =
        let (later, is) = goes_from j (history_of M) (history_of N) (put_enters M N j work k a put) in
        (later, sym behind.history_is ∙ is)

    put_known : (a : Put) → IsPublished M j work k a N → KnowsPut b p work k a
    put_known (put.Published first) done =
        let has : HasClaim M.state j work.arc k = claim_found (board_base b) i seen M finds j work.arc k own claims done.0 in
        let low = claim_low (board_base b) (history_of M) M (itself (board_base b) i seen M finds) j work.arc k has in
        let (later, is) = goes (put.Published first) done in
        let fits : IsRightFor (board_base b).rules M.state.graph.arcs work =
        subst (λ (X : Base). IsRightFor X.rules M.state.graph.arcs work) finds.base (right_found (board_base b) i seen M finds k work claims right done.0) in (
          holds (board_base b) (seen_of p) N (λ S. HasClaim S (number_of p) work.arc (k + 1)) behind (subst (λ n. HasClaim N.state n work.arc (k + 1)) same (published M N j work k first has done)),
          holds (board_base b) (seen_of p) N (λ S. IsRightFor (board_base b).rules S.graph.arcs work) behind
              (right_stays (board_base b) (history_of M) (seen_of p) M N (itself (board_base b) i seen M finds) behind later is work low fits),
        )
    put_known put.Over done = holds (board_base b) (seen_of p) N (λ S. HasEnded S) behind (put_over M N j work k done)
    put_known (put.Ended e) done = holds (board_base b) (seen_of p) N (λ S. HasEnded S) behind (put_ended M N j work k e done)

    pub knows_put : {E : Type 0} (r : Result Put E) → IfOk r (λ a. IsPublished M j work k a N) → IfOk r (λ a. KnowsPut b p work k a)
    knows_put (Ok a) ok = put_known a ok
    knows_put (Err e) ok = tt

-- a publication leaves the arcs that were seen
pub arcs_put : {E : Type 0} (r : Result Put E) (B : Base) (i j : ℕ) (seen now : List Entry) (M N : Machine) (work : WorkWithTrees) (k : ℕ) → Finds B i seen M → IfOk r (λ a. IsPublished M j work k a N) → OnErr r (N ≡ M) → IsBehind B now N
    → (view : List Arc) → HoldsBehind B seen (λ S. (more : List Arc) × (S.graph.arcs ≡ view ++ more)) → HoldsBehind B now (λ S. (more : List Arc) × (S.graph.arcs ≡ view ++ more))
arcs_put r B i j seen now M N work k finds ok err behind view sees =
    let (later, is) = goes_from j (history_of M) (history_of N) (put_goes r j j M N work k (history_of M) refl refl ok err) in
    holds B now N (λ S. (more : List Arc) × (S.graph.arcs ≡ view ++ more)) behind
    (arcs_stay B (history_of M) now M N (itself B i seen M finds) behind later (sym behind.history_is ∙ is) view (view_found B i seen M finds view sees))

-- a pass that has halted the run has seen its end
pub knows_halt : (B : Base) (j : ℕ) (now : List Entry) (M N : Machine) → IsHalted M j N → IsBehind B now N → HoldsBehind B now (λ S. HasEnded S)
knows_halt B j now M N halts behind = holds B now N (λ S. HasEnded S) behind (halt_ended M N j halts)

-- the machine at the end: one pass that has seen the end is enough
pub ended_at_last : (B : Base) (i : ℕ) (seen : List Entry) (M : Machine) → M.base ≡ B → IsReplayed M → ContinuedByOthers entry_seat B.seats i seen (history_of M) → HoldsBehind B seen (λ S. HasEnded S) → HasEnded M.state
ended_at_last B i seen M base replayed others sees =
    let finds : Finds B i seen M = record { base = base; replayed = replayed; others = others } in
    let (L, l, on) = before B i seen M finds in
    end_stays B seen (history_of M) L M l (itself B i seen M finds) others.0 others.1 (sees L l)

-- members of a list
pub get_some : {X : Type 0} (xs : List X) (k : ℕ) (d : X) → k < length xs → slice_get xs k ≡ Some (slice_index_or xs k d)
get_some [] k d in_it = absurd (omega arith)
get_some (x ∷ xs) zero d in_it = refl
get_some (x ∷ xs) (suc k) d in_it = get_some xs k d (omega arith)

pub here : {X : Type 0} (xs : List X) (k : ℕ) (x : X) → slice_get xs k ≡ Some x → slice_index_or xs k x ≡ x
here [] k x e = refl
here (y ∷ xs) zero x e = cc
here (y ∷ xs) (suc k) x e = here xs k x e

pub one_of : {X C : Type 0} (f : X → Option C) (ps : List X) (x b : C) → All (λ p. f p ≡ Some b) ps → All (λ p. f p ≡ Some x) ps → 0 < length ps → x ≡ b
one_of f [] x b own known some = absurd (omega arith)
one_of f (p ∷ ps) x b own known some = same_there (known 0 p (omega arith)) (own 0 p (omega arith))

-- one pass that has seen the end is enough
pub ended_by : {g : Ghosts MachineWithRoom Entry} (b : Board) (ps : List (Pass MachineWithRoom Entry g)) (M : Machine) → M.base ≡ board_base b → IsReplayed M
    → All (λ p. ContinuedByOthers entry_seat (board_base b).seats (number_of p) (seen_of p) (history_of M)) ps → (i : ℕ) (p : Pass MachineWithRoom Entry g) → slice_get ps i ≡ Some p → SeesEnd b p → HasEnded M.state
ended_by {g = g} b ps M base replayed others i p at sees =
    ended_at_last (board_base b) (number_of p) (seen_of p) M base replayed
    (subst (λ (q : Pass MachineWithRoom Entry g). ContinuedByOthers entry_seat (board_base b).seats (number_of q) (seen_of q) (history_of M)) (here ps i p at) (others i p (slice_get_within ps i p at)))
    sees
