-- Histories and the machines behind them: a history has one machine, and so has each of its beginnings.
use Rattle.std.proofs.Common.{◌≡◌, List, [], ◌∷◌, ◌++◌, map, Option, Some, None, refl, sym, ◌∙◌, ap, subst, inr, ⊎_elim}
use Rattle.qs_core.specs.declared.step.Step.{Step}
use Rattle.qs_core.specs.declared.step.Step.TheVariants as step
use Rattle.qs_core.specs.declared.step.Stop.{Stop}
use Rattle.qs_core.specs.declared.step.Stop.TheVariants as stop
use Rattle.qs_core.specs.declared.step.Status.TheVariants as status
use Rattle.qs_core.specs.Core.{Base, CoreState, opening, HasEnded}
use Rattle.qs_core.specs.Runs.{Machine, IsReplayed, Makes, Stops, Steps, StopsIfGiven, Run}
use Rattle.qs_core.proofs.Runs.{one_run, steps_more, no_stop_made}
use Rattle.qs_board.specs.declared.entry.Entry.{Entry}
use Rattle.qs_board.specs.declared.entry.Entry.TheVariants as entry
use Rattle.qs_board.specs.History.{stop_entry, entries, history_of, IsBehind, HoldsBehind}

-- a history tells its steps and its stop
pub split_entries : (J K : List Step) (o p : Option Stop) → entries J o ≡ entries K p → (J ≡ K) × (o ≡ p)
split_entries [] [] None None e = (refl, refl)
split_entries [] [] None (Some s) e = absurd cc
split_entries [] [] (Some s) None e = absurd cc
split_entries [] [] (Some s) (Some t) e = (refl, cc)
split_entries [] (w ∷ K) None p e = absurd cc
split_entries [] (w ∷ K) (Some s) p e = absurd cc
split_entries (v ∷ J) [] o None e = absurd cc
split_entries (v ∷ J) [] o (Some s) e = absurd cc
split_entries (v ∷ J) (w ∷ K) o p e =
    let head : v ≡ w = cc in
    let tail : entries J o ≡ entries K p = cc in
    let (steps, last) = split_entries J K o p tail in
    ((λ i. head i ∷ steps i), last)

-- the machine behind a history
pub one_machine : (B : Base) (history : List Entry) (M N : Machine) → IsBehind B history M → IsBehind B history N → M ≡ N
one_machine B history M N m n =
    let (steps, last) = split_entries M.journal N.journal M.state.stop N.state.stop (m.history_is ∙ sym n.history_is) in
    let base : M.base ≡ N.base = m.base ∙ sym n.base in
    let run : Run M.base M.journal M.state.stop N.state =
    subst (λ (X : Base). Run X M.journal M.state.stop N.state) (sym base)
    (subst (λ (xs : List Step). Run N.base xs M.state.stop N.state) (sym steps)
    (subst (λ (o : Option Stop). Run N.base N.journal o N.state) (sym last) n.replayed)) in
    let state : M.state ≡ N.state = one_run M.base M.journal M.state.stop M.state N.state m.replayed run in
    λ i. record { base = base i; journal = steps i; state = state i }

-- what holds of it
pub holds : (B : Base) (history : List Entry) (N : Machine) (P : CoreState → Type 0) → IsBehind B history N → P N.state → HoldsBehind B history P
holds B history N P n p = λ M m. subst (λ (X : Machine). P X.state) (one_machine B history N M n m) p

-- an entry is made in S, and leads to T
abbrev pub Enters : Base → CoreState → Entry → CoreState → Type 0
Enters B S (entry.Step v) T = Makes B S v T
Enters B S (entry.Stop s) T = Stops B S s T

-- these entries, one after another, lead from S to T
abbrev pub Leads : Base → CoreState → List Entry → CoreState → Type 0
Leads B S [] T = S ≡ T
Leads B S (e ∷ es) T = (U : CoreState) × Enters B S e U × Leads B U es T

steps_lead : (B : Base) (S : CoreState) (vs : List Step) (T U : CoreState) (o : Option Stop) → Steps B S vs T → StopsIfGiven B T o U → Leads B S (entries vs o) U
steps_lead B S [] T U None e d = e ∙ d
steps_lead B S [] T U (Some s) e d = (U, subst (λ X. Stops B X s U) (sym e) d, refl)
steps_lead B S (v ∷ vs) T U o (X, m, r) d = (X, m, steps_lead B X vs T U o r d)

-- the history of a machine leads to its state
pub history_leads : (M : Machine) → IsReplayed M → Leads M.base (opening M.base) (history_of M) M.state
history_leads M r = steps_lead M.base (opening M.base) M.journal r.going M.state M.state.stop r.steps r.stop

split_lead : (B : Base) (S : CoreState) (es ds : List Entry) (T : CoreState) → Leads B S (es ++ ds) T → (U : CoreState) × Leads B S es U × Leads B U ds T
split_lead B S [] ds T l = (S, refl, l)
split_lead B S (e ∷ es) ds T (X, m, l) = let (U, f, g) = split_lead B X es ds T l in (U, (X, m, f), g)

-- nothing is entered behind the end
pub none_enters : (B : Base) (S : CoreState) (e : Entry) (T : CoreState) → HasEnded S → Enters B S e T → ⊥
none_enters B S (entry.Step (step.Claim i m)) T ended (may, is) = ⊎_elim (λ c. let d = c.all m status.Waiting may.waits in cc) (λ n. n may.going) ended
none_enters B S (entry.Step (step.Rest i)) T ended (may, is) = ⊎_elim (λ c. let d = c.all may.arc (status.Claimed i may.k) may.claim in cc) (λ n. n may.going) ended
none_enters B S (entry.Step (step.Publish i)) T ended (may, is) = ⊎_elim (λ c. let d = c.all may.next.arc (status.Claimed i may.next.k) may.next.claim in cc) (λ n. n may.going) ended
none_enters B S (entry.Stop (stop.Over i)) T ended (may, is) = ⊎_elim (λ c. let d = c.all may.next.arc (status.Claimed i may.next.k) may.next.claim in cc) (λ n. n may.going) ended
none_enters B S (entry.Stop (stop.Halted i)) T ended (may, is) = may.not_ended ended

pub none_leads : (B : Base) (S : CoreState) (es : List Entry) (T : CoreState) → HasEnded S → Leads B S es T → es ≡ []
none_leads B S [] T ended l = refl
none_leads B S (e ∷ es) T ended (U, m, l) = absurd (none_enters B S e U ended m)

stop_made : (B : Base) (S : CoreState) (s : Stop) (T : CoreState) → Stops B S s T → T.stop ≡ Some s
stop_made B S (stop.Over i) T (may, is) = ap (λ (X : CoreState). X.stop) is
stop_made B S (stop.Halted i) T (may, is) = ap (λ (X : CoreState). X.stop) is

one_step_more : (J : List Step) (v : Step) (es : List Entry) → map (λ v. entry.Step v) (J ++ v ∷ []) ++ es ≡ map (λ v. entry.Step v) J ++ entry.Step v ∷ es
one_step_more [] v es = refl
one_step_more (w ∷ J) v es = ap (λ ds. entry.Step w ∷ ds) (one_step_more J v es)

-- the machine to which entries lead, behind the steps that were made
machine_of : (B : Base) (J : List Step) (S : CoreState) (es : List Entry) (T : CoreState) → Steps B (opening B) J S → S.stop ≡ None → Leads B S es T
    → (M : Machine) × IsBehind B (map (λ v. entry.Step v) J ++ es) M × (M.state ≡ T)
machine_of B J S [] T steps going l =
    let none : T.stop ≡ None = ap (λ (X : CoreState). X.stop) (sym l) ∙ going in (
      record { base = B; journal = J; state = T },
      record {
        base = refl;
        replayed = record { going = S; steps = steps; stop = subst (λ o. StopsIfGiven B S o T) (sym none) l };
        history_is = ap (λ o. map (λ v. entry.Step v) J ++ stop_entry o) none;
      },
      refl,
    )
machine_of B J S (entry.Step v ∷ es) T steps going (U, m, l) =
    let (M, behind, is) = machine_of B (J ++ v ∷ []) U es T (steps_more B (opening B) J S v U steps m) (no_stop_made B S v U m) l in
    (M, record { base = behind.base; replayed = behind.replayed; history_is = behind.history_is ∙ one_step_more J v es }, is)
machine_of B J S (entry.Stop s ∷ []) T steps going (U, m, l) =
    let stopped : T.stop ≡ Some s = ap (λ (X : CoreState). X.stop) (sym l) ∙ stop_made B S s U m in (
      record { base = B; journal = J; state = T },
      record {
        base = refl;
        replayed = record { going = S; steps = steps; stop = subst (λ o. StopsIfGiven B S o T) (sym stopped) (subst (λ X. Stops B S s X) l m) };
        history_is = ap (λ o. map (λ v. entry.Step v) J ++ stop_entry o) stopped;
      },
      refl,
    )
machine_of B J S (entry.Stop s ∷ e ∷ es) T steps going (U, m, (X, n, l)) =
    absurd (none_enters B U e X (inr (λ d. let stopped = stop_made B S s U m in cc)) n)

-- a beginning of a history has a machine, from which the rest leads on
pub beginning : (B : Base) (seen later : List Entry) (N : Machine) → IsBehind B (seen ++ later) N → (M : Machine) × IsBehind B seen M × Leads B M.state later N.state
beginning B seen later N n =
    let all : Leads B (opening B) (seen ++ later) N.state =
    subst (λ (X : Base). Leads X (opening X) (seen ++ later) N.state) n.base
    (subst (λ (es : List Entry). Leads N.base (opening N.base) es N.state) n.history_is (history_leads N n.replayed)) in
    let (U, f, g) = split_lead B (opening B) seen later N.state all in
    let (M, m, is) = machine_of B [] (opening B) seen U refl refl f in
    (M, m, subst (λ (X : CoreState). Leads B X later N.state) (sym is) g)

pub leads_on : (B : Base) (seen later history : List Entry) (M N : Machine) → IsBehind B seen M → IsBehind B history N → history ≡ seen ++ later → Leads B M.state later N.state
leads_on B seen later history M N m n is =
    let whole : IsBehind B (seen ++ later) N = subst (λ (es : List Entry). IsBehind B es N) is n in
    let (L, l, on) = beginning B seen later N whole in
    subst (λ (X : Machine). Leads B X.state later N.state) (one_machine B seen L M l m) on
