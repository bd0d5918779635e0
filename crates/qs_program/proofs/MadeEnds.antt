-- What the grammar of a made deck leaves is what is told of it.
use Rattle.std.proofs.Common.{◌≡◌, ◌⊎◌, ℕ, List, [], ◌∷◌, Option, Global, refl, sym, ◌∙◌, subst, inl, inr, ⊎_elim}
use Rattle.std.specs.Prelude.{Result, Ok, Err, IfOk}
use Rattle.std.specs.declared.vec.Vec.{Vec}
use Rattle.std.specs.Io.KnownBytes.{append_known}
use Rattle.qs_io.specs.Devices.{AppendsProperPrefix}
use Rattle.qs_clean.specs.Cascades.{Cascade, a_graph, no_arc, over, all_done, by_limit, no_more, limit, empty, goes_on}
use Rattle.qs_cascade.specs.declared.stages.StageEnd.{StageEnd}
use Rattle.qs_cascade.specs.declared.stages.StageEnd.TheVariants as end
use Rattle.qs_cascade.specs.Stages.{IsStageEnd}
use Rattle.qs_deck.specs.MadeDecks.{made_grammar, made_graph}
use Rattle.qs_command.specs.declared.job.Command.TheVariants as command
use Rattle.qs_command.specs.declared.job.Job.{Job}
use Rattle.qs_command.specs.declared.status.Status.{Status}
use Rattle.qs_command.specs.declared.status.Status.TheVariants.{Done, Limit}
use Rattle.qs_telling.specs.Ends.{left_of}
use Rattle.qs_telling.specs.Summaries.{summary}
use Rattle.qs_program.specs.Answers.{WritesDefined, WritesProperPrefix, EndsAsDefined}
use Rattle.qs_program.specs.working.Cascading.{IsWritten}
use Rattle.qs_program.specs.working.Ends.{ending_of}
use Rattle.qs_program.specs.Defined.{IsDefined, of_made, IsMadeOf, status_of}

-- what it leaves
made_ended : (L size : ℕ) (e : StageEnd) → IsStageEnd (made_grammar size).rules (made_graph size) L e → IsMadeOf L size (summary L size (left_of e)) (status_of (ending_of e))
made_ended L size (end.Left graph firings) is = record {
  left = a_graph firings graph;
  ending = all_done;
  cascade =
      subst (λ (n : ℕ). Cascade L (made_graph size) ((made_grammar size).rules ∷ []) (a_graph n graph ∷ []) all_done) (sym is.0.firings_are)
      (goes_on is.0.closes is.0.few is.0.cleans is.1 no_more);
  text_is = refl;
  status_is = refl;
}
made_ended L size (end.Empty firings) (E, leaves, none) = record {
  left = no_arc firings;
  ending = all_done;
  cascade =
      subst (λ (n : ℕ). Cascade L (made_graph size) ((made_grammar size).rules ∷ []) (no_arc n ∷ []) all_done) (sym leaves.firings_are)
      (empty leaves.closes leaves.few leaves.cleans none);
  text_is = refl;
  status_is = refl;
}
made_ended L size end.Over needs = record { left = over; ending = by_limit; cascade = limit needs; text_is = refl; status_is = refl }

pub made_defined : (job : Job) (bytes : List ℕ) (e : StageEnd) (status : Status) → job.command ≡ command.Made
    → IsStageEnd (made_grammar job.size).rules (made_graph job.size) job.limit e → status ≡ status_of (ending_of e)
    → IsDefined job bytes (summary job.limit job.size (left_of e)) status
made_defined job bytes e status made is same =
    let m = made_ended job.limit job.size e is in
    of_made made (record { left = m.left; ending = m.ending; cascade = m.cascade; text_is = m.text_is; status_is = same ∙ m.status_is })

-- what was written of a text that is defined
pub written_ends : {E : Type 0} (job : Job) (bytes : List ℕ) (old new : Option (List ℕ)) (answer : Status) (made : Result (Vec ℕ Global) E) (text : List ℕ) (status : Status)
    → (status ≡ Done) ⊎ (status ≡ Limit) → IsDefined job bytes text status → IfOk made (λ t. t.items ≡ text) → IsWritten made old new status answer
    → EndsAsDefined job bytes old new answer
written_ends job bytes old new answer (Err e) text status kind defined same is = subst (EndsAsDefined job bytes old new) (sym is.0) (inl is.1)
written_ends job bytes old new answer (Ok t) text status kind defined same (inl (whole, written)) =
    let all : WritesDefined job bytes old new status = record { text = text; defined = defined; written = subst (λ (b : List ℕ). new ≡ append_known old b) same written } in
    subst (EndsAsDefined job bytes old new) (sym whole) (⊎_elim
    (λ done. subst (EndsAsDefined job bytes old new) (sym done) (subst (WritesDefined job bytes old new) done all))
    (λ limited. subst (EndsAsDefined job bytes old new) (sym limited) (subst (WritesDefined job bytes old new) limited all))
    kind)
written_ends job bytes old new answer (Ok t) text status kind defined same (inr (failed, begun)) =
    let front : WritesProperPrefix job bytes old new =
    record { text = text; status = status; defined = defined; written = subst (λ (b : List ℕ). AppendsProperPrefix old new b) same begun } in
    subst (EndsAsDefined job bytes old new) (sym failed) front
