-- Calls that read nothing, and answers for want of memory: what they tell of the source and the sink.
use Rattle.std.proofs.Common.{◌≡◌, ◌⊎◌, ◌+◌, ◌<◌, ℕ, List, [], Option, None, Some, inl, inr, refl, sym, ◌∙◌, arith, append-nil}
use Rattle.std.specs.Io.KnownBytes.{prepend_known}
use Rattle.qs_io.specs.declared.device.Source.{Ghosts as SourceFacts}
use Rattle.qs_io.specs.declared.device.Sink.{Ghosts as SinkFacts}
use Rattle.qs_io.specs.Devices.{Gives}
use Rattle.qs_io.specs.Limits.{most_text_bytes}
use Rattle.qs_command.specs.declared.job.Job.{Job}
use Rattle.qs_command.specs.declared.status.Status.{Status}
use Rattle.qs_command.specs.declared.status.Status.TheVariants.{Done, Limit, ReadFault, TooLong, WriteFault, Memory}
use Rattle.qs_program.specs.Answers.{IsOfWholeText}
use Rattle.qs_program.specs.Calls.{DoesJob, HasCause, IsAnswerOfMade, TellsWriteFaults}

-- two answers that aren't one
pub apart : {answer a b : Status} → (a ≡ b → ⊥) → answer ≡ a → answer ≡ b → ⊥
apart differ is other = differ (sym is ∙ other)

-- the answers that aren't of a whole text
pub not_whole : IsOfWholeText Memory → ⊥
not_whole (inl e) = absurd cc
not_whole (inr (inl e)) = absurd cc
not_whole (inr (inr e)) = absurd cc

pub answer_of_made : (answer : Status) → (answer ≡ Done) ⊎ (answer ≡ Limit) ⊎ (answer ≡ WriteFault) ⊎ (answer ≡ Memory) → IsAnswerOfMade answer
answer_of_made answer (inl e) = record { not_refused = apart (λ d. absurd cc) e; not_read_fault = apart (λ d. absurd cc) e; not_too_long = apart (λ d. absurd cc) e }
answer_of_made answer (inr (inl e)) = record { not_refused = apart (λ d. absurd cc) e; not_read_fault = apart (λ d. absurd cc) e; not_too_long = apart (λ d. absurd cc) e }
answer_of_made answer (inr (inr (inl e))) = record { not_refused = apart (λ d. absurd cc) e; not_read_fault = apart (λ d. absurd cc) e; not_too_long = apart (λ d. absurd cc) e }
answer_of_made answer (inr (inr (inr e))) = record { not_refused = apart (λ d. absurd cc) e; not_read_fault = apart (λ d. absurd cc) e; not_too_long = apart (λ d. absurd cc) e }

nothing_taken : (left : Option (List ℕ)) → left ≡ prepend_known [] left
nothing_taken None = refl
nothing_taken (Some rest) = refl

pub gives_nothing : (given : List ℕ) (most : ℕ) (IsCutShort : Type 0) → 0 < most → (IsCutShort → ⊥) → Gives given given most IsCutShort
gives_nothing given most IsCutShort some whole = record {
  bytes = [];
  given = sym (append-nil given);
  bound = omega arith;
  cut_short = ((λ cut. absurd (whole cut)), (λ all. absurd (omega arith)));
}

module _ {X Y : Type 0} (S : SourceFacts X) (K : SinkFacts Y) (source : X) where
  -- nothing was read
  pub nothing_read : (sink sink' : Y) (answer : Status) → (answer ≡ ReadFault → ⊥) → (answer ≡ TooLong → ⊥) → TellsWriteFaults (K.faults sink) (K.faults sink') answer
      → HasCause S K source source sink sink' answer
  nothing_read sink sink' answer no_fault not_long writes = record {
    reads = record {
      read_fault = λ bad. absurd (no_fault bad);
      no_read_fault = λ other. refl;
      source_count = omega arith;
      gives = gives_nothing (S.given source) (most_text_bytes + 1) (answer ≡ TooLong) (omega arith) not_long;
    };
    writes = writes;
    too_long = (0, ([], nothing_taken (S.left source), refl), omega arith, ((λ long. absurd (not_long long)), (λ all. absurd (omega arith))));
    nothing_written = λ why. elim why [ inl bad ↦ absurd (no_fault bad) | inr long ↦ absurd (not_long long) ];
  }

  -- memory was wanting at once
  pub nothing_done : (job : Job) (sink : Y) → DoesJob S K job source source sink sink Memory
  nothing_done job sink = record {
    complete = λ bytes told few calm_source calm_sink. inr refl;
    as_given = record { bytes = []; are_given = sym (append-nil (S.given source)); ends = inl refl };
    ended = λ reads whole. absurd (not_whole whole);
    read_to_end = λ reads whole. absurd (not_whole whole);
    nothing_read_by_made = λ made. refl;
    made_answers = λ made. answer_of_made Memory (inr (inr (inr refl)));
  }
