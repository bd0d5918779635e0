-- A run over devices that are new: what was given and what was written in all is what was in the run.
use Rattle.std.proofs.Common.{◌≡◌, ◌⊎◌, ◌<◌, ◌≤◌, ℕ, List, [], ◌++◌, length, Option, Some, ap, subst, sym, ◌∙◌, inl, inr, refl, arith}
use Rattle.qs_io.specs.Devices.{HasRisen}
use Rattle.qs_io.specs.Limits.{most_text_bytes}
use Rattle.qs_command.specs.declared.job.Job.{Job}
use Rattle.qs_command.specs.declared.status.Status.{Status}
use Rattle.qs_command.specs.declared.status.Status.TheVariants.{Done, Usage, Refused, Limit, ReadFault, TooLong, WriteFault, Memory}
use Rattle.qs_program.specs.Answers.{EndsAsDefined, EndsAsGiven, WritesDefined}

-- what is defined for the bytes of the run is what is defined for all that was given
pub from_the_first : (job : Job) (given given' written written' : List ℕ) (status : Status) → given ≡ [] → written ≡ []
    → EndsAsGiven job given given' (Some written) (Some written') status → EndsAsDefined job given' (Some []) (Some written') status
from_the_first job given given' written written' status none nothing run =
    let all : run.bytes ≡ given' = sym (run.are_given ∙ ap (λ (front : List ℕ). front ++ run.bytes) none) in
    subst (λ (bytes : List ℕ). EndsAsDefined job bytes (Some []) (Some written') status) all
    (subst (λ (front : List ℕ). EndsAsDefined job run.bytes (Some front) (Some written') status) nothing run.ends)

-- with no fault and not too many bytes, only memory can be wanting
pub only_memory : (job : Job) (bytes : List ℕ) (old new : Option (List ℕ)) (status : Status)
    → EndsAsDefined job bytes old new status → length bytes ≤ most_text_bytes → ¬ (status ≡ ReadFault) → ¬ (status ≡ WriteFault) → WritesDefined job bytes old new status ⊎ (status ≡ Memory)
only_memory job bytes old new Done ends few read written = inl ends
only_memory job bytes old new Refused ends few read written = inl ends
only_memory job bytes old new Limit ends few read written = inl ends
only_memory job bytes old new ReadFault ends few read written = absurd (read refl)
only_memory job bytes old new TooLong ends few read written = absurd (omega (arith, ends.0, few))
only_memory job bytes old new WriteFault ends few read written = absurd (written refl)
only_memory job bytes old new Memory ends few read written = inr refl
only_memory job bytes old new Usage ends few read written = absurd ends

-- a count that rose from 0
pub risen : (before now : ℕ) → before ≡ 0 → HasRisen before now → 0 < now
risen before now none rose = let from_zero : HasRisen 0 now = subst (λ (n : ℕ). HasRisen n now) none rose in omega (arith, from_zero)
