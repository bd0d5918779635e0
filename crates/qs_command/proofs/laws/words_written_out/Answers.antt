use Rattle.std.proofs.Common.{refl}
use Rattle.clap.proofs.OnLiterals.{clap_on_literals}
use Rattle.qs_command.specs.Words.{job_of, simple_command}
use Rattle.qs_command.proofs.laws.words_written_out.Goals as goal

pub returns-clause-alone : goal.returns-clause-alone
unfolding clap_on_literals job_of simple_command
returns-clause-alone c = refl

pub returns-clause-limited : goal.returns-clause-limited
unfolding clap_on_literals job_of simple_command
returns-clause-limited c = refl

pub returns-clause-in_front : goal.returns-clause-in_front
unfolding clap_on_literals job_of simple_command
returns-clause-in_front c = refl

pub returns-clause-least_workers : goal.returns-clause-least_workers
unfolding clap_on_literals job_of simple_command
returns-clause-least_workers c = refl

pub returns-clause-greatest_size : goal.returns-clause-greatest_size
unfolding clap_on_literals job_of simple_command
returns-clause-greatest_size c = refl

pub returns-clause-minus_zero : goal.returns-clause-minus_zero
unfolding clap_on_literals job_of simple_command
returns-clause-minus_zero c = refl

pub returns-clause-all_options : goal.returns-clause-all_options
unfolding clap_on_literals job_of simple_command
returns-clause-all_options c = refl

pub returns-clause-check : goal.returns-clause-check
unfolding clap_on_literals job_of simple_command
returns-clause-check c = refl

pub returns-clause-graph : goal.returns-clause-graph
unfolding clap_on_literals job_of simple_command
returns-clause-graph c = refl

pub returns-clause-no_words : goal.returns-clause-no_words
unfolding clap_on_literals job_of simple_command
returns-clause-no_words c = refl

pub returns-clause-unknown : goal.returns-clause-unknown
unfolding clap_on_literals job_of simple_command
returns-clause-unknown c = refl

pub returns-clause-too_few : goal.returns-clause-too_few
unfolding clap_on_literals job_of simple_command
returns-clause-too_few c = refl

pub returns-clause-too_many : goal.returns-clause-too_many
unfolding clap_on_literals job_of simple_command
returns-clause-too_many c = refl

pub returns-clause-repeated : goal.returns-clause-repeated
unfolding clap_on_literals job_of simple_command
returns-clause-repeated c = refl

pub returns-clause-help : goal.returns-clause-help
unfolding clap_on_literals job_of simple_command
returns-clause-help c = refl

pub returns-clause-phrase : goal.returns-clause-phrase
unfolding clap_on_literals job_of simple_command
returns-clause-phrase c = refl

pub returns-clause-too_many_readings : goal.returns-clause-too_many_readings
unfolding clap_on_literals job_of simple_command
returns-clause-too_many_readings c = refl
