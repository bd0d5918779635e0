-- The number with which the program ends, by its status. This project's own.
use Rattle.std.specs.Prelude.{ℕ}
use Rattle.qs_command.specs.declared.status.Status.{Status}
use Rattle.qs_command.specs.declared.status.Status.TheVariants.{Done, Usage, Refused, Limit, ReadFault, TooLong}
use Rattle.qs_command.specs.declared.status.Status.TheVariants.{WriteFault, Memory}

abbrev pub number_of : Status → ℕ
number_of Done = 0
number_of Usage = 1
number_of Refused = 2
number_of Limit = 3
number_of ReadFault = 4
number_of TooLong = 5
number_of WriteFault = 6
number_of Memory = 7
