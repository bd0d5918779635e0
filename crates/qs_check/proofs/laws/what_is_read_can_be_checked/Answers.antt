use Rattle.qs_check.proofs.WhatIsRead as reading
use Rattle.qs_check.proofs.laws.what_is_read_can_be_checked.Goals as goal

pub returns : goal.returns
returns c = reading.can_be_checked
