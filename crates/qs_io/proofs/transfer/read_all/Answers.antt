-- How many bytes were taken where the text is too long, and where it finds no memory.
use Rattle.std.proofs.Common.{◌≡◌, ◌+◌, ◌≤◌, arith, length, refl}
use Rattle.std.proofs.lemmas.List.{length-take-le}
use Rattle.std.proofs.lemmas.Result.{err_from_is_err_and}
use Rattle.qs_io.proofs.Transfers.{TakesBytes-more}
use Rattle.qs_io.proofs.transfer.read_all.Goals as goal

pub returns-then-len-taken-gt-MAX_TEXT_BYTES-clause-taken : goal.returns-then-len-taken-gt-MAX_TEXT_BYTES-clause-taken
returns-then-len-taken-gt-MAX_TEXT_BYTES-clause-taken g c =
    let room_length = length-take-le c.min-wanted.result c.loop-taken.chunk (omega arith) in
    let in_all : length c.loop-taken.text.items + c.in-Ok.taken ≡ 4194305 = omega (arith, c.loop-taken.text.ok.0, room_length, c.in-Ok.ensures.bound) in (
      4194305,
      TakesBytes-more _ _ _ _ _ c.in-Ok.taken 4194305 c.loop-taken.invariant.0 c.in-Ok.ensures.bytes c.in-Ok.ensures.bound in_all,
      omega arith,
      (λ _. refl, λ _. refl),
    )

pub returns-in_err-extend_from_slice-clause-taken : goal.returns-in_err-extend_from_slice-clause-taken
returns-in_err-extend_from_slice-clause-taken g c =
    let in_all = length c.loop-taken.text.items + c.in-Ok.taken in
    let is_no_more : in_all ≤ 4194304 = omega (arith, c.loop-taken.text.ok.0) in
    let is_memory = err_from_is_err_and c.from_residual.result c.from_residual.ensures.1 in (
      in_all,
      TakesBytes-more _ _ _ _ _ c.in-Ok.taken in_all c.loop-taken.invariant.0 c.in-Ok.ensures.bytes c.in-Ok.ensures.bound refl,
      omega arith,
      (λ is_too_long. absurd (cc (is_memory.1, is_memory.2)), λ is_one_more. absurd (omega arith)),
    )
