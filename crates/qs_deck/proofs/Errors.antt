-- What stood in a text still stands there behind an error.
use Rattle.std.proofs.Common.{◌≡◌, ℕ, List, length, take}
use Rattle.std.specs.Prelude.{Result, Ok, Err, OnErr}
use Rattle.qs_tree.proofs.Kept.{kept-further}

pub on_err_further : {T E : Type 0} (start out now : List ℕ) (r : Result T E) → take (length start) out ≡ start → OnErr r (take (length out) now ≡ out) → OnErr r (take (length start) now ≡ start)
on_err_further start out now (Ok x) k e = e
on_err_further start out now (Err x) k e = kept-further start out now k e
