-- What the loops over a source and over a sink keep.
use Rattle.std.proofs.Common.{◌≡◌, false, ℕ, ◌+◌, ◌-◌, ◌<◌, ◌≤◌, List, [], ◌∷◌, ◌++◌, length, take, drop, Option, None, Some, refl, sym, ◌∙◌, ap, arith, append_assoc, length-append, length-drop, take-append-drop}
use Rattle.std.specs.Bool.{◌==◌}
use Rattle.std.proofs.lemmas.Bool.{false≢true}
use Rattle.std.proofs.lemmas.List.{length-take-le, take_at, take_all}
use Rattle.std.specs.Io.KnownBytes.{append_known, prepend_known}
use Rattle.qs_io.specs.Devices.{AppendsProperPrefix, TakesBytes}

-- of these bytes all but the rest was appended
pub record AppendsUpTo (old new : Option (List ℕ)) (bytes rest : List ℕ) : Type 0 where
  pub prefix : List ℕ
  pub split : bytes ≡ prefix ++ rest
  pub written : new ≡ append_known old prefix

pub prepend_known-prepend_known : (xs ys : List ℕ) (left : Option (List ℕ)) → prepend_known xs (prepend_known ys left) ≡ prepend_known (xs ++ ys) left
prepend_known-prepend_known xs ys None = refl
prepend_known-prepend_known xs ys (Some rest) = ap (λ (bytes : List ℕ). Some bytes) (sym (append_assoc xs ys rest))

pub append_known-append_known : (written : Option (List ℕ)) (xs ys : List ℕ) → append_known (append_known written xs) ys ≡ append_known written (xs ++ ys)
append_known-append_known None xs ys = refl
append_known-append_known (Some prefix) xs ys = ap (λ (bytes : List ℕ). Some bytes) (append_assoc prefix xs ys)

-- a text was taken, and then the first n bytes of a room
pub TakesBytes-more : (old mid new : Option (List ℕ)) (text room : List ℕ) (n total : ℕ)
    → old ≡ prepend_known text mid
    → mid ≡ prepend_known (take n room) new
    → n ≤ length room
    → length text + n ≡ total
    → TakesBytes old new total
TakesBytes-more old mid new text room n total before now within in_all =
    let amount : length (take n room) ≡ n = length-take-le n room within in (
      text ++ take n room,
      before ∙ ap (λ (left : Option (List ℕ)). prepend_known text left) now ∙ prepend_known-prepend_known text (take n room) new,
      length-append text (take n room) ∙ omega arith,
    )

-- bytes of which it is known that they aren't empty
pub some_left : (rest : List ℕ) → false ≡ (length rest == 0) → 0 < length rest
some_left [] none = absurd (false≢true none)
some_left (first ∷ rest) some = omega arith

-- what was appended before a write that fails is a proper prefix, since that write was given some bytes
pub AppendsProperPrefix-from_AppendsUpTo : {old mid new : Option (List ℕ)} {bytes rest : List ℕ}
    → AppendsUpTo old mid bytes rest → 0 < length rest → new ≡ mid → AppendsProperPrefix old new bytes
AppendsProperPrefix-from_AppendsUpTo {old} {bytes = bytes} {rest = rest} so_far some stays =
    let is_prefix : take (length so_far.prefix) bytes ≡ so_far.prefix = rw so_far.split (take_at so_far.prefix rest (length so_far.prefix) refl) in
    let lengths : length bytes ≡ length so_far.prefix + length rest = ap length so_far.split ∙ length-append so_far.prefix rest in
    (length so_far.prefix, omega arith, stays ∙ so_far.written ∙ ap (λ (prefix : List ℕ). append_known old prefix) (sym is_prefix))

-- a write appends the first n bytes of the rest
pub AppendsUpTo-more : {old mid new : Option (List ℕ)} {bytes rest : List ℕ} (n : ℕ)
    → AppendsUpTo old mid bytes rest
    → new ≡ append_known mid (take n rest)
    → n ≤ length rest
    → AppendsUpTo old new bytes (take (length rest - n) (drop n rest))
AppendsUpTo-more {old} {bytes = bytes} {rest = rest} n so_far written within =
    let still_left = take (length rest - n) (drop n rest) in
    let is_drop : still_left ≡ drop n rest = take_all _ _ (omega (arith, length-drop n rest)) in
    let parts : rest ≡ take n rest ++ still_left = sym (take-append-drop n rest) ∙ ap (λ (end : List ℕ). take n rest ++ end) (sym is_drop) in
    record {
      prefix = so_far.prefix ++ take n rest;
      split = so_far.split ∙ ap (λ (end : List ℕ). so_far.prefix ++ end) parts ∙ sym (append_assoc so_far.prefix (take n rest) still_left);
      written = written ∙ ap (λ (front : Option (List ℕ)). append_known front (take n rest)) so_far.written ∙ append_known-append_known old so_far.prefix (take n rest);
    }
