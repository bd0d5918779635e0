-- The segments into which a text is cut. (This project.)
use Rattle.std.specs.Prelude.{ℕ, ◌+◌, Bool, nat_le, if◌then◌else◌, List, [], ◌∷◌, length, drop}
use Rattle.std.specs.List.{slice_split}

-- A segment of a text: the byte at which it begins, and its bytes.
pub record Segment : Type 0 where
  pub at : ℕ
  pub bytes : List ℕ

-- Segments that stand one behind the other from this byte on, with one byte between each two.
abbrev pub segments : ℕ → List (List ℕ) → List Segment
segments at [] = []
segments at (bytes ∷ more) = record { at = at; bytes = bytes } ∷ segments (at + length bytes + 1) more

-- The segments of bytes that begin at this byte of a text, cut at each byte of a class, which is in none of them.
abbrev pub cut : (ℕ → Bool) → ℕ → List ℕ → List Segment
cut p at bytes = segments at (slice_split p bytes)

-- The segments of a text from this byte on; there are none behind its end.
abbrev pub segments_from : (ℕ → Bool) → List ℕ → ℕ → List Segment
segments_from p text at = if nat_le at (length text) then cut p at (drop at text) else []
