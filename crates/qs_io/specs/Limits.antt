-- The limits of texts. The number is this project's own.
use Rattle.std.specs.Prelude.{ℕ}

-- the most bytes that a text may have: four mebibytes
abbrev pub most_text_bytes : ℕ
most_text_bytes = 4194304
