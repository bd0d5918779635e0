-- The texts of labels. A label is a text (Colmerauer 1970), compared byte by byte; that it is kept as the number of its
-- place in a list of texts is this project's own.
use Rattle.std.specs.Prelude.{◌≡◌, ℕ, List, Some, slice_get}

-- each text stands at one place only, so that it has one number
abbrev pub AreDistinct : List (List ℕ) → Type 0
AreDistinct texts = (i j : ℕ) (text : List ℕ) → slice_get texts i ≡ Some text → slice_get texts j ≡ Some text → i ≡ j
