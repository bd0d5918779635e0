-- The readings of a list.
use Rattle.std.specs.Prelude.{ℕ, List, map}
use Rattle.qs_phrase.specs.declared.listing.ReadingList.{ReadingList}

-- The readings of the list, each by the numbers of its arcs.
abbrev pub paths_of : ReadingList → List (List ℕ)
paths_of list = map (λ path. path.items) list.paths.items
