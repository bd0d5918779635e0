-- How lines of words stand flat. (This project.)
use Rattle.qs_deck.specs.Limits.{most_words}
use Rattle.std.specs.Prelude.{ℕ, ◌+◌, ◌-◌, ◌<◌, ◌≤◌, List, [], ◌∷◌, take, drop}

-- Words that stand one behind the other, parted into lines; the numbers count the words up to the end of each line, and
-- the first those in front of them.
abbrev pub parted : {X : Type 0} → ℕ → List X → List ℕ → List (List X)
parted from words [] = []
parted from words (end ∷ ends) = take (end - from) words ∷ parted end (drop (end - from) words) ends

-- These are ends of lines of so many words, each of which has one at least and at most as many as a line may have.
abbrev pub AreEnds : ℕ → List ℕ → ℕ → Type 0
AreEnds from [] count = from ≤ count
AreEnds from (end ∷ ends) count = (from < end) × (end ≤ from + most_words) × AreEnds end ends count
