-- What the readers of phrase texts promise.
use Rattle.std.specs.Prelude.{◌≡◌, ℕ, ◌+◌, ◌<◌, ◌≤◌, ◌==◌, List, [], ◌∷◌, ◌++◌, length, map}
use Rattle.std.specs.Prelude.{Some, slice_get, IsCharBoundary}
use Rattle.qs_lex.specs.Characters.{line_feed}
use Rattle.std.specs.List.{All, filter, flat_map}
use Rattle.qs_lex.specs.declared.refusal.Cause.TheVariants.{TooManyArcs}
use Rattle.qs_tree.specs.declared.cell.Label.{Label}
use Rattle.qs_reader.specs.Names.{AddsName}
use Rattle.qs_deck.specs.Limits.{most_words}
use Rattle.qs_deck.specs.declared.fault.FaultEnd.{FaultEnd}
use Rattle.qs_deck.specs.declared.fault.FaultEnd.TheVariants.{Fault, Memory}
use Rattle.qs_deck.specs.Segments.{Segment, segments_from}
use Rattle.qs_deck.specs.PhraseTexts.{is_blank, has_bytes, words_of, IsShort, lines_with_words, AddsWords}
use Rattle.qs_deck.specs.PhraseTexts.{named_by, written_in}

-- the ends of these lines, behind so many words
abbrev pub ends_of : {X : Type 0} → ℕ → List (List X) → List ℕ
ends_of from [] = []
ends_of from (line ∷ lines) = (from + length line) ∷ ends_of (from + length line) lines

-- their words, one behind the other
abbrev pub flat : {X : Type 0} → List (List X) → List X
flat lines = flat_map (λ line. line) lines

-- the words of a line that begins at this byte and goes to the end of the text
abbrev pub words_from : List ℕ → ℕ → List Segment
words_from text at = filter has_bytes (segments_from is_blank text at)

-- a word is named, and its label comes behind others
pub record AddsWord (word : List ℕ) (old new : List (List ℕ)) (before behind : List Label) : Type 0 where
  pub label : Label
  pub adds : AddsName old word new
  pub named : slice_get new label.0 ≡ Some word
  pub behind_is : behind ≡ before ++ label ∷ []

-- these words are named, and their labels come behind others
pub record AddsLabels (words : List Segment) (old new : List (List ℕ)) (before behind : List Label) : Type 0 where
  pub labels : List Label
  pub adds : AddsWords words old new
  pub named : named_by new labels ≡ written_in words
  pub behind_is : behind ≡ before ++ labels

-- the words of the line are read
pub record ReadsWords (text : List ℕ) (from : ℕ) (old new : List (List ℕ)) (before behind : List Label)
    : Type 0 where
  pub adds : AddsLabels (words_from text from) old new before behind
  pub short : length (words_from text from) ≤ most_words
  pub few_names : length new ≤ length text
  pub few_words : length behind ≤ length text

-- the words of the line that begin in front of this byte are read
pub record ReadsWordsTo (text : List ℕ) (from at count : ℕ) (old new : List (List ℕ)) (before behind : List Label)
    : Type 0 where
  pub words : List Segment
  pub all : words_from text from ≡ words ++ words_from text at
  pub count_is : count ≡ length words
  pub adds : AddsLabels words old new before behind
  pub short : count ≤ most_words
  pub few_names : length new < at
  pub few_words : length behind < at
  pub within : at ≤ length text + 1
  pub border : at ≤ length text → IsCharBoundary text at

-- why the words of the line weren't read: there are too many, or there was no memory
abbrev pub IsEndOfWords : List ℕ → ℕ → FaultEnd → Type 0
IsEndOfWords text from (Fault byte cause) =
    (word : Segment) × (slice_get (words_from text from) most_words ≡ Some word) × (byte ≡ word.at)
    × (cause ≡ TooManyArcs) × (byte < length text) × IsCharBoundary text byte
IsEndOfWords text from Memory = Unit {0}

-- the lines are read, of which those with words are these
pub record ReadsLines (lines : List Segment) (old new : List (List ℕ)) (read : List (List Label)) : Type 0 where
  pub short : All IsShort lines
  pub adds : AddsWords (flat_map words_of lines) old new
  pub lines_are : map (named_by new) read ≡ map written_in (lines_with_words lines)

-- the lines of the text from the first byte on are read as far as the second
pub record ReadsLinesTo (text : List ℕ) (from at : ℕ) (old new : List (List ℕ)) (words : List Label) (ends : List ℕ)
    : Type 0 where
  pub lines : List Segment
  pub all : segments_from (λ b. b == line_feed) text from ≡ lines ++ segments_from (λ b. b == line_feed) text at
  pub short : All IsShort lines
  pub adds : AddsWords (flat_map words_of lines) old new
  pub named : named_by new words ≡ written_in (flat (lines_with_words lines))
  pub ends_are : ends ≡ ends_of 0 (lines_with_words lines)
  pub few_names : length new < at
  pub few_words : length words < at
  pub within : at ≤ length text + 1
  pub border : at ≤ length text → IsCharBoundary text at

-- why the lines of the text weren't read: one of them has too many words, or there was no memory
pub record HasTooManyWords (text : List ℕ) (lines : List Segment) (byte : ℕ) : Type 0 where
  pub front : List Segment
  pub line : Segment
  pub more : List Segment
  pub word : Segment
  pub are : lines ≡ front ++ line ∷ more
  pub short : All IsShort front
  pub word_is : slice_get (words_of line) most_words ≡ Some word
  pub byte_is : byte ≡ word.at
  pub border : IsCharBoundary text byte

abbrev pub IsEndOfLines : List ℕ → List Segment → FaultEnd → Type 0
IsEndOfLines text lines (Fault byte cause) = HasTooManyWords text lines byte × (cause ≡ TooManyArcs)
IsEndOfLines text lines Memory = Unit {0}
