-- Phrase texts: grammars, then a line `-PHRASES-`, then lines of words; which of them a text means, and why it means
-- none. That sentences are chains of words is Colmerauer's (1970); how they are written is this project's own.
use Rattle.std.specs.Prelude.{◌≡◌, ℕ, ◌+◌, ◌≤◌, Bool, ◌||◌, ◌==◌, nat_lt, if◌then◌else◌, List, [], ◌∷◌, ◌++◌}
use Rattle.std.specs.Prelude.{length, map, take, codes, Option, Some, None, slice_get}
use Rattle.std.specs.List.{All, filter, flat_map}
use Rattle.std.specs.Str.{IsUtf8, bytes_eq}
use Rattle.std.specs.Str.Lossy.{utf8_valid_len}
use Rattle.qs_lex.specs.declared.refusal.Cause.{Cause}
use Rattle.qs_lex.specs.declared.refusal.Cause.TheVariants.{NotUtf8, Syntax, TooManyArcs}
use Rattle.qs_lex.specs.Characters.{line_feed, carriage_return}
use Rattle.qs_lex.specs.Refusals.{IsRefusedFor}
use Rattle.qs_tree.specs.declared.cell.Label.{Label}
use Rattle.qs_reader.specs.Names.{AddsName}
use Rattle.qs_deck.specs.Limits.{most_words}
use Rattle.qs_deck.specs.declared.deck.DeckEnd.{DeckEnd}
use Rattle.qs_deck.specs.declared.deck.DeckEnd.TheVariants.{Refused, Memory}
use Rattle.qs_deck.specs.WrittenDecks.{WrittenSystem}
use Rattle.qs_deck.specs.Checks.{IsCheckFault}
use Rattle.qs_deck.specs.Decks.{Grammar}
use Rattle.qs_deck.specs.GrammarLists.{AreWritten, AreGrammarsOf, IsListFault}
use Rattle.qs_deck.specs.Segments.{Segment, cut, segments_from}

-- ---- lines and words

-- The lines of a text from this byte on: what stands before, between and behind its line feeds.
abbrev pub lines_from : List ℕ → ℕ → List Segment
lines_from text at = segments_from (λ b. b == line_feed) text at

-- What stands between words in a line: a space, a tab or a carriage return.
abbrev pub is_blank : ℕ → Bool
is_blank b = b == 32 || b == 9 || b == carriage_return

-- The words of a line: the longest runs of bytes other than these. A run is longest where it is cut at each of them;
-- what is cut between two of them that stand side by side is empty, and no word.
abbrev pub has_bytes : Segment → Bool
has_bytes segment = nat_lt 0 (length segment.bytes)

abbrev pub words_of : Segment → List Segment
words_of line = filter has_bytes (cut is_blank line.at line.bytes)

abbrev pub IsShort : Segment → Type 0
IsShort line = length (words_of line) ≤ most_words

-- The words of each line that has words.
abbrev pub has_words : List Segment → Bool
has_words words = nat_lt 0 (length words)

abbrev pub lines_with_words : List Segment → List (List Segment)
lines_with_words lines = filter has_words (map words_of lines)

-- ---- the two parts

-- The line between the two parts of a phrase text.
abbrev pub border_line : List ℕ
border_line = codes "-PHRASES-"

-- The byte at which the first of these lines begins that is exactly `-PHRASES-`, where there is one.
abbrev pub first_border : List Segment → Option ℕ
first_border [] = None
first_border (line ∷ lines) = if bytes_eq line.bytes border_line then Some line.at else first_border lines

abbrev pub border_of : List ℕ → Option ℕ
border_of text = first_border (lines_from text 0)

-- The grammar part of a text: what stands before this line, or the whole text, where it has none.
abbrev pub before : List ℕ → Option ℕ → List ℕ
before text None = text
before text (Some at) = take at text

abbrev pub grammar_part : List ℕ → List ℕ
grammar_part text = before text (border_of text)

-- The lines behind the line `-PHRASES-` that begins at this byte: it takes nine bytes and a line feed.
abbrev pub lines_behind : List ℕ → ℕ → List Segment
lines_behind text at = lines_from text (at + 10)

-- ---- what a text means

-- The words come behind the names, one after the other.
abbrev pub AddsWords : List Segment → List (List ℕ) → List (List ℕ) → Type 0
AddsWords [] old new = new ≡ old
AddsWords (word ∷ words) old new = (next : List (List ℕ)) × AddsName old word.bytes next × AddsWords words next new

-- What these labels stand for among the names, and what stands in these words. Labels are those of words where the two
-- are equal.
abbrev pub named_by : List (List ℕ) → List Label → List (Option (List ℕ))
named_by names labels = map (λ label. slice_get names label.0) labels

abbrev pub written_in : List Segment → List (Option (List ℕ))
written_in words = map (λ word. Some word.bytes) words

-- The text means these grammars, in this version, and these lines, each by the labels of its words, with these names
-- for the labels: its grammar part, which the line `-PHRASES-` ends, means the grammars, and the lines are those behind
-- it that have words, none of which has more than 65,536. The names are those of the grammars and, behind them, the
-- words, each once, in the order in which they occur first.
pub record IsPhraseText (text : List ℕ) (version : ℕ) (names : List (List ℕ)) (grammars : List Grammar)
    (lines : List (List Label)) : Type 0 where
  pub utf8 : IsUtf8 text
  pub border : ℕ
  pub border_is : border_of text ≡ Some border
  pub grammar_names : List (List ℕ)
  pub are_grammars : AreGrammarsOf (grammar_part text) version grammar_names grammars
  pub short : All IsShort (lines_behind text border)
  pub names_are : AddsWords (flat_map words_of (lines_behind text border)) grammar_names names
  pub lines_are : map (named_by names) lines ≡ map written_in (lines_with_words (lines_behind text border))

-- ---- why a text means none

-- The first fault of a text that isn't a phrase text. The phases stand in an order: bytes, over the whole text; tokens,
-- nesting and syntax of its grammar part; the line `-PHRASES-`, which is wanting at the end of the text; the check of
-- the grammars; and at last the lines, where the place is that of the 65,537th word of the first line with so many.
pub data IsPhraseFault (text : List ℕ) : ℕ → Cause → Type 0 where
  bytes : (IsUtf8 text → ⊥) → IsPhraseFault text (utf8_valid_len text) NotUtf8
  unwritten : {at : ℕ} {cause : Cause} → IsUtf8 text → IsListFault (grammar_part text) at cause
      → IsPhraseFault text at cause
  no_border : (version : ℕ) (names : List (List ℕ)) (systems : List WrittenSystem) → IsUtf8 text
      → AreWritten (grammar_part text) version names systems → border_of text ≡ None
      → IsPhraseFault text (length text) Syntax
  check : (border version : ℕ) (names : List (List ℕ)) (systems : List WrittenSystem) {at : ℕ} {cause : Cause}
      → IsUtf8 text → border_of text ≡ Some border → AreWritten (grammar_part text) version names systems
      → IsCheckFault systems at cause → IsPhraseFault text at cause
  too_many_words : (border version : ℕ) (names : List (List ℕ)) (grammars : List Grammar)
      (front more : List Segment) (line word : Segment) → IsUtf8 text → border_of text ≡ Some border
      → AreGrammarsOf (grammar_part text) version names grammars
      → lines_behind text border ≡ front ++ line ∷ more → All IsShort front
      → slice_get (words_of line) most_words ≡ Some word → IsPhraseFault text word.at TooManyArcs

-- Why no phrase text was read: the text is refused for its first fault, or there was no memory, which may come for any
-- text.
abbrev pub EndsForPhrases : List ℕ → DeckEnd → Type 0
EndsForPhrases text (Refused refusal) = IsRefusedFor IsPhraseFault text refusal
EndsForPhrases text Memory = Unit {0}
