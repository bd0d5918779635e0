-- A phrase text, with its parts worked out.
use Rattle.std.specs.Prelude.{ℕ, List, ◌++◌, map, codes}
use Rattle.qs_graphtext.specs.Texts.{line}
use Rattle.qs_deck.specs.Segments.{Segment}

-- A grammar without rules; a line with two words and two spaces between them; a line with a tab and no word; the line
-- `-PHRASES-` again; and a last line, which has one word, a carriage return, and no line feed.
abbrev pub one_text : List ℕ
one_text =
    line (codes "-SYSTEME- S.") ++ (line (codes "-PHRASES-") ++ (line (codes "LE  CHAT") ++ (line (codes " \t ")
    ++ (line (codes "-PHRASES-") ++ codes "A,B\r"))))

-- The bytes at which words begin, and what stands in them.
abbrev pub places : List (List Segment) → List (List ℕ)
places lines = map (map (λ word. word.at)) lines

abbrev pub texts : List (List Segment) → List (List (List ℕ))
texts lines = map (map (λ word. word.bytes)) lines
