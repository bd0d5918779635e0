-- How the answers of the readers below are handed on.
use Rattle.qs_lex.specs.declared.refusal.LexEnd.{LexEnd}
use Rattle.qs_lex.specs.declared.refusal.LexEnd.TheVariants as lex_end
use Rattle.qs_deck.specs.declared.deck.DeckEnd.{DeckEnd}
use Rattle.qs_deck.specs.declared.deck.DeckEnd.TheVariants as deck_end

-- what is handed on where there are no tokens, and where a check or a graph has a fault. The place of a graph that
-- isn't valid is its word -GRAPHE-, which begins at the given byte.
abbrev pub end_of_tokens : LexEnd → DeckEnd
end_of_tokens (lex_end.Refused refusal) = deck_end.Refused refusal
end_of_tokens lex_end.Memory = deck_end.Memory
