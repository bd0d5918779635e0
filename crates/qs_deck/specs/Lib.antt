-- The grammar of decks, decks as they are read from their tokens, which decks are accepted and why others are refused,
-- and how decks are written; lists of grammars, and phrase texts. Decks of grammars and a Q-graph are Colmerauer's
-- (1970); their spelling, limits and refusals are this project's own.
pub mod Grammar
pub mod Versions
pub mod Limits
pub mod WrittenDecks
pub mod Reading
pub mod Syntax
pub mod Checks
pub mod Decks
pub mod Marks
pub mod Named
pub mod Refusals
pub mod GrammarLists
pub mod Segments
pub mod PhraseTexts
pub mod LinesOfWords
pub mod PhraseExamples
pub mod Texts
pub mod MadeDecks
pub mod Answers
pub mod working
