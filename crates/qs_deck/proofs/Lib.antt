-- Reading.
pub mod Tables
pub mod Steps
pub mod Places
pub mod Told
-- Checking, and what a written deck means.
pub mod CheckSteps
pub mod Borders
pub mod WhatIsRead
pub mod Meanings
-- Writing.
pub mod Errors
-- That there is one meaning or one refusal.
pub mod Versions
pub mod VersionSteps
pub mod WholeDecks
pub mod OneDeck
pub mod OneFault
pub mod OneList
-- That what is written is read as it was.
pub mod DecksReadBack
pub mod WritableDecks
pub mod DecksNested
pub mod DeckLabels
pub mod DecksInUtf8
pub mod DecksAccepted
-- That there is one.
pub mod WholeRead
pub mod EachText
pub mod EachList
-- Phrase texts.
pub mod Cutting
pub mod NamedWords
pub mod LinesRead
pub mod PartedWords
pub mod BorderLines
pub mod StillNamed
pub mod PhraseMeanings
pub mod OnePhraseText
pub mod EachPhraseText
-- Made decks.
pub mod MadeLemmas
