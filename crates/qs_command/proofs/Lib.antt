pub mod OptionLemmas
pub mod CommandLemmas
pub mod ReadWords
