pub mod Totals
pub mod Keeps
pub mod GivingBack
pub mod NewPasses
pub mod Closing
