pub mod Softs
pub mod CountedEntries
