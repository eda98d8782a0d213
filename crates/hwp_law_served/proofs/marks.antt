pub mod OrderedLists
pub mod MarkPlaces
pub mod MarkSights
pub mod Marked
