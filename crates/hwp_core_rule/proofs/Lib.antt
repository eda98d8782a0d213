pub mod Lists
pub mod ListDrops
pub mod CountsBelow
pub mod WordsByKind
pub mod Bits
pub mod Refs
pub mod FramesInHand
pub mod EmptySlots
pub mod PageWords
pub mod KnownByLocks
pub mod Keeps
pub mod PartKeeps
pub mod AsksNoted
pub mod NoteKeeps
pub mod KeptTurns
pub mod NotLater
pub mod Sights
pub mod ShownWords
pub mod FreeAndHand
pub mod FrameFields
pub mod FrameWordLaws
pub mod BodySlots
pub mod MoreEntries
pub mod OwedLosses
pub mod EntryLists
pub mod HeldEntries
pub mod BodyHome
pub mod steps
pub mod kinds
pub mod MoveKeeps
pub mod AdoptedFrames
pub mod WordsOpen
pub mod BoardOpens
pub mod MetWords
pub mod StepKeeps
pub mod bounds
pub mod tasks
pub use Rattle.hwp_page.proofs.of_hwp_geom as of_hwp_geom
pub use Rattle.hwp_page.proofs.of_hwp_kill as of_hwp_kill
pub use Rattle.hwp_page.proofs as of_hwp_page
pub use Rattle.hwp_words.proofs as of_hwp_words
