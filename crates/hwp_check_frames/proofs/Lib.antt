pub mod FramePlaces
pub mod CountRises
mod Results
pub mod RecordLaws
pub mod SaidLaws
mod OwnLaws
pub mod SoftLaws
pub mod BesideLaws
mod GivenLaws
mod FlagLaws
mod IndexLaws
pub mod NoteLoop
mod CollectLaws
pub mod DueLaws
