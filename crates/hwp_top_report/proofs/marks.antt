pub mod RowNotes
pub mod CountedMarks
pub mod RecordPlaces
