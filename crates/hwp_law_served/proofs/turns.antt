pub mod TurnLeads
pub mod SeatKnows
pub mod SeatTells
pub mod StepEntries
pub mod SightOrder
pub mod TurnKeeps
