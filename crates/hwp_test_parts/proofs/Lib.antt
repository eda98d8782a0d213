mod TaskBegins
mod SeatPasses
mod TakeKeeps
