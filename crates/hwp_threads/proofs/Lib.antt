pub mod OwnKeeps
pub mod FailureClaims
pub mod WorkerRuns
pub mod WorkerTurn
pub mod SeatDeals
pub mod SeatMoves
pub mod Pieces
pub mod SeatJoins
pub use Rattle.hwp_core_rule.proofs as of_hwp_core_rule
