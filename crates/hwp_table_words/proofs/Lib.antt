pub mod tlb
mod Times
mod WordOrder
mod ListReads
mod FirstParts
mod SeatMoves
mod SeatKnows
pub mod TableKeeps
mod OperationAsks
mod EntryAsks
mod LookAsks
mod Sweeps
mod Follows
mod Looked
mod SeatDeals
mod Carried
mod FrontSlot
mod Made
mod SeatKeeps
mod Taken
pub mod Opened
mod Closed
mod OrderLocks
mod Guarded
mod SeatMakes
pub use Rattle.hwp_core_rule.proofs as of_hwp_core_rule
pub use Rattle.hwp_plain.proofs as of_hwp_plain
