pub mod Softs
pub mod Offline
pub mod Done
pub mod Unpoisons
pub mod UnpoisonDone
pub use Rattle.hwp_soft_move.specs as hwp_soft_move
