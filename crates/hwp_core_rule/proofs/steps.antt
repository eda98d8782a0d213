pub mod CountSteps
pub mod FrameLockSteps
pub mod PageLockLists
pub mod PageLockSteps
pub mod OwnerSteps
pub mod MarkSteps
pub mod PoisonedLocks
pub mod NameSteps
