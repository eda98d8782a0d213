pub mod RefBounds
pub mod Exhausted
pub mod CycleBounds
pub mod LossBounds
pub mod MarkBounds
