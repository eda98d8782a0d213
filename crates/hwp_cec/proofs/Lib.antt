pub mod RingLaws
pub mod Counts
pub mod AgeLaws
pub mod CountingLaws
pub mod CounterLaws
