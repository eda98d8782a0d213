pub mod Gone
pub mod HandsAfter
pub mod EndingSeen
pub mod EndingKept
pub mod Endings
