pub mod Unpaired
pub mod Tallies
pub mod Walks
pub mod Lows
pub mod Lacking
pub mod Needed
pub mod Spots
pub mod Unmarked
