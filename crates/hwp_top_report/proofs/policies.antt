pub mod PolicyCounts
pub mod PolicySeen
pub mod PolicyDone
pub mod Policies
