pub mod Holding
pub mod Membership
pub mod NextLaws
pub mod Order
pub mod Places
pub mod PolicyReads
pub mod PolicyOwners
pub mod Search
pub mod Tables
pub mod Unique
pub use Rattle.hwp_geom.proofs as of_hwp_geom
