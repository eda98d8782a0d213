pub mod LossesOwed
