pub mod LossesSeen
pub mod NumbersTold
pub mod LossesAgree
