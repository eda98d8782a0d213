pub mod TakenFrames
