pub mod Remaps
pub mod Relocations
pub mod Relocating
pub mod Seizes
pub mod Discards
