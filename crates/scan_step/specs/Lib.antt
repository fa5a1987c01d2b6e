pub mod Blocks
pub mod Current
pub mod Effect
