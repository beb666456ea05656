pub mod Told
pub mod Adds
