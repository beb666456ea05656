pub mod Covering
pub mod Past
pub mod Now
pub mod Struck
pub mod Buffers
pub mod Possible
