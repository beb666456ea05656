pub mod Addresses
pub mod Bits
