pub mod Bytes
pub mod Offsets
pub mod Rooms
pub mod Tables
pub mod Writes
pub mod Laws
