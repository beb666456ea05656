pub mod Laws
pub mod Sessions
pub mod Reading
pub mod Rooms
pub mod Spelling
pub mod Text
pub mod Writing
