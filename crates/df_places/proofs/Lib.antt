pub mod Rooms
pub mod Shelves
pub mod Steps
pub mod Laws
