pub mod Rooms
pub mod Fillings
pub mod Found
pub mod Sounds
pub mod Below
