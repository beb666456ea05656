pub mod Slots
pub mod Below
