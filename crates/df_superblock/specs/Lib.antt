pub mod Copies
pub mod Events
pub mod Calls
pub mod Steps
pub mod Misleading
pub mod Blank
pub mod Below
