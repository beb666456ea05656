pub mod Ends
pub mod Names
pub mod One
pub mod Telling
pub mod Turns
pub mod Two
