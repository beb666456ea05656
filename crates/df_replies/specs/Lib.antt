pub mod Slots
pub mod Shown
pub mod Counts
pub mod Named
pub mod Answers
pub mod Below
