pub mod State
pub mod Stagings
pub mod Recorded
pub mod Courses
pub mod Parts
pub mod Below
