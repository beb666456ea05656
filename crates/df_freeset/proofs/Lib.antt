pub mod Counts
pub mod Least
pub mod Summary
pub mod Tally
pub mod Views
pub mod Words
