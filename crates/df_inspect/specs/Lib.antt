pub mod Prints
pub mod Answers
pub mod Opening
pub mod Messages
pub mod Reports
