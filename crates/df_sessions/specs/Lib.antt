pub mod Changes
pub mod Requests
pub mod Table
