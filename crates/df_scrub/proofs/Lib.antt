pub mod Checks
pub mod Touring
