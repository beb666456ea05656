pub mod Counted
pub mod Own
pub mod Scanned
pub mod Stored
pub mod Laws
