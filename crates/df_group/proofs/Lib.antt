pub mod Asks
pub mod Cutting
pub mod Grouping
pub mod Heads
pub mod Walks
pub mod Laws
