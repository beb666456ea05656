pub mod Limits
pub mod Order
pub mod Spans
pub mod Zones
