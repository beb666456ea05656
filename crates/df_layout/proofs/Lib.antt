pub mod Same
pub mod Sizes
pub mod Spans
pub mod Zones
pub mod Laws
