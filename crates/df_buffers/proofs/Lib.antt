pub mod Finds
pub mod Making
pub mod Bodies
pub mod Tidied
pub mod Probes
pub mod Laws
