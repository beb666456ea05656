pub mod Quorum
pub mod Best
pub mod Laws
