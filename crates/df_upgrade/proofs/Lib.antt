pub mod Records
pub mod Above
pub mod Anew
pub mod Asked
pub mod Laws
