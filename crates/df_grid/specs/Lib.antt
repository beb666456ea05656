pub mod Entries
pub mod Table
pub mod Grid
pub mod Reads
pub mod Writes
pub mod Laws
pub mod Below
