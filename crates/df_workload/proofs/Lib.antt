pub mod Going
pub mod Nearing
pub mod Running
pub mod Laws
pub mod Worked
