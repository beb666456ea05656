pub mod Loop
pub mod Beats
pub mod Laws
pub mod Worked
