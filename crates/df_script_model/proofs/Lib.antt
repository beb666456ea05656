pub mod Filled
pub mod Fills
pub mod Printed
pub mod Worked
