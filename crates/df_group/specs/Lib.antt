pub mod Below
pub mod Cut
pub mod Fitting
pub mod Reached
pub mod Words
