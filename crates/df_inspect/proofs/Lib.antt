pub mod Written
pub mod Digits
pub mod Classes
pub mod Fronts
pub mod Rows
pub mod Each
pub mod Laws
