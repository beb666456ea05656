pub mod Units
pub mod Shelves
pub mod Below
