pub mod Ring
pub mod Below
