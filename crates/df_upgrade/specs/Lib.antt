pub mod Old
pub mod Base
pub mod Upgrading
pub mod Upgraded
pub mod Below
