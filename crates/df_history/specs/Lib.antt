pub mod Lives
pub mod Laws
pub mod Histories
pub mod OpenLaws
pub mod Awakened
pub mod Sample
pub mod Upgraded
