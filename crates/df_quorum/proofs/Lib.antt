pub mod Choices
pub mod Candidates
pub mod Laws
pub mod Pairs
pub mod SameFields
