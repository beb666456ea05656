pub mod Applied
pub mod Each
pub mod Kept
pub mod Noted
pub mod Places
pub mod Laws
pub mod Listed
