pub mod Draw
pub mod Rounds
pub mod Asking
pub mod Hearing
pub mod Following
pub mod Sound
