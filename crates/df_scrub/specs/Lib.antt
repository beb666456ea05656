pub mod Scrubber
pub mod Machine
pub mod Tours
pub mod Below
