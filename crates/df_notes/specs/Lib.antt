pub mod Ending
pub mod Calling
pub mod Keeping
pub mod Showing
pub mod Serving
pub mod Run
pub mod Staying
