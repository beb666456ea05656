pub mod History
pub mod Newest
pub mod Struck
pub mod State
pub mod Refusals
pub mod Strikes
pub mod Dropping
pub mod Settled
