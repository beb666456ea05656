mod Apart
mod Blame
mod Commas
mod Disks
pub mod Laws
mod Layouts
