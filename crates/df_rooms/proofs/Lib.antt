pub mod Laws
mod SameFile
mod Records
mod Stagings
mod Asking
