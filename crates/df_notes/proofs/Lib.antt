mod Blame
mod Called
mod Opened
mod Served
mod Shows
mod Stays
mod Steps
