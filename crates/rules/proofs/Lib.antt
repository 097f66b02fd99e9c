mod Gathers
mod Marks
mod Places
mod Asked
