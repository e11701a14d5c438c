pub mod Bitwise
pub mod InWords
