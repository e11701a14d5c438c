pub mod Slots
pub mod Words
