pub mod Parses
pub mod Walks
mod Stacks
pub mod Linking
pub mod Assembling
pub mod Bounds
pub mod Beginnings
pub mod Telling
pub mod Meanings
