pub mod Typing
pub mod Judging
pub mod Theorems
pub mod Steps
pub mod Examples
