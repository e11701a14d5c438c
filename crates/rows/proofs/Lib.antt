pub mod Searching
pub mod Refusals
pub mod Constants
pub mod Acceptance
