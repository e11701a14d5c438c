pub mod Checks
pub mod Labels
pub mod Playing
pub mod Soundness
pub mod Telling
