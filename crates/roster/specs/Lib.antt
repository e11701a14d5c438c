pub mod Spelling
pub mod Reading
pub mod Faults
pub mod Told
pub mod Places
pub mod Parts
