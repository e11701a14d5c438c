pub mod Noninterference
pub mod Monitor
pub mod Strike
pub mod Examples
