pub mod Faults
pub mod Kinds
pub mod Reading
pub mod Refusing
pub mod Writing
