pub mod Bitwise
pub mod Ranges
pub mod Rounding
pub mod Shares
