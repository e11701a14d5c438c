pub mod Numerals
pub mod Decimal
pub mod Fields
