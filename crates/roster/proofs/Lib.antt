pub mod Front
pub mod Leads
pub mod Faulty
pub mod Scans
pub mod Growing
pub mod Exactly
pub mod Keeping
