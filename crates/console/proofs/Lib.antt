mod Lining
mod Splitting
mod Cutting
mod Reading
mod Printed
mod Stepping
mod Traces
mod Buffers
mod Clips
mod Clipping
pub mod Following
pub mod Filled
