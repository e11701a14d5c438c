pub mod Keeping
pub mod Turning
pub mod Parts
pub mod Opens
pub mod Leading
pub mod Standing
pub mod Rules
pub mod Lengthening
