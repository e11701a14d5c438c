pub mod Running
pub mod Laws
pub mod Links
pub mod Entry
pub mod BigStep
