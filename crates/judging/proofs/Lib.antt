mod Passing
pub mod Exactly
pub mod Orders
mod OrderAlone
mod Sequence
mod Reading
mod Walking
mod Judgements
