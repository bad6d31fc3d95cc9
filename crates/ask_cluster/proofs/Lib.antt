-- Laws that only this crate's own proofs use.
pub mod Led
pub mod GivesChildren
pub mod Fetching
pub mod Climbing
pub mod Visiting
pub mod Walking
pub mod GivesLeaves
