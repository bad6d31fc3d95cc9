-- Laws that only this crate's own proofs use, and Firsts that of kdpages too.
pub mod Firsts
pub mod Leaves
pub mod Steps
