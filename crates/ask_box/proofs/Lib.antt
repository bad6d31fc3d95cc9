-- Laws that only this crate's own proofs use.
pub mod Parts
pub mod Plans
