-- Laws that rest on the laws of specs/.
pub mod Complete
-- Laws that only this crate's own proofs use.
pub mod Narrows
