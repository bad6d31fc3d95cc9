-- Laws that only this crate's own proofs use.
pub mod Turns
pub mod Stops
-- And that the crates above use too.
pub mod Loans
