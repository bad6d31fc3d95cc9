-- The laws that the proofs of several functions cite.
pub mod Laws
pub mod Same
