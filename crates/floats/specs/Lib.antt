-- The definitions of floats, a line a module; what is true of them is in laws. Written by tools/modules.

-- Numbers: the floats that the laws and the code name: each definition once.
pub mod Numbers
-- Fraction: what a finite float has above 0: the number over its denominator.
pub mod Fraction
-- Unit: the test `in01` that code runs: whether a float lies from 0 to 1.
pub mod Unit
-- Away: a float rounded to a whole number by its exact value, a half away from zero: what Rust's `.round()` answers.
pub mod Away
-- Distance: the squared distance that a search tests against radius * radius, each operation rounded.
pub mod Distance
-- What is true of these: laws, and what contracts below the surface of floats cite beside them.
pub mod laws
