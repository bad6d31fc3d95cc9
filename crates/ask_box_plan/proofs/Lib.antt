-- What the proofs of ask_box_plan share, a line a module.

-- Remainder: what is left of a number when 360 is taken from it as often as it goes: what the rule's taking by halves works out is the
-- remainder.
pub mod Remainder
-- Turns: the steps of the code that takes 360 away, and where there is none to take.
pub mod Turns
