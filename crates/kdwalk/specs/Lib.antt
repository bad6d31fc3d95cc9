-- The definitions of kdwalk, a line a module; what is true of them is in laws. Written by tools/modules.

-- Cursor: an answer walked one slot at a time: what is left of it after a slot.
pub mod Cursor
-- Reply: the steps of a walk over the answered slots, for every input: SCOPE's refusals in its order, and otherwise the answer, one slot at
-- a time.
pub mod Reply
-- What is true of these: laws, and what contracts below the surface of kdwalk cite beside them.
pub mod laws
