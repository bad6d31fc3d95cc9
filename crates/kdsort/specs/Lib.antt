-- The definitions of kdsort, a line a module; what is true of them is in laws. Written by tools/modules.

-- Cols: the index's two columns, and the exchange of two slots.
pub mod Cols
-- Room: what the steps of the build ask of their caller: the slots lie within the columns, and there is a coordinate of each axis for a
-- slot.
pub mod Room
-- Shape: how an interval of slots is split, whatever the slots hold: at its middle, until at most `most` slots are left.
pub mod Shape
-- Select: the selection as the Rust's `select` makes it, without the block for more than 600 slots: the two scans, the passes of a
-- partition, and the partition again on the side of k.
pub mod Select
-- Sort: the build of the index: the slots filled from the points, then sorted by the shape, axis x first, then alternating.
pub mod Sort
-- Tree: what is said of a built index: its slots are those that it was built from, each with its id and its two coordinates, and they are
-- in the order of the tree.
pub mod Tree
-- Lent: the index's two lent columns in a contract, each named once.
pub mod Lent
-- What is true of these: laws, and what contracts below the surface of kdsort cite beside them.
pub mod laws
