-- What is true of the definitions of kdsort, a line a module. Written by tools/modules.

-- Shape: an interval of at most `most` slots is a leaf and a longer one a node; a shape covers the slots of its interval, each once
-- (`Spans`).
pub mod Shape
-- Worked: the definition computes: the index of seven points at node size 1, in columns that are longer than it needs.
pub mod Worked
-- Swaps: what stands where after an exchange of two slots.
pub mod Swaps
-- Perms: exchanges permute the slots: ids and both coordinates move together.
pub mod Perms
-- Scans: what a scan of the partition stops at, and how a partition begins: the pivot stands at one end, and each scan has a slot that
-- stops it.
pub mod Scans
-- Passes: the passes of a partition, said as the turns of a loop: what is left of them comes to the same end from turn to turn, be it said
-- of two slots that are exchanged next or of two slots from which the scans go on.
pub mod Passes
-- Batches: a batch of exchanges: where a scan stops, one stop after another, and that the stops of a scan up and those of a scan down,
-- exchanged in pairs, are the exchanges that the next passes make.
pub mod Batches
-- Cuts: a partition: after its passes what is not above the pivot stands left and what is not below it right, the slots are permuted, and
-- the fuel of its steps is never used up.
pub mod Cuts
-- Selects: the selection: around k the interval is in order, its slots are permuted, and the fuel is never used up.
pub mod Selects
-- Trees: the sort: its slots are permuted, and they are in the order of the tree.
pub mod Trees
-- Indexes: the index of points: the columns as the points fill them, and what their sort is.
pub mod Indexes
-- Splits: the scans and passes of a partition: the scans stop within the interval, and the passes leave what is not above the pivot left
-- and what is not below it right.
pub mod Splits
