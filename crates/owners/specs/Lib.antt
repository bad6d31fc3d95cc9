-- The definitions of owners, a line a module; what is true of them is in laws. Written by tools/modules.

-- LeafPages: #112, leaf pages that join up: the page k of a size is what `leaves` answers with the size as limit and k * size as offset.
pub mod LeafPages
-- Owners: demand 3: one owner for every lamp; and the energies of #108, by owner.
pub mod Owners
-- KeptOwners: the owner column of a state: what stands in it is each lamp's one owner in each table, and the question answers it.
pub mod KeptOwners
-- LoadedWith: what `load` replies and leaves: the build, and beside its tables the owner column.
pub mod LoadedWith
-- What is true of these: laws, and what contracts below the surface of owners cite beside them.
pub mod laws
