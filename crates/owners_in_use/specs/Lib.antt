-- What owners_in_use says and proves, a line a module. Written by tools/modules.

-- InUse: what runs has demand 3: the C name `supercluster_load`, in the numbers and arrays that it gives to its caller, and the lister's
-- build, in the columns from which it prints.
pub mod InUse
