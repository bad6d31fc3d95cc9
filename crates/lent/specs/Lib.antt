-- What lent says and proves, a line a module. Written by tools/modules.

-- Lent: what stands behind a reference as a function is called, and as it returns: behind a `&`, which only reads, and behind a `&mut`.
pub mod Lent
