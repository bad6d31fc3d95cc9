-- What kdwalk_count says and proves, a line a module. Written by tools/modules.

-- Counted: how many slots a query answers, or the refusal of its search.
pub mod Counted
