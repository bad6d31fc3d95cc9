-- What is true of the definitions of ask_cluster, a line a module. Written by tools/modules.

-- Column: what the private functions of the walk over lamps say: what becomes of a child, and, of the lent column, that behind it stand the
-- lamps of the definition's walk, as far as they fit.
pub mod Column
-- Replies: any two replies that meet the contract of a public function of this crate are equal, and so are any two columns that they leave.
pub mod Replies
-- Fetch: what the private `fetch` says of the children of a cluster, as far as its callers go by them.
pub mod Fetch
