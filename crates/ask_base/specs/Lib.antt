-- The definitions of ask_base, a line a module; what is true of them is in laws. Written by tools/modules.

-- Answers: the answer of a question that lists: how many items, or a refusal, and how long an answer a column has room for.
pub mod Answers
-- Asked: what a question comes to: a refusal before its walk, or what the walk finds; the answer and the column afterwards are read from
-- it.
pub mod Asked
-- Columns: the parts of the nine lent columns that hold the table of one zoom and its index.
pub mod Columns
-- Ids: where a cluster's id leads: of the cluster that is asked for, and of a child cluster that a walk goes on into.
pub mod Ids
-- What is true of these: laws, and what contracts below the surface of ask_base cite beside them.
pub mod laws
