-- What is true of the definitions of ask_box_plan, a line a module. Written by tools/modules.

-- Queries: the list of queries that the code's plan stands for; and a box has at most two.
pub mod Queries
-- Again: the two halves of a box that is split: put through the rule again, neither is split again, so that two searches are all there is.
pub mod Again
-- Worked: the rule worked from its definition: it is not done with a longitude at once, so that a half that is put through it again grows
-- to the whole row; and 180 stays as an eastern edge alone.
pub mod Worked
