-- The definitions of ask_effort, a line a module; what is true of them is in laws. Written by tools/modules.

-- Effort: what a box question with a stated effort comes to, over whatever the lent columns hold: a refusal before any test, or the tests
-- of the definition of its search in the table of the zoom used, of which the allowance takes the first.
pub mod Effort
-- StatedEffort: #102, a box search with a stated effort: what is said of the reply of `effort_box` and of what it leaves in the column,
-- beside `list_box` for the same box.
pub mod StatedEffort
-- What is true of these: laws, and what contracts below the surface of ask_effort cite beside them.
pub mod laws
