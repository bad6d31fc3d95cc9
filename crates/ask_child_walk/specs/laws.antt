-- What is true of the definitions of ask_child_walk, a line a module. Written by tools/modules.

-- Within: the walk over the ring around an entry goes over `within`'s whole answer, at any place: where the place is no finite number no
-- entry passes the distance test, so that `within` answers nothing, and the cursor, which refuses such a search, goes over the same slots.
pub mod Within
-- Next: what `list_kids` and `next_child` say of a ring: its children all at once, and one at a time, where what is ahead of a walk is
-- searched for the next child and after it lie the children that follow.
pub mod Next
