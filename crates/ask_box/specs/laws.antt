-- What is true of the definitions of ask_box, a line a module. Written by tools/modules.

-- Standing: of a sound state, the table of the zoom used lies in the columns of the index, and its part of them may be searched.
pub mod Standing
-- Joined: two searches one after the other are a walk over their joined places: how it ends, how many it counts, and what the column holds
-- when the second search is lent what the first has left of it.
pub mod Joined
-- Inside: of an index that is built from its table: a Cartesian box lists exactly the entries inside, each once, and each of them lies
-- within [0,1]; so does a box of longitudes that is not split, and each half of one that is; and a ring lists exactly the entries that pass
-- the distance test.
pub mod Inside
-- Replies: any two replies that meet the contract of a public function of this crate are equal, and so are any two columns that they leave.
pub mod Replies
-- Worked: boxes worked from the definitions: one whose first half grows to the whole row, so that an entry is listed twice; and 11 in the
-- walk comes before 10.
pub mod Worked
