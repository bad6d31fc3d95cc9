-- What is true of the definitions of law_answers, a line a module. Written by tools/modules.

-- Stored: of a build that is accepted, in columns that hold it: the state passes its check, and the table of each zoom and its index stand
-- where the state says.
pub mod Stored
-- Children: of a build that is accepted: the search for the children of a cluster answers what `within` answered around its origin, so none
-- of its slots is past the table, and the children are the members of the cluster in the order of the answers.
pub mod Children
-- Clusters: of a build that is accepted: the id of each of its clusters leads to its origin, where it is asked for and where a walk goes on
-- into it; it has two children or more, its members in the order of the answers; and it expands at the zoom after the one that made it.
pub mod Clusters
-- Page: a page of a list of lamps: after the first `offset`, up to `limit` of them.
pub mod Page
-- Walks: a walk over the lamps of a cluster of an accepted build, whatever is said of what it skips and lists: what holds of no lamps, of
-- lamps that are skipped, of one that is listed, and of some lamps and then more, holds of the whole walk over the cluster's lamps, in
-- their order.
pub mod Walks
-- Leaves: of a build that is accepted, of each of its clusters: its leaves are its lamps after the first `offset`, as many as the limit,
-- with limit 0 none.
pub mod Leaves
-- Boxed: of a build that is accepted, in columns that hold it, what a box and a ring answer: a Cartesian box lists exactly the entries
-- between its normalised corners, each once; so does a box of longitudes between the edges after the rule, and each half of one that is
-- split.
pub mod Boxed
-- Tiled: of a build that is accepted, in columns that hold it, what a tile answers: the items of exactly the entries between the edges of
-- its own range, each once; then, where strips run, for x = 0, of exactly those of the strip in the east, each once; then, for x = z2 - 1,
-- of exactly those of the strip in the west, each once.
pub mod Tiled
-- Sums: sums over the numbers below n: two sums change places, a sum with one term that counts is that term.
pub mod Sums
-- Homes: of a build that is accepted, in columns that hold it, what the tallies of one zoom come to.
pub mod Homes
-- Unspoiled: of a build that is accepted: no question for children, leaves or an expansion zoom is refused 11, whatever the id, the limit,
-- the offset and the room.
pub mod Unspoiled
