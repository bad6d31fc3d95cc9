-- What replay_vectors says and proves, a line a module. Written by tools/modules.

-- Words: what the contracts say of a word's text, of a count and of floats that agree.
pub mod Words
-- Same: what the comparisons are that replays share: of columns with those expected.
pub mod Same
-- Equal: columns of numbers that are the same, by the comparison, are equal, and a column is the same as itself; so `==` of slices says
-- whether they are.
pub mod Equal
-- Chain: laws of comparisons in a row, over plain values, for the programs that compare.
pub mod Chain
-- Scores: the score of a replay: what the contracts say of it, and the laws by which a program's loop keeps it right.
pub mod Scores
