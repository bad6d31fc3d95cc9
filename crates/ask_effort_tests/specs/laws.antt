-- What is true of the definitions of ask_effort_tests, a line a module. Written by tools/modules.

-- Tested: what is answered is what passes of the slots that are tested (`answers-tested`), over any coordinates.
pub mod Tested
-- Trials: the tests of two lists of slots are those of the first and then those of the second, and so is what they find: the places of the
-- slots that pass.
pub mod Trials
-- Spend: a search with an allowance, test by test, as the code has it: what it has found, may still test, and leaves in the column.
pub mod Spend
-- Ended: how a search with an allowance ends, without going test by test.
pub mod Ended
-- Promise: what an allowance promises, over any columns: the items of a smaller one begin those of a larger; as many tests are made as the
-- definition has, or as are allowed; one that is not used up, or just used up, gives the full answer; and the tests of queries find what
-- these answer.
pub mod Promise
