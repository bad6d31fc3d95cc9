-- What is true of the definitions of lister_text, a line a module. Written by tools/modules.

-- Digits: how decimal digits grow by the last digit.
pub mod Digits
-- Scan: what is read of a line, each part over what is left of the text.
pub mod Scan
-- Form: what the parser's parts answer, the text read from its front.
pub mod Form
-- Coords: a coordinate is k / 65,536 exactly: no NaN, and within [0, 1] where k is at most 65,536.
pub mod Coords
-- Reading: a line is read if and only if it stands there: number-ends and line-ends say what was read, number_read and line_read that it is
-- read.
pub mod Reading
-- Lines: a line in a reading of several: where it stands, the reading goes on past it (`goes_on`, `past`); and where a reading went on past
-- a line, the line stands there (`got`).
pub mod Lines
-- Points: points are read if and only if they stand there: points-read and points-end.
pub mod Points
-- OneInput: no two inputs that SCOPE takes have one writing: `text-one`.
pub mod OneInput
-- Heads: the first seven lines are read if and only if they stand there: head_read and head-ends.
pub mod Heads
-- Whole: a text is read as these values if and only if it is their writing: `accepts` and `only`.
pub mod Whole
-- Replies: any two replies that meet the contract of a public function of this crate are equal, and so are any two columns that they leave.
pub mod Replies
