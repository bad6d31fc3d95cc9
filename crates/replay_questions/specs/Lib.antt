-- What replay_questions says and proves, a line a module. Written by tools/modules.

-- Same: what the comparisons are: of the answer to a question, by the definition that the public function cites, with what is expected.
pub mod Same
-- Decides: what it says that a question agrees: the stored reply and the stored columns are those of the definition, and none else.
pub mod Decides
