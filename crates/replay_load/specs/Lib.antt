-- What replay_load says and proves, a line a module. Written by tools/modules.

-- Same: what the comparisons are: of a build's reply, state and columns with what is expected.
pub mod Same
