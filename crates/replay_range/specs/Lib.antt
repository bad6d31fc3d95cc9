-- What replay_range says and proves, a line a module. Written by tools/modules.

-- Text: what the contracts say of a line's text: its dashes and fields, and the case that these make.
pub mod Text
-- Judge: what the contracts say of a case's verdict.
pub mod Judge
