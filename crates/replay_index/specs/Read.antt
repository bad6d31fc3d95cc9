-- What the contracts say of what is read: queries. Definitions only.
use Rattle.std.specs.Prelude.{ℕ, cond, eqb}
use Rattle.std.specs.Float.{binary64}
use Rattle.std.specs.Float.Ieee.{of_bits}
use Rattle.kdslots.specs.declared.Query.{Query}
use Rattle.kdslots.specs.declared.Query.TheVariants.{Range, Within}

-- the query of a kind and of the bits of its numbers
abbrev pub query_read : ℕ → ℕ → ℕ → ℕ → ℕ → Query
query_read kind a b c d =
    cond (eqb kind 0)
    (Range (of_bits binary64 a) (of_bits binary64 b) (of_bits binary64 c) (of_bits binary64 d))
    (Within (of_bits binary64 a) (of_bits binary64 b) (of_bits binary64 c))
