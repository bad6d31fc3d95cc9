-- Any two values that meet the contract of `tally_value`, which is public, are equal. Assumes nothing.
use Rattle.std.specs.Prelude.{◌≡◌, ℕ, Result}
use Rattle.floats.specs.laws.Replies.{same-reply}
use Rattle.refusals.specs.declared.Refusal.{Refusal}
use Rattle.ask_tile_table.specs.Tally.{tally_value}

pub value-replies : (a : Result ℕ Refusal) (r t : ℕ) → r ≡ tally_value a → t ≡ tally_value a → r ≡ t
value-replies a r t = same-reply
