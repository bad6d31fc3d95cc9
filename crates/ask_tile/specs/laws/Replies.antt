-- Any two outcomes that meet the contract of a public function of this crate are equal: the answer and every column. Assumes nothing.
use Rattle.std.specs.Prelude.{◌≡◌, List, Result, ℕ, ℤ}
use Rattle.floats.specs.laws.Replies.{same-reply}
use Rattle.build_tables.specs.declared.State.{State}
use Rattle.build_tables.specs.Room.{Columns}
use Rattle.refusals.specs.declared.Refusal.{Refusal}
use Rattle.ask_tile.specs.Asked.{TileOutcome, tiled}
use Rattle.ask_tile.specs.Tallied.{tallied}

pub tile-outcomes : (s : State) (c : Columns) (z x y : ℕ) (places : List ℕ) (xs ys : List ℤ) (r t : TileOutcome)
    → r ≡ tiled s c z x y places xs ys → t ≡ tiled s c z x y places xs ys → r ≡ t
tile-outcomes s c z x y places xs ys r t = same-reply

pub tally-replies : (s : State) (c : Columns) (z x y : ℕ) (r t : Result ℕ Refusal) → r ≡ tallied s c z x y → t ≡ tallied s c z x y → r ≡ t
tally-replies s c z x y r t = same-reply
