-- Any two outcomes that meet the contract of `load` are equal: the reply, its state and every column. Assumes nothing.
use Rattle.std.specs.Prelude.{◌≡◌, List, ℕ, Float}
use Rattle.floats.specs.laws.Replies.{same-reply}
use Rattle.build_tables.specs.declared.Options.{Options}
use Rattle.supercluster.specs.Build.{BuildColumns, Outcome, loaded}

pub load-outcomes : (o : Options) (xs ys : List Float) (ws : List ℕ) (l : BuildColumns) (r t : Outcome) → r ≡ loaded o xs ys ws l
    → t ≡ loaded o xs ys ws l → r ≡ t
load-outcomes o xs ys ws l r t = same-reply
