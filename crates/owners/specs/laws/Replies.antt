-- Any two outcomes that meet the contract of `load` are equal: the reply, the state, every column and that of the owners. Assumes nothing.
use Rattle.std.specs.Prelude.{◌≡◌, List, ℕ, Float}
use Rattle.floats.specs.laws.Replies.{same-reply}
use Rattle.build_tables.specs.declared.Options.{Options}
use Rattle.supercluster.specs.Build.{BuildColumns}
use Rattle.owners.specs.LoadedWith.{OwnedOutcome, loaded_with}

pub owned-outcomes : (o : Options) (xs ys : List Float) (ws : List ℕ) (l : BuildColumns) (own : List ℕ) (r t : OwnedOutcome)
    → r ≡ loaded_with o xs ys ws l own → t ≡ loaded_with o xs ys ws l own → r ≡ t
owned-outcomes o xs ys ws l own r t = same-reply
