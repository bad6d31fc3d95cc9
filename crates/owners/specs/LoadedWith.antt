-- What `load` replies and leaves: the build, and beside its tables the owner column. The build is that of `supercluster`; only 4 looks at
-- the owner column too. Definitions only.
use Rattle.std.specs.Prelude.{List, ℕ, min, Float, length}
use Rattle.build_tables.specs.declared.Options.{Options}
use Rattle.build_all_zooms.specs.Zooms.{laid_over}
use Rattle.supercluster.specs.Build.{BuildColumns, Outcome, room_in, checked_in, tables_of, unless_refused, by_reply}
use Rattle.refusals.specs.Refusals.{number}
use Rattle.build_owners.specs.OwnerColumn.{owner_column}

-- for how many entries the columns of the build and that of the owners have room
abbrev pub room_with : BuildColumns → List ℕ → ℕ
room_with l own = min (room_in l) (length own)

-- a reply, its state where it is no refusal, and what it leaves in the columns and in that of the owners
pub record OwnedOutcome : Type 0 where
  pub build : Outcome
  pub owners : List ℕ

abbrev pub owned_outcome : Outcome → List ℕ → OwnedOutcome
owned_outcome b own = record { build = b; owners = own }

-- what `load` replies and leaves, for every input: the owners over what the column held, where nothing is refused
unfoldable pub loaded_with : Options → List Float → List Float → List ℕ → BuildColumns → List ℕ → OwnedOutcome
loaded_with o xs ys ws l own =
    let r = checked_in o xs ys ws (room_with l own) in
    let column = owner_column (length xs) (tables_of o xs ys ws) in
    owned_outcome (by_reply o xs ys ws l r) (unless_refused (number r) (laid_over column own) own)
