-- The owner column of a state: what stands in it is each lamp's one owner in each table, and the question answers it. Definitions only.
use Rattle.std.specs.Prelude.{Ok, ◌≡◌, List, ℕ, ◌<◌, get_or}
use Rattle.build_tables.specs.declared.State.{State}
use Rattle.build_tables.specs.Options.{zoom_used}
use Rattle.ask_owner.specs.Asked.{owner_spot, owner_asked}
use Rattle.owners.specs.Owners.{Between}

-- own z l is the place in table z of the one owner of the lamp l (Owners)
pub record KeptOwners (s : State) (owners : List ℕ) (own : ℕ → ℕ → ℕ) : Type 0 where
  -- the column has it, for every lamp and every table
  pub stored : (z l : ℕ) → Between s z → l < s.count → get_or owners (owner_spot s l z) 0 ≡ own z l
  -- and no lamp's owner is refused at any zoom
  pub answered : (zoom l : ℕ) → l < s.count → owner_asked s owners l zoom ≡ Ok (own (zoom_used s.options zoom) l)
