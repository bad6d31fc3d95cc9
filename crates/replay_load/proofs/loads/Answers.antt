-- `replay_load::loads` meets its contract: what the build leaves is what `loaded` says, and it is compared as the definition says.
-- Assumes nothing.
-- what is compared is what the build came to
use mathlib.Core.Bool.{Bool}
use mathlib.Core.List.{List}
use mathlib.Core.Path.{◌≡◌, ap, ◌∙◌}
use Prim.Native.Nat.{ℕ}
use lib.ListN.{length}
use lib.Ieee.{Float}
use Rattle.build_tables.specs.declared.Options.{Options}
use Rattle.supercluster.specs.Build.{BuildColumns, Outcome, loaded}
use Rattle.replay_vectors.specs.Chain.{◌and◌}
use Rattle.replay_vectors.specs.Equal.{places-compared}
use Rattle.replay_load.specs.Same.{agrees_with, loads_to}
use Rattle.replay_load.proofs.loads.Goals as goal

compared : (o : Options) (xs ys : List Float) (energies starts lens : List ℕ) (want l : BuildColumns) (got : Outcome) (r : Bool)
    → got ≡ loaded o xs ys energies l → r ≡ agrees_with o (length xs) starts lens want got
    → r ≡ loads_to o xs ys energies starts lens want l
unfolding loads_to
compared o xs ys energies starts lens want l got r e f = f ∙ ap (agrees_with o (length xs) starts lens want) e

pub returns : goal.returns
unfolding agrees_with
returns c =
    compared _ _ _ _ _ _ _ _ _ _ c.load-reply.ensures.value
    (c.is_built.ensures and c.same_floats.ensures and c.same_floats-2.ensures and places-compared _ _ _ c.eq.ensures
    and places-compared _ _ _ c.eq-2.ensures and places-compared _ _ _ c.eq-3.ensures
    and places-compared _ _ _ c.eq-4.ensures and places-compared _ _ _ c.eq-5.ensures
    and places-compared _ _ _ c.eq-6.ensures and c.same_floats-3.ensures and places-compared _ _ _ c.eq-7.ensures)
