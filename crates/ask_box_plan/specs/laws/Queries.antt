-- The list of queries that the code's plan stands for; and a box has at most two. Assumes nothing.
use Rattle.std.specs.Prelude.{Bool, true, false, cond, List, [], ◌∷◌, ◌≤◌, length, Float, Option, Some, None}
use Rattle.std.proofs.Common.{arith}
use Rattle.std.specs.Float.Ieee.{neg}
use Rattle.range.specs.declared.CoordinateSystem.{CoordinateSystem}
use Rattle.range.specs.declared.CoordinateSystem.TheVariants.{LatLng, Cartesian}
use Rattle.kdslots.specs.declared.Query.{Query}
use Rattle.ask_box_plan.specs.declared.BoxPlan.{BoxPlan}
use Rattle.ask_box_plan.specs.Rule.{half_circle, new_west, new_east, splits, ruled_box, plan_of}

-- the second query, if there is one
abbrev pub seconds : Option Query → List Query
seconds (Some q) = q ∷ []
seconds None = []

-- the first, and then the second if there are two
abbrev pub queries_of : BoxPlan → List Query
queries_of p = p.first ∷ seconds p.second

pub plan-short : (c : CoordinateSystem) (west least east greatest : Float) → length (plan_of c west least east greatest) ≤ 2
unfolding plan_of
plan-short LatLng west least east greatest = go (splits west east)
  where
    go : (b : Bool)
        → length (cond b
        (ruled_box (new_west west east) least half_circle greatest ∷ ruled_box (neg half_circle) least (new_east west east) greatest ∷ [])
        (ruled_box west least east greatest ∷ [])) ≤ 2
    go true = omega arith
    go false = omega arith
plan-short (Cartesian d) west least east greatest = omega arith
