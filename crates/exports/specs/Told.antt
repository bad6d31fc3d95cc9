-- Replies to the questions as a C caller sees them: SCOPE's number, what is carried, and the output columns afterwards. Definitions only.
use Rattle.std.specs.Prelude.{Bool, List, ℕ, length, ℤ, Result}
use Rattle.refusals.specs.declared.Refusal.{Refusal}
use Rattle.refusals.specs.Refusals.{number, carried as carried_by}
use Rattle.ask_base.specs.Asked.{Asked, answer_of, column_of}
use Rattle.ask_effort_tests.specs.Reply.{EffortReply, effort_number, effort_carried}
use Rattle.ask_effort.specs.Effort.{EffortAsked, effort_reply_of, effort_column_of as effort_column}
use Rattle.ask_tile_table.specs.Tally.{tally_value}
use Rattle.ask_tile.specs.Asked.{TileOutcome}
use Rattle.posting.specs.Post.{Posted}

-- of a question that has no output column
pub record Said : Type 0 where
  pub number : ℕ
  pub carried : ℕ

abbrev pub said : ℕ → ℕ → Said
said n k = record { number = n; carried = k }

-- of the zoom at which a cluster falls apart, and of an owner's place
abbrev pub number_said : Result ℕ Refusal → Said
number_said r = said (number r) (carried_by r)

-- of a sum
abbrev pub tally_said : Result ℕ Refusal → Said
tally_said r = said (number r) (tally_value r)

-- of a question that lists
pub record Told : Type 0 where
  pub number : ℕ
  pub carried : ℕ
  pub column : List ℕ

abbrev pub told_c : ℕ → ℕ → List ℕ → Told
told_c n k out = record { number = n; carried = k; column = out }

-- what it comes to, with an output column of these old contents
abbrev pub told_of : Asked → List ℕ → Told
told_of a out = told_c (number (answer_of a (length out))) (carried_by (answer_of a (length out))) (column_of a out)

-- of a box within an effort: carried is how many were found
pub record EffortTold : Type 0 where
  pub number : ℕ
  pub carried : ℕ
  pub tested : ℕ
  pub stopped : Bool
  pub column : List ℕ

abbrev pub effort_told : ℕ → ℕ → ℕ → Bool → List ℕ → EffortTold
effort_told n k t b out = record { number = n; carried = k; tested = t; stopped = b; column = out }

-- its reply as these numbers, beside the column
abbrev pub replied_with : EffortReply → List ℕ → EffortTold
replied_with r out = effort_told (effort_number r) (effort_carried r).items (effort_carried r).tested (effort_carried r).stopped out

abbrev pub effort_told_of : EffortAsked → ℕ → List ℕ → EffortTold
effort_told_of x a out = replied_with (effort_reply_of x a (length out)) (effort_column x a out)

-- of a tile
pub record TileTold : Type 0 where
  pub number : ℕ
  pub carried : ℕ
  pub places : List ℕ
  pub xs : List ℤ
  pub ys : List ℤ

abbrev pub tile_told : ℕ → ℕ → List ℕ → List ℤ → List ℤ → TileTold
tile_told n k places xs ys = record { number = n; carried = k; places = places; xs = xs; ys = ys }

abbrev pub tile_of : TileOutcome → TileTold
tile_of o = tile_told (number o.answer) (carried_by o.answer) o.places o.xs o.ys

-- of a posting: the number, and the energy column
pub record PostTold : Type 0 where
  pub number : ℕ
  pub energy : List ℕ

abbrev pub post_told : ℕ → List ℕ → PostTold
post_told n energy = record { number = n; energy = energy }

abbrev pub post_told_of : Posted → PostTold
post_told_of p = post_told (number p.reply) p.energy
