-- What the comparisons are: of the answer to a question, by the definition that the public function cites, with what is expected.
-- Definitions only.
use Rattle.std.specs.Prelude.{ℕ, Bool, ◌&&◌, List, eqb, ℤ, length, Result}
use Rattle.build_tables.specs.declared.State.{State}
use Rattle.refusals.specs.declared.Refusal.{Refusal}
use Rattle.refusals.specs.Refusals.{number, carried}
use Rattle.ask_base.specs.Asked.{Asked, answer_of, column_of}
use Rattle.build_tables.specs.Room.{Columns}
use Rattle.ask_box.specs.Lists.{box_asked, ring_asked}
use Rattle.ask_cluster.specs.Children.{children_of}
use Rattle.ask_cluster.specs.Leaves.{leaves_of}
use Rattle.ask_cluster.specs.Expansion.{Expansion}
use Rattle.ask_tile.specs.Asked.{TileOutcome}
use Rattle.replay_vectors.specs.declared.Question.{Question}
use Rattle.replay_vectors.specs.declared.Question.TheVariants.{Box as Question-as-Box, Ring as Question-as-Ring, Children as Question-as-Children}
use Rattle.replay_vectors.specs.declared.Question.TheVariants.{Leaves as Question-as-Leaves}
use Rattle.replay_vectors.specs.Same.{same_places, same_longs}
use Rattle.replay_questions.specs.declared.Listing.{Listing}
use Rattle.replay_questions.specs.declared.Listing.TheVariants.{Box, Ring, Children, Leaves}
use Rattle.replay_questions.specs.declared.Reply.{Reply}

-- what a question that lists comes to
unfoldable pub asked_of : Listing → State → Columns → Asked
asked_of (Box zoom west least east greatest) s c = box_asked s c.ids c.coords zoom west least east greatest
asked_of (Ring zoom x y radius) s c = ring_asked s c.ids c.coords zoom x y radius
asked_of (Children id) s c = children_of s c id
asked_of (Leaves id limit offset) s c = leaves_of s c id limit offset

-- its name
abbrev pub question_of : Listing → Question
question_of (Box zoom west least east greatest) = Question-as-Box
question_of (Ring zoom x y radius) = Question-as-Ring
question_of (Children id) = Question-as-Children
question_of (Leaves id limit offset) = Question-as-Leaves

-- the number of a reply and what it carries are those expected
unfoldable pub same_reply : Reply → Result ℕ Refusal → Bool
same_reply want r = eqb want.number (number r) && eqb want.carried (carried r)

-- a question that lists: its answer, and the column afterwards
unfoldable pub lists_to : Reply → List ℕ → Asked → List ℕ → Bool
lists_to reply want a out = same_reply reply (answer_of a (length out)) && same_places want (column_of a out)

-- an expansion zoom, and a tally
unfoldable pub zooms_to : Reply → Expansion → Bool
zooms_to reply e = same_reply reply e

unfoldable pub sums_to : Reply → Result ℕ Refusal → Bool
sums_to reply t = same_reply reply t

-- a tile: its answer, and the three columns afterwards
unfoldable pub same_tile : List ℕ → List ℤ → List ℤ → List ℕ → List ℤ → List ℤ → Bool
same_tile want wx wy places xs ys = same_places want places && same_longs wx xs && same_longs wy ys

unfoldable pub tiles_to : Reply → List ℕ → List ℤ → List ℤ → TileOutcome → Bool
tiles_to reply want wx wy o = same_reply reply o.answer && same_tile want wx wy o.places o.xs o.ys
