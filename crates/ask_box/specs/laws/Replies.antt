-- Any two replies that meet the contract of a public function of this crate are equal, and so are any two columns that they leave.
-- Assumes nothing.
use Rattle.std.specs.Prelude.{◌≡◌, List, ℕ, length, Float}
use Rattle.floats.specs.laws.Replies.{same-reply}
use Rattle.build_tables.specs.declared.Options.{Options}
use Rattle.build_tables.specs.declared.State.{State}
use Rattle.build_tables.specs.Options.{zoom_used}
use Rattle.ask_base.specs.Answers.{Answer}
use Rattle.ask_base.specs.Asked.{answer_of, column_of}
use Rattle.ask_box.specs.Lists.{ring_asked, box_asked}

pub zoom-replies : (o : Options) (zoom r t : ℕ) → r ≡ zoom_used o zoom → t ≡ zoom_used o zoom → r ≡ t
zoom-replies o zoom r t = same-reply

module _ (s : State) (ids : List ℕ) (co : List Float) (zoom : ℕ) (out : List ℕ) where
  pub ring-replies : (x y radius : Float) (a b : Answer) → a ≡ answer_of (ring_asked s ids co zoom x y radius) (length out)
      → b ≡ answer_of (ring_asked s ids co zoom x y radius) (length out) → a ≡ b
  ring-replies x y radius a b = same-reply

  pub ring-columns : (x y radius : Float) (u v : List ℕ) → u ≡ column_of (ring_asked s ids co zoom x y radius) out
      → v ≡ column_of (ring_asked s ids co zoom x y radius) out → u ≡ v
  ring-columns x y radius u v = same-reply

  pub box-replies : (west least east greatest : Float) (a b : Answer)
      → a ≡ answer_of (box_asked s ids co zoom west least east greatest) (length out)
      → b ≡ answer_of (box_asked s ids co zoom west least east greatest) (length out) → a ≡ b
  box-replies west least east greatest a b = same-reply

  pub box-columns : (west least east greatest : Float) (u v : List ℕ) → u ≡ column_of (box_asked s ids co zoom west least east greatest) out
      → v ≡ column_of (box_asked s ids co zoom west least east greatest) out → u ≡ v
  box-columns west least east greatest u v = same-reply
