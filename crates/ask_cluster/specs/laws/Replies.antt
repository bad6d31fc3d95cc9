-- Any two replies that meet the contract of a public function of this crate are equal, and so are any two columns that they leave. Assumes
-- nothing.
use Rattle.std.specs.Prelude.{◌≡◌, List, ℕ}
use Rattle.floats.specs.laws.Replies.{same-reply}
use Rattle.build_tables.specs.declared.State.{State}
use Rattle.ask_base.specs.Answers.{Answer}
use Rattle.ask_base.specs.Asked.{answer_of, column_of}
use Rattle.build_tables.specs.Room.{Columns}
use Rattle.ask_cluster.specs.Children.{children_of}
use Rattle.ask_cluster.specs.Expansion.{Expansion, zoom_of}
use Rattle.ask_cluster.specs.Leaves.{leaves_of}

pub children-replies : (s : State) (c : Columns) (id room : ℕ) (r t : Answer) → r ≡ answer_of (children_of s c id) room
    → t ≡ answer_of (children_of s c id) room → r ≡ t
children-replies s c id room r t = same-reply

pub children-columns : (s : State) (c : Columns) (id : ℕ) (out u v : List ℕ) → u ≡ column_of (children_of s c id) out
    → v ≡ column_of (children_of s c id) out → u ≡ v
children-columns s c id out u v = same-reply

pub expansion-replies : (s : State) (c : Columns) (id : ℕ) (r t : Expansion) → r ≡ zoom_of s c id → t ≡ zoom_of s c id → r ≡ t
expansion-replies s c id r t = same-reply

pub leaves-replies : (s : State) (c : Columns) (id limit offset room : ℕ) (r t : Answer)
    → r ≡ answer_of (leaves_of s c id limit offset) room
    → t ≡ answer_of (leaves_of s c id limit offset) room → r ≡ t
leaves-replies s c id limit offset room r t = same-reply

pub leaves-columns : (s : State) (c : Columns) (id limit offset : ℕ) (out u v : List ℕ) → u ≡ column_of (leaves_of s c id limit offset) out
    → v ≡ column_of (leaves_of s c id limit offset) out → u ≡ v
leaves-columns s c id limit offset out u v = same-reply
