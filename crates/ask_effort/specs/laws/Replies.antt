-- Any two replies that meet the contract of `effort_box` are equal, and so are any two columns that they leave; the same of the number of
-- a reply and of what it carries, and of the methods of `EffortRefusal`. Assumes nothing.
use Rattle.std.specs.Prelude.{◌≡◌, List, ℕ, length, Float}
use Rattle.floats.specs.laws.Replies.{same-reply}
use Rattle.build_tables.specs.declared.State.{State}
use Rattle.ask_effort_tests.specs.declared.Effort.{Effort}
use Rattle.ask_effort_tests.specs.declared.EffortRefusal.{EffortRefusal}
use Rattle.ask_effort_tests.specs.Reply.{EffortReply, effort_number, effort_carried, effort_number_of, effort_carried_of}
use Rattle.ask_effort.specs.Effort.{effort_reply_of, effort_column_of, effort_asked}

module _ (s : State) (ids : List ℕ) (co : List Float) (zoom : ℕ) (west least east greatest : Float) (a : ℕ) (out : List ℕ) where
  pub effort-replies : (r t : EffortReply) → r ≡ effort_reply_of (effort_asked s ids co zoom west least east greatest) a (length out)
      → t ≡ effort_reply_of (effort_asked s ids co zoom west least east greatest) a (length out) → r ≡ t
  effort-replies r t = same-reply

  pub effort-columns : (u v : List ℕ) → u ≡ effort_column_of (effort_asked s ids co zoom west least east greatest) a out
      → v ≡ effort_column_of (effort_asked s ids co zoom west least east greatest) a out → u ≡ v
  effort-columns u v = same-reply

-- the functions of a whole reply
pub number-replies : (x : EffortReply) (r t : ℕ) → r ≡ effort_number x → t ≡ effort_number x → r ≡ t
number-replies x r t = same-reply

pub carried-replies : (x : EffortReply) (r t : Effort) → r ≡ effort_carried x → t ≡ effort_carried x → r ≡ t
carried-replies x r t = same-reply

-- the methods of a refusal
pub number-of-replies : (x : EffortRefusal) (r t : ℕ) → r ≡ effort_number_of x → t ≡ effort_number_of x → r ≡ t
number-of-replies x r t = same-reply

pub carried-of-replies : (x : EffortRefusal) (r t : Effort) → r ≡ effort_carried_of x → t ≡ effort_carried_of x → r ≡ t
carried-of-replies x r t = same-reply
