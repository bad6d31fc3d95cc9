-- Any two replies that meet the contract of `begin` are equal; of `next_slot`, any two steps, and what is ahead of the reader after each.
-- Assumes nothing.
use Rattle.std.specs.Prelude.{◌≡◌, List, ℕ, Option}
use Rattle.floats.specs.laws.Replies.{same-reply}
use Rattle.kdwalk.specs.laws.Cursor.{head_of}
use Rattle.kdpages.specs.declared.Pages.{Pages}
use Rattle.kdpages.specs.Pages.{begun, tail_of}

pub begin-replies : (r t : Pages) → r ≡ begun → t ≡ begun → r ≡ t
begin-replies r t = same-reply

-- `next_slot`: the step; and what is ahead afterwards, which is all that a reader of the walk sees of the page
pub next-slot-replies : (l : List ℕ) (r t : Option ℕ) → r ≡ head_of l → t ≡ head_of l → r ≡ t
next-slot-replies l r t = same-reply

pub next-slot-ahead : (l u v : List ℕ) → u ≡ tail_of l → v ≡ tail_of l → u ≡ v
next-slot-ahead l u v = same-reply
