-- Any two replies that meet the contract of a public function of this crate are equal. Assumes nothing.
use Rattle.std.specs.Prelude.{◌≡◌, List, ℕ}
use Rattle.floats.specs.laws.Replies.{same-reply}
use Rattle.build_tables.specs.declared.State.{State}
use Rattle.ask_owner.specs.Asked.{OwnerReply, owner_asked}

pub owner-replies : (s : State) (owners : List ℕ) (lamp zoom : ℕ) (r t : OwnerReply) → r ≡ owner_asked s owners lamp zoom
    → t ≡ owner_asked s owners lamp zoom → r ≡ t
owner-replies s owners lamp zoom r t = same-reply
