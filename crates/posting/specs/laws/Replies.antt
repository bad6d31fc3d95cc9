-- Any two replies that meet the contract of a public function of this crate are equal, and so is what it leaves. Assumes nothing.
use Rattle.std.specs.Prelude.{◌≡◌, List, ℕ}
use Rattle.floats.specs.laws.Replies.{same-reply}
use Rattle.build_tables.specs.declared.State.{State}
use Rattle.posting.specs.Post.{Posted, posted}

pub post-replies : (s : State) (energy owners : List ℕ) (lamp figure : ℕ) (r t : Posted) → r ≡ posted s energy owners lamp figure
    → t ≡ posted s energy owners lamp figure → r ≡ t
post-replies s energy owners lamp figure r t = same-reply
