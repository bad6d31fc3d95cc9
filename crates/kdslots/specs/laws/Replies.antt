-- Any two replies that meet the contract of a public method of a query or a search are equal. Assumes nothing.
use Rattle.std.specs.Prelude.{◌≡◌, Bool, length}
use Rattle.floats.specs.laws.Replies.{same-reply}
use Rattle.kdslots.specs.declared.Query.{Query}
use Rattle.kdslots.specs.declared.Search.{Search}
use Rattle.kdslots.specs.Query.{query_ok}
use Rattle.kdslots.specs.Bounds.{coords_ok}

pub query-replies : (q : Query) (r t : Bool) → r ≡ query_ok q → t ≡ query_ok q → r ≡ t
query-replies q r t = same-reply

pub sound-replies : (s : Search) (r t : Bool) → r ≡ coords_ok s.node_size s.n (length s.coords.now)
    → t ≡ coords_ok s.node_size s.n (length s.coords.now) → r ≡ t
sound-replies s r t = same-reply
