-- Any two replies that meet the contract of a public function of this crate are equal, and so are any two columns that they leave.
-- Assumes nothing.
use Rattle.std.specs.Prelude.{◌≡◌, List, ℕ, Float, Result}
use Rattle.refusals.specs.declared.Refusal.{Refusal}
use Rattle.floats.specs.laws.Replies.{same-reply}
use Rattle.build_tables.specs.declared.Options.{Options}
use Rattle.lister_text.specs.declared.Head.{Head}
use Rattle.lister_text.specs.Values.{coord_of, options_of}
use Rattle.lister_text.specs.Text.{PointCols, Parsing}
use Rattle.lister_text.specs.laws.Whole.{parsing-one}

pub coordinate-replies : (k : ℕ) (r t : Float) → r ≡ coord_of k → t ≡ coord_of k → r ≡ t
coordinate-replies k r t = same-reply

pub options-replies : (h : Head) (r t : Options) → r ≡ options_of h → t ≡ options_of h → r ≡ t
options-replies h r t = same-reply

pub parse-replies : (s : List ℕ) (c : PointCols) (r q : Result Head Refusal) (c' c'' : PointCols) → Parsing s c r c' → Parsing s c q c''
    → (r ≡ q) × (c' ≡ c'')
parse-replies = parsing-one
