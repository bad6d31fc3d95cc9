-- What the contracts say of a line's text: its dashes and fields, and the case that these make. Definitions only.
use Rattle.std.specs.Prelude.{ℕ, ◌+◌, ◌*◌, ◌<◌, Bool, true, false, cond, List, ◌≡◌, eqb, get_or, Float, Option, None, Some}
use Rattle.std.specs.Float.{binary64}
use Rattle.std.specs.Float.Ieee.{of_bits}
use Rattle.replay_vectors.specs.Words.{Spelt}
use Rattle.range.specs.declared.DataRange.{DataRange}
use Rattle.replay_range.specs.declared.Case.{Case}

-- the 16 bytes from a place on are dashes
abbrev pub Dashes : List ℕ → ℕ → Type 0
Dashes s at = (i : ℕ) → i < 16 → get_or s (at + i) 0 ≡ 45

abbrev pub dashes_is : List ℕ → ℕ → Bool → Type 0
dashes_is s at true = Dashes s at
dashes_is s at false = Dashes s at → ⊥

-- the byte after the field k: a line end after the field 9, and a space after any other
abbrev pub separator_of : ℕ → ℕ
separator_of k = cond (eqb k 9) 10 32

abbrev pub Ended : List ℕ → ℕ → Type 0
Ended s k = get_or s (k * 17 + 16) 0 ≡ separator_of k

-- the field k, with the byte after it, writes a number's bits, is dashes, or is neither
abbrev pub field_is : List ℕ → ℕ → Option (Option Float) → Type 0
field_is s k (Some (Some x)) = Ended s k × ((n : ℕ) × (Spelt s (k * 17) 16 n × (x ≡ of_bits binary64 n)))
field_is s k (Some None) = Ended s k × Dashes s (k * 17)
field_is s k None = Ended s k → (Dashes s (k * 17) → ⊥) × ((n : ℕ) → Spelt s (k * 17) 16 n → ⊥)

-- the field k holds the number; of one that holds none nothing is said
abbrev pub number_is : List ℕ → ℕ → Option Float → Type 0
number_is s k (Some x) = field_is s k (Some (Some x))
number_is s k None = Unit {0}

-- the fields 0 to 5 hold the range
pub record RangeIs (s : List ℕ) (d : DataRange) : Type 0 where
  pub min-x : field_is s 0 (Some (Some d.min_x))
  pub min-y : field_is s 1 (Some (Some d.min_y))
  pub max-x : field_is s 2 (Some (Some d.max_x))
  pub max-y : field_is s 3 (Some (Some d.max_y))
  pub offset : field_is s 4 (Some d.offset)
  pub scale : field_is s 5 (Some d.scale)

abbrev pub ranged_is : List ℕ → Option DataRange → Type 0
ranged_is s (Some d) = RangeIs s d
ranged_is s None = Unit {0}

-- the line holds the case
pub record CaseIs (s : List ℕ) (c : Case) : Type 0 where
  pub range : RangeIs s c.range
  pub v : field_is s 6 (Some (Some c.v))
  pub normalized : field_is s 7 (Some (Some c.normalized))
  pub denormalized : field_is s 8 (Some (Some c.denormalized))
  pub longitude : field_is s 9 (Some (Some c.longitude))

abbrev pub parsed_is : List ℕ → Option Case → Type 0
parsed_is s (Some c) = CaseIs s c
parsed_is s None = Unit {0}
