-- What the comparisons are that replays share: of columns with those expected. Definitions only.
use Rattle.std.specs.Prelude.{ℕ, Bool, false, ◌&&◌, List, eqb, length, get_or, ℤ, pos, negsuc, Float}
use Rattle.std.specs.Float.{nan}
use Rattle.floats.specs.laws.Table.{upto}
use Rattle.replay_vectors.specs.Words.{agreeing}

abbrev pub place_at : List ℕ → List ℕ → ℕ → Bool
place_at want got i = eqb (get_or want i 0) (get_or got i 0)

-- the same number with a sign
abbrev pub eq_long : ℤ → ℤ → Bool
eq_long (pos a) (pos b) = eqb a b
eq_long (pos a) (negsuc b) = false
eq_long (negsuc a) (pos b) = false
eq_long (negsuc a) (negsuc b) = eqb a b

abbrev pub long_at : List ℤ → List ℤ → ℕ → Bool
long_at want got i = eq_long (get_or want i (pos 0)) (get_or got i (pos 0))

abbrev pub float_at : List Float → List Float → ℕ → Bool
float_at want got i = agreeing (get_or want i nan) (get_or got i nan)

-- columns of one length, the same at each position
unfoldable pub same_places : List ℕ → List ℕ → Bool
same_places want got = eqb (length want) (length got) && upto (place_at want got) (length want)

unfoldable pub same_longs : List ℤ → List ℤ → Bool
same_longs want got = eqb (length want) (length got) && upto (long_at want got) (length want)

unfoldable pub same_floats : List Float → List Float → Bool
same_floats want got = eqb (length want) (length got) && upto (float_at want got) (length want)
