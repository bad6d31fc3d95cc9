-- The score of a replay: what the contracts say of it, and the laws by which a program's loop keeps it right. Assumes nothing.
use Rattle.std.specs.Prelude.{ℕ, ◌+◌, ◌≤◌, ◌<◌, ◌≡◌, refl, Option, None, Some, Result, Ok, Err}
use Rattle.std.proofs.Common.{arith}
use Rattle.replay_vectors.specs.declared.Function.{Function}
use Rattle.replay_vectors.specs.declared.Difference.{Difference}
use Rattle.replay_vectors.specs.declared.Score.{Score}
use Rattle.replay_vectors.specs.declared.Stopped.{Stopped}
use Rattle.replay_vectors.specs.declared.Stopped.TheVariants.{Malformed, TooMany}

-- the first difference, with one more at a case: the first stays
abbrev pub first_of : Option Difference → ℕ → Function → Option Difference
first_of None k f = Some (record { case = k; function = f })
first_of (Some d) k f = Some d

-- the score with one more case that agrees, and with one more that differs
abbrev pub with_agreed : Score → Score
with_agreed t = record { cases = t.cases + 1; differences = t.differences; first = t.first }

abbrev pub with_differed : Score → Function → Score
with_differed t f = record { cases = t.cases + 1; differences = t.differences + 1; first = first_of t.first (t.cases + 1) f }

-- there is a first difference exactly where differences were counted, and it is one of the cases
abbrev pub first_is : ℕ → ℕ → Option Difference → Type 0
first_is cases differences None = differences ≡ 0
first_is cases differences (Some d) = (0 < differences) × (0 < d.case) × (d.case ≤ cases)

pub record SoundScore (t : Score) : Type 0 where
  pub most : t.differences ≤ t.cases
  pub told : first_is t.cases t.differences t.first

-- a replay that went to the end has a score that is right, and one that broke off names a case
abbrev pub ending_is : Result Score Stopped → Type 0
ending_is (Ok t) = SoundScore t
ending_is (Err (Malformed k)) = 0 < k
ending_is (Err TooMany) = Unit {0}

-- the score of no case
pub sound_none : SoundScore (record { cases = 0; differences = 0; first = None })
sound_none = record { most = omega arith; told = refl }

-- what is first stays first with one more case, and with one more difference
first-kept : (cases differences : ℕ) (t : Option Difference) → first_is cases differences t → first_is (cases + 1) differences t
first-kept cases differences None p = p
first-kept cases differences (Some d) p = (p.0, p.1, omega arith)

first-differs : (cases differences : ℕ) (t : Option Difference) (f : Function) → first_is cases differences t →
    first_is (cases + 1) (differences + 1) (first_of t (cases + 1) f)
first-differs cases differences None f p = omega arith
first-differs cases differences (Some d) f p = (omega arith, p.1, omega arith)

module _ (t : Score) (p : SoundScore t) where
  pub sound-agreed : SoundScore (with_agreed t)
  sound-agreed = record { most = omega (arith, p.most); told = first-kept t.cases t.differences t.first p.told }

  pub sound-differed : (f : Function) → SoundScore (with_differed t f)
  sound-differed f = record { most = omega (arith, p.most); told = first-differs t.cases t.differences t.first f p.told }
