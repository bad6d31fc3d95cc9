-- What the contracts say of a word's text, of a count and of floats that agree. Definitions only.
use Rattle.std.specs.Prelude.{ℕ, ◌+◌, ◌^◌, ◌≤◌, ◌<◌, Bool, ◌&&◌, ◌||◌, cond, List, ◌≡◌, get_or, Float, Option, None, Some, Result, Ok, Err}
use Rattle.std.specs.Float.Ieee.{eq, is_nan}
use Rattle.io.specs.Digits.{hex_digit_ascii, last_digits}
use Rattle.replay_vectors.specs.declared.Malformed.{Malformed}
use Rattle.replay_vectors.specs.declared.Word.{Word}

-- the character c is that of the digit's value, or of no digit
abbrev pub digit_is : ℕ → Option ℕ → Type 0
digit_is c (Some d) = (d < 16) × (hex_digit_ascii d ≡ c)
digit_is c None = (d : ℕ) → d < 16 → hex_digit_ascii d ≡ c → ⊥

-- the k bytes from a place on are the digits of n, which has no more, as io::hex writes them
pub record Spelt (s : List ℕ) (at k n : ℕ) : Type 0 where
  pub small : n < 16 ^ k
  pub same : (i : ℕ) → i < k → get_or s (at + i) 0 ≡ get_or (last_digits 16 k n) i 0

-- the 16 bytes from a place on spell a pattern's bits, or no number
abbrev pub pattern_is : List ℕ → ℕ → Option ℕ → Type 0
pattern_is s at (Some n) = Spelt s at 16 n
pattern_is s at None = (n : ℕ) → Spelt s at 16 n → ⊥

-- the 16 digits write the number, and a space or a line end follows; of bytes that are no word nothing is said
abbrev pub word_is : List ℕ → Result Word Malformed → Type 0
word_is s (Ok w) = Spelt s 0 16 w.bits × (get_or s 16 0 ≡ cond w.last 10 32)
word_is s (Err e) = Unit {0}

-- a count is within its limit
abbrev pub count_is : ℕ → Result ℕ Malformed → Type 0
count_is most (Ok k) = k ≤ most
count_is most (Err e) = Unit {0}

-- equal, the two zeros too, or both NaN
abbrev pub agreeing : Float → Float → Bool
agreeing a b = eq a b || (is_nan a && is_nan b)
