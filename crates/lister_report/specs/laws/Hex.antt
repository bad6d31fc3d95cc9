-- How hexadecimal digits grow by the last digit. Assumes nothing.
use Rattle.std.specs.Prelude.{[], ◌∷◌, ◌++◌, ◌≡◌, refl, ℕ, zero, suc, ◌-◌, ◌/◌, ◌%◌, ◌<◌, ◌≤◌}
use Rattle.std.proofs.Common.{sub-one, arith}
use Rattle.lister_report.specs.Hex.{glyph_of, hex_of}

pub hex-none : (k n : ℕ) → k < 1 → hex_of k n ≡ []
unfolding hex_of
hex-none zero n h = refl
hex-none (suc k) n h = let z : ⊥ = omega arith in absurd z

pub hex-more : (k n : ℕ) → 1 ≤ k → hex_of k n ≡ hex_of (k - 1) (n / 16) ++ (glyph_of (n % 16) ∷ [])
unfolding hex_of
hex-more zero n h = let z : ⊥ = omega arith in absurd z
hex-more (suc k) n h = simp sub-one
