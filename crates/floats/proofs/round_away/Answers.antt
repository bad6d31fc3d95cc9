-- `floats::round_away` meets its contract: by its sign, from what `round_up` ensures. Assumes nothing.
use Rattle.std.proofs.Common.{◌≡◌, ℕ, zero, suc, ◌^◌, ◌<◌, Bool, false, not, T, ℤ, pos, ◌-ℤ◌, neg_ℤ, sym, ap, ◌∙◌, subst, lt_of_lt_of_le, lt_of_le_of_lt, lit<, lit≤, to_z-of_z, w64, SFits, to_z}
use native.Mathlib.Nat.{le-suc}
use lib.IntN.{+ℤ_idl}
use lib.Signed.{mag}
use lib.Ieee.{Float, le, lt, neg, is_nan, of_bits}
use mir.Facts.{to_z_pos}
use Rattle.floats.specs.Numbers.{zero as fzero}
use Rattle.floats.specs.laws.Order.{le-le-trans, lt→le, le-right-number, not-lt→le}
use Rattle.floats.specs.laws.Rounding.{neg-le}
use Rattle.floats.specs.Numbers.{pow48}
use Rattle.floats.proofs.Truncation.{neg-fin, away-neg, away-pos}
use Rattle.floats.proofs.round_away.Goals as goal

below : (v : Float) → T (lt v fzero) → T (le (neg pow48) v) → T (le fzero (neg v)) × T (le (neg v) pow48)
unfolding neg le
below v h k = (le-le-trans fzero (neg fzero) (neg v) tt (neg-le v fzero (lt→le v fzero h)), neg-le (neg pow48) v k)

above : (v : Float) → lt v fzero ≡ false → T (le v pow48) → T (le (neg pow48) v) → T (le fzero v)
unfolding is_nan
above v h k l = not-lt→le v fzero (le-right-number (neg pow48) v l) tt (subst (λ (b : Bool). T (not b)) (sym h) tt)

minus : (n : ℕ) → n < 2 ^ 49 → pos 0 -ℤ to_z w64 n ≡ neg_ℤ (pos n)
minus n h = ap (λ (z : ℤ). pos 0 -ℤ z) (to_z_pos w64 (lt_of_lt_of_le h (lit≤ tt))) ∙ +ℤ_idl (neg_ℤ (pos n))

size : (n : ℕ) → n < 2 ^ 49 → mag (neg_ℤ (pos n)) < 2 ^ 63
size zero h = lit< tt
size (suc n) h = lt_of_lt_of_le (lt_of_le_of_lt (le-suc n) h) (lit≤ tt)

less : (n : ℕ) → n < 2 ^ 49 → SFits w64 (pos 0 -ℤ to_z w64 n)
less n h = subst (λ (z : ℤ). SFits w64 z) (sym (minus n h)) (record { sfits = size n h })

pub round_up-requires : goal.round_up-requires
unfolding of_bits
round_up-requires c =
    let h = below c.args.v (subst T (sym c.if-v.true) tt) c.requires.at_least in
    record { not_negative = h.0; at_most = h.1 }

pub overflow_sub-result : goal.overflow_sub-result
overflow_sub-result c = less c.round_up.result c.round_up.ensures.upper_bound

pub round_up-requires-else-v : goal.round_up-requires-else-v
unfolding of_bits
round_up-requires-else-v c =
    record { not_negative = above c.args.v c.if-v.false c.requires.at_most c.requires.at_least; at_most = c.requires.at_most }

pub returns-then-v : goal.returns-then-v
unfolding of_bits
returns-then-v c =
    let n = c.round_up.result in
    let v = c.args.v in
    let s = c.requires in
    to_z-of_z (less n c.round_up.ensures.upper_bound) ∙ minus n c.round_up.ensures.upper_bound ∙ ap (λ (k : ℕ). neg_ℤ (pos k)) c.round_up.ensures.value
    ∙ sym (away-neg v (neg-fin v s.at_least s.at_most) (subst T (sym c.if-v.true) tt))

pub returns-else-v : goal.returns-else-v
unfolding of_bits
returns-else-v c =
    let n = c.round_up-else-v.result in
    let v = c.args.v in
    let s = c.requires in
    to_z_pos w64 (lt_of_lt_of_le c.round_up-else-v.ensures.upper_bound (lit≤ tt)) ∙ ap pos c.round_up-else-v.ensures.value
    ∙ sym (away-pos v (neg-fin v s.at_least s.at_most) (above v c.if-v.false s.at_most s.at_least))
