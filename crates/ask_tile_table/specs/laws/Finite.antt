-- Every number of a tile's ranges is finite, for options within SCOPE's bounds: p = radius / extent is from 0 to 2 ^ 16, and what is
-- divided by 2 ^ z is from -2 ^ 16 to 2 ^ 32. So the walk goes over the whole answer of `range`. Assumes nothing.
use Rattle.std.specs.Prelude.{◌≡◌, refl, Bool, true, false, ◌&&◌, List, ℕ, ◌^◌, ◌≤◌, ◌<◌, pos, length, Float}
use Rattle.std.proofs.Common.{subst, le_trans, arith, lit≤, pow_pos}
use Rattle.std.proofs.Math.Dec.{T}
use Rattle.std.specs.Float.{fin}
use Rattle.std.specs.Float.Ieee.{binary64, le, neg, add, sub, div, sum, round, fits, of_int}
use Rattle.std.specs.Float.Ieee.Fits.{and_l, and_r}
use Rattle.std.specs.Float.Ieee.Scale.{finite}
use Rattle.std.specs.Float.Ieee.Positive.{positive, between}
use Rattle.floats.specs.Numbers.{zero, one, pow16, pow31, float}
use Rattle.floats.specs.laws.Fraction.{is_true}
use Rattle.floats.specs.laws.Order.{le-le-trans, between-finite}
use Rattle.floats.specs.laws.Signs.{div-nonneg}
use Rattle.floats.specs.laws.Monotone.{add-mono, sub-mono, div_mono, div-anti}
use Rattle.floats.specs.laws.Whole.{of_int-finite, of_int-positive, of_int-nonneg, of_int-mono, of_int-one}
use Rattle.floats.specs.laws.Exact.{div-one}
use Rattle.floats.specs.laws.Table.{at}
use Rattle.floats.specs.laws.Radius.{power_le}
use Rattle.kdslots.specs.declared.Query.{Query}
use Rattle.kdslots.specs.declared.Query.TheVariants.{Range}
use Rattle.kdslots.specs.Query.{query_ok}
use Rattle.kdslots.specs.Slots.{answers}
use Rattle.kdslots.specs.Bounds.{coords_ok}
use Rattle.kdwalk.specs.Reply.{walk}
use Rattle.build_tables.specs.declared.Options.{Options}
use Rattle.build_tables.specs.laws.Bounds.{InBounds}
use Rattle.ask_tile_table.specs.declared.RowEnd.{RowEnd}
use Rattle.ask_tile_table.specs.declared.RowEnd.TheVariants.{East, West}
use Rattle.ask_tile_table.specs.Tile.{margin, side, edge, least, greatest, here, east_strip, west_strip, strip_search}
use Rattle.ask_tile_table.specs.laws.Framed.{IsTile, float-most, below-side}

-- a walk by a query of finite numbers, over an index that may be searched, is the whole answer
pub walk-whole : (q : Query) (size n : ℕ) (co : List Float) → coords_ok size n (length co) ≡ true → query_ok q ≡ true
    → walk q size n co ≡ answers q co size n
walk-whole q size n co a b = rw (a, b)

query-fine : (a b c d : Float) → T (finite a) → T (finite b) → T (finite c) → T (finite d) → query_ok (Range a b c d) ≡ true
query-fine a b c d p q r s = rw (is_true (finite a) p, is_true (finite b) q, is_true (finite c) r, is_true (finite d) s)

-- ---- the scale

pub side-positive : (z : ℕ) → z ≤ 31 → T (positive (side z))
side-positive z h = of_int-positive binary64 (2 ^ z) (pow_pos z) (le_trans (power_le z h) (lit≤ tt))

pub side-least : (z : ℕ) → T (le one (side z))
side-least z = subst (λ (w : Float). T (le w (side z))) of_int-one (of_int-mono binary64 1 (2 ^ z) (pow_pos z))

-- -2 ^ 16 and 2 ^ 32, each by each scale, is finite
abbrev low : Float
low = fin true 1 (pos 16)

abbrev high : Float
high = fin false 1 (pos 32)

ends : ℕ → Bool
ends z = finite (div binary64 low (side z)) && finite (div binary64 high (side z))

all-ends : (z : ℕ) → z < 32 → T (ends z)
unfolding ends div round of_int
all-ends z h = at ends 32 tt z h

-- so is what lies between them
quotient : (s : Float) (z : ℕ) → z ≤ 31 → T (le low s) → T (le s high) → T (finite (div binary64 s (side z)))
unfolding ends
quotient s z h l r =
    let f : T (finite s) = between-finite low s high tt tt l r in
    let e : T (ends z) = all-ends z (omega arith) in
    let p = side-positive z h in
    between-finite (div binary64 low (side z)) (div binary64 s (side z)) (div binary64 high (side z))
    (and_l (finite (div binary64 low (side z))) (finite (div binary64 high (side z))) e)
    (and_r (finite (div binary64 low (side z))) (finite (div binary64 high (side z))) e)
    (div_mono binary64 low s (side z) tt f p l) (div_mono binary64 s high (side z) f tt p r)

-- 2 ^ 16 by 1 or more is at most 2 ^ 16
shrinks : (d : Float) → T (positive d) → T (le one d) → T (le (div binary64 pow16 d) pow16)
unfolding le fits
shrinks d p l = subst (λ (w : Float). T (le (div binary64 pow16 d) w)) (div-one binary64 pow16 tt tt)
    (div-anti binary64 pow16 one d tt tt tt p l)

-- ---- sums of constants

low-is : sub binary64 zero pow16 ≡ low
unfolding sub neg add sum round
low-is = refl

sub-top : T (le (sub binary64 pow31 zero) high)
unfolding sub neg add sum round le
sub-top = tt

one-is : add binary64 zero one ≡ one
unfolding add sum round
one-is = refl

abbrev next : Float
next = fin false 2147483649 (pos 0)

next-is : add binary64 pow31 one ≡ next
unfolding add sum round
next-is = refl

add-bottom : T (le low (add binary64 one zero))
unfolding add sum round le
add-bottom = tt

add-top : T (le (add binary64 next pow16) high)
unfolding add sum round le
add-top = tt

strip-low : sub binary64 one pow16 ≡ fin true 65535 (pos 0)
unfolding sub neg add sum round
strip-low = refl

strip-top : sub binary64 one zero ≡ one
unfolding sub neg add sum round
strip-top = refl

-- ---- p, from 0 to 2 ^ 16

module _ (o : Options) (b : InBounds o) where
  extent-positive : T (positive o.extent)
  extent-positive = between one o.extent pow16 tt tt b.extent-from b.extent-to

  radius-finite : T (finite o.radius)
  radius-finite = between-finite zero o.radius pow16 tt tt b.radius-from b.radius-to

  pub margin-least : T (le zero (margin o))
  margin-least = div-nonneg binary64 o.radius o.extent radius-finite extent-positive b.radius-from

  pub margin-most : T (le (margin o) pow16)
  margin-most =
      le-le-trans (margin o) (div binary64 pow16 o.extent) pow16
      (div_mono binary64 o.radius pow16 o.extent radius-finite tt extent-positive b.radius-to)
      (shrinks o.extent extent-positive b.extent-from)

  pub margin-finite : T (finite (margin o))
  margin-finite = between-finite zero (margin o) pow16 tt tt margin-least margin-most

  -- ---- the numbers of the ranges

  module _ (z : ℕ) (Z : z ≤ 31) where
    edge-finite : T (finite (edge o z))
    unfolding le
    edge-finite = quotient (margin o) z Z (le-le-trans low zero (margin o) tt margin-least)
        (le-le-trans (margin o) pow16 high margin-most tt)

    edge-most : T (le (edge o z) pow16)
    edge-most =
        le-le-trans (edge o z) (div binary64 pow16 (side z)) pow16
        (div_mono binary64 (margin o) pow16 (side z) margin-finite tt (side-positive z Z) margin-most)
        (shrinks (side z) (side-positive z Z) (side-least z))

    strip-finite : T (finite (sub binary64 one (edge o z)))
    strip-finite =
        let e = sub binary64 one (edge o z) in
        let n : T (le zero (edge o z)) = div-nonneg binary64 (margin o) (side z) margin-finite (side-positive z Z) margin-least in
        between-finite (fin true 65535 (pos 0)) e one tt tt
        (subst (λ (w : Float). T (le w e)) strip-low
        (sub-mono binary64 one one pow16 (edge o z) tt tt tt edge-finite (unfold le in tt) edge-most))
        (subst (λ (w : Float). T (le e w)) strip-top (sub-mono binary64 one one (edge o z) zero tt tt edge-finite tt (unfold le in tt) n))

    module _ (v : ℕ) (less : v < 2 ^ z) where
      small : v ≤ 2 ^ 31
      small = below-side z v Z less

      pub float-finite : T (finite (float v))
      float-finite = of_int-finite binary64 v (le_trans small (lit≤ tt))

      -- v - p, from -2 ^ 16 to 2 ^ 31
      sub_low : T (le low (sub binary64 (float v) (margin o)))
      sub_low =
          subst (λ (w : Float). T (le w (sub binary64 (float v) (margin o)))) low-is
          (sub-mono binary64 zero (float v) pow16 (margin o) tt float-finite tt margin-finite (of_int-nonneg v) margin-most)

      sub-high : T (le (sub binary64 (float v) (margin o)) high)
      sub-high =
          le-le-trans (sub binary64 (float v) (margin o)) (sub binary64 pow31 zero) high
          (sub-mono binary64 (float v) pow31 (margin o) zero float-finite tt margin-finite tt (float-most v small) margin-least) sub-top

      pub sub-finite : T (finite (sub binary64 (float v) (margin o)))
      sub-finite = between-finite low (sub binary64 (float v) (margin o)) high tt tt sub_low sub-high

      least-finite : T (finite (least o z v))
      least-finite = quotient (sub binary64 (float v) (margin o)) z Z sub_low sub-high

      -- v + 1, and (v + 1) + p
      next_low : T (le one (add binary64 (float v) one))
      next_low =
          subst (λ (w : Float). T (le w (add binary64 (float v) one))) one-is
          (add-mono binary64 zero (float v) one one tt float-finite tt tt (of_int-nonneg v) (unfold le in tt))

      next-high : T (le (add binary64 (float v) one) next)
      next-high =
          subst (λ (w : Float). T (le (add binary64 (float v) one) w)) next-is
          (add-mono binary64 (float v) pow31 one one float-finite tt tt tt (float-most v small) (unfold le in tt))

      pub next-finite : T (finite (add binary64 (float v) one))
      next-finite = between-finite one (add binary64 (float v) one) next tt tt next_low next-high

      add_low : T (le low (add binary64 (add binary64 (float v) one) (margin o)))
      add_low =
          le-le-trans low (add binary64 one zero) (add binary64 (add binary64 (float v) one) (margin o)) add-bottom
          (add-mono binary64 one (add binary64 (float v) one) zero (margin o) tt next-finite tt margin-finite next_low margin-least)

      add-high : T (le (add binary64 (add binary64 (float v) one) (margin o)) high)
      add-high =
          le-le-trans (add binary64 (add binary64 (float v) one) (margin o)) (add binary64 next pow16) high
          (add-mono binary64 (add binary64 (float v) one) next (margin o) pow16 next-finite tt margin-finite tt next-high margin-most)
          add-top

      pub add-finite : T (finite (add binary64 (add binary64 (float v) one) (margin o)))
      add-finite = between-finite low (add binary64 (add binary64 (float v) one) (margin o)) high tt tt add_low add-high

      greatest-finite : T (finite (greatest o z v))
      greatest-finite = quotient (add binary64 (add binary64 (float v) one) (margin o)) z Z add_low add-high

  module _ (z x y : ℕ) (t : IsTile z x y) where
    -- the three ranges
    pub here-fine : query_ok (here o z x y).query ≡ true
    unfolding here
    here-fine =
        query-fine (least o z x) (least o z y) (greatest o z x) (greatest o z y)
        (least-finite z t.z-to x t.x-to) (least-finite z t.z-to y t.y-to) (greatest-finite z t.z-to x t.x-to)
        (greatest-finite z t.z-to y t.y-to)

    pub east-fine : query_ok (east_strip o z x y).query ≡ true
    unfolding east_strip
    east-fine =
        query-fine (sub binary64 one (edge o z)) (least o z y) one (greatest o z y)
        (strip-finite z t.z-to) (least-finite z t.z-to y t.y-to) tt (greatest-finite z t.z-to y t.y-to)

    pub west-fine : query_ok (west_strip o z x y).query ≡ true
    unfolding west_strip
    west-fine =
        query-fine zero (least o z y) (edge o z) (greatest o z y)
        tt (least-finite z t.z-to y t.y-to) (edge-finite z t.z-to) (greatest-finite z t.z-to y t.y-to)

    pub strip-fine : (end : RowEnd) → query_ok (strip_search end o z x y).query ≡ true
    strip-fine East = east-fine
    strip-fine West = west-fine
