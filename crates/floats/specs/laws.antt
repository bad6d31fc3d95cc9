-- What is true of the definitions of floats, a line a module. Written by tools/modules.

-- Fraction: a finite float is (plus - mins) / den, three natural numbers, so that no law goes by the cases of two signs: `le`, `lt` and
-- `eq` of finite values are the order of these fractions.
pub mod Fraction
-- Order: the order of floats: `le` is a total preorder on the values that are no NaN, `lt` is its strict part, and `eq` its equivalence.
pub mod Order
-- NotAbove: 'x is not above y', lt y x ≡ false, as a selection tests it: NaN is above nothing.
pub mod NotAbove
-- Rounding: rounding with a sign: `Rounds f x P N c` says that x is (P - N) / c, rounded to the format f; a zero may have either sign.
pub mod Rounding
-- Operations: what each operation of finite values rounds: a sum, a product and a quotient as (P - N) / c of Rounding, from the fractions
-- of the operands.
pub mod Operations
-- Signs: signs: the product's sides change places, and a sign goes through it; what is not negative has no part below zero, and its sums,
-- products and quotients are not negative.
pub mod Signs
-- Monotone: rounded operations keep the order of finite values: the sum, the difference, the product with a value that is not negative and
-- the quotient by a positive value.
pub mod Monotone
-- Whole: whole numbers up to 2 ^ prec as floats: exact, and so are their sums and products up to there; n / n is 1, and 1 * n is n.
pub mod Whole
-- Exact: a value that a format holds is the rounding of any fraction that it equals: there is one such value, and `round` finds it.
pub mod Exact
-- Infinities: where an infinity stands or comes out, as a search's rounded edge can: a sum and a difference of finite values are no NaN,
-- sums and differences keep the order where neither is a NaN, and squares and sums of what is not negative are not negative.
pub mod Infinities
-- Edges: a float lies between the rounded edges around it, x - r and x + r, though they are rounded and may be infinities.
pub mod Edges
-- Unit: the values from 0 to 1, `In01`: what the test passes is one, and such a value is finite and no NaN.
pub mod Unit
-- Centre: a centre never leaves [0,1], since rounding is monotone: the running sum of values of 0 to 1, each times its count, is from 0 to
-- the counts' total, and the sum over the total is from 0 to 1.
pub mod Centre
-- Table: a rule at each number below a bound, proved by one test that antt computes; and the test that two floats are the same.
pub mod Table
-- Powers: the powers 2 ^ 0 to 2 ^ 31 by their bits: (n + 1023) * 2 ^ 52 are the bits of 2 ^ n, and of no NaN, by one test that antt
-- computes.
pub mod Powers
-- Radius: the radius of a zoom, radius / (extent * 2 ^ z), is from 0 to the radius, for an extent from 1 to 65,536 and z up to 31.
pub mod Radius
-- Away: the examples of rounding halves away from zero.
pub mod Away
-- Tile: a tile's coordinate before it is rounded, extent * (cx * 2 ^ z - x) for a centre within [0,1] and a place x from -1 to 2 ^ 31, is
-- within 2 ^ 48 either way: what `round_away` asks.
pub mod Tile
-- Distance: the squared distance of finite places is no NaN and not below 0; a place's own is 0 and passes; within the unit square it is
-- from 0 to 2.
pub mod Distance
-- Skip: where the rounded square of a rounded difference on one axis exceeds a bound, so does the rounded squared distance of what lies as
-- far or further on that axis, whatever the other axis is, for any query, infinities and NaN too.
pub mod Skip
-- Replies: two replies that meet a contract which says what the reply is are equal.
pub mod Replies
