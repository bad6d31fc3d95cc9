use Rattle.std.proofs.Common.{◌≡◌, ◌^◌, ◌≤◌, true, false, pos, le_trans, le_of_eq, arith, lit≤, le→leb, rules}
use lib.Ieee.{fin, lt, of_bits, in_float, to_unsigned}
use Rattle.floats.specs.Numbers.{zero}
use Rattle.floats.specs.laws.Order.{lt-le-trans, le_lt_trans}
use Rattle.floats.specs.Numbers.{pow48}
use Rattle.floats.proofs.Truncation.{part_small, took-up, took-down}
use Rattle.floats.proofs.round_up.Goals as goal

pub truncating_f64_to_u64-t-requires : goal.truncating_f64_to_u64-t-requires
unfolding lt
truncating_f64_to_u64-t-requires c = record {
  lower_bound = lt-le-trans (fin true 1 (pos 0)) zero c.args.x tt c.requires.not_negative;
  upper_bound = le_lt_trans c.args.x pow48 (fin false 1 (pos 64)) c.requires.at_most tt;
}

pub int_to_float-rest : goal.int_to_float-rest
unfolding in_float
int_to_float-rest c = le→leb c.truncating_f64_to_u64-t.result (2 ^ 53)
    (le_trans (le_of_eq c.truncating_f64_to_u64-t.ensures)
    (le_trans (part_small c.args.x c.requires.not_negative c.requires.at_most) (lit≤ tt)))

pub overflow_add-result : goal.overflow_add-result
overflow_add-result c =
    let x = c.args.x in
    let h : to_unsigned 64 x ≤ 2 ^ 48 = part_small x c.requires.not_negative c.requires.at_most in
    omega (arith, c.truncating_f64_to_u64-t.ensures)

pub returns-then-rest : goal.returns-then-rest
unfolding of_bits
returns-then-rest c =
    let x = c.args.x in
    let t = c.truncating_f64_to_u64-t.result in
    let e : t ≡ to_unsigned 64 x = c.truncating_f64_to_u64-t.ensures in
    let h : to_unsigned 64 x ≤ 2 ^ 48 = part_small x c.requires.not_negative c.requires.at_most in
    record { value = took-up x t (search rules) c.requires.not_negative c.requires.at_most e c.if-rest.true; upper_bound = omega arith }

pub returns-else-rest : goal.returns-else-rest
unfolding of_bits
returns-else-rest c =
    let x = c.args.x in
    let t = c.truncating_f64_to_u64-t.result in
    let e : t ≡ to_unsigned 64 x = c.truncating_f64_to_u64-t.ensures in
    let h : to_unsigned 64 x ≤ 2 ^ 48 = part_small x c.requires.not_negative c.requires.at_most in
    record { value = took-down x t (search rules) c.requires.not_negative c.requires.at_most e c.if-rest.false; upper_bound = omega arith }
