-- SCOPE's worked build as `load` leaves it: in columns of 12 entries or more, whatever they held, the build is accepted, and this is its
-- state and what stands in the columns of entries and of the index. The state is sound over them. Assumes nothing.
use Rattle.std.specs.Prelude.{◌≡◌, refl, Bool, true, cond, List, ◌∷◌, ℕ, ◌/◌, ◌≤◌, drop, replicate, Ok, Err, Result}
use Rattle.std.proofs.Common.{ap, ◌∙◌, arith, le-leb}
use Rattle.std.specs.Float.Ieee.{add, sub, mul, div, of_bits, le, lt, eq}
use Rattle.range.specs.Range.{offset_of, scale_of, normalized, in_bounds, system_in_bounds, converted}
use Rattle.kdsort.specs.Shape.{shape, split}
use Rattle.kdsort.specs.Sort.{filled_slots, sorted, indexed}
use Rattle.kdbush.specs.Reply.{first_outside}
use Rattle.build_tables.specs.declared.State.{State}
use Rattle.build_tables.specs.Options.{options_ok}
use Rattle.build_tables.specs.Sound.{packed, state_ok}
use Rattle.build_tables.specs.Entries.{Table, never, unset}
use Rattle.kdbush.specs.Reply.{index_of}
use Rattle.build_all_zooms.specs.Zooms.{index_of_table, joined, joined_ids, joined_co, starts, lens}
use Rattle.refusals.specs.declared.Refusal.{Refusal}
use Rattle.refusals.specs.declared.Refusal.TheVariants.{Tables}
use Rattle.build_tables.specs.State.{new_state}
use Rattle.supercluster.specs.Build.{converted_all, BuildColumns, first_over, written, built_state, checked, Outcome, outcome, by_reply, loaded}
use Rattle.supercluster.specs.laws.Load.{roomy}
use Rattle.build_tables.specs.Room.{Columns, columns, room_of}
use Rattle.build_tables.specs.laws.Roomy.{both}
use Rattle.law_worked.specs.Tables.{b, at, options, xs, ys, ws, shown, tables-are}
use Rattle.law_answers.specs.Stored.{columns_of}

-- ---- the build, and what a question is lent of it

-- what `load` replies and leaves of SCOPE's four lamps, in these columns
abbrev pub worked_built : BuildColumns → Outcome
worked_built l = loaded (options 64) xs ys ws l

-- the state of a reply; of a refusal, which no build here is, one of no tables
abbrev pub state_told : Result State Refusal → State
state_told (Ok s) = s
state_told (Err e) = new_state (options 64) 0

-- its state
abbrev pub state_in : BuildColumns → State
state_in l = state_told (worked_built l).reply

abbrev pub columns_in : BuildColumns → Columns
columns_in l = columns_of (worked_built l).columns

-- ---- what they are

-- four lamps; table 2 starts at 0, table 1 at 4, table 0 at 6
unfoldable pub state : State
state = record { options = options 64; count = 4; starts = 6 ∷ 4 ∷ 0 ∷ replicate 29 0; lens = 1 ∷ 2 ∷ 4 ∷ replicate 29 0 }

-- the seven entries that SCOPE prints, column by column; the slots of each index name the places in order; past these the old contents
unfoldable pub after_build : BuildColumns → BuildColumns
after_build l =
    let h = b 0x3fe0000000000000 in
    let p = b 0x3fd0000000000000 in
    let q = b 0x3fd4000000000000 in
    let r = b 0x3fda000000000000 in
    let u = b 0x3fd2000000000000 in
    let v = b 0x3fd6000000000000 in
    let c = l.table in
    record {
      table = record {
        x = p ∷ q ∷ r ∷ r ∷ u ∷ r ∷ v ∷ drop 7 c.x;
        y = h ∷ h ∷ h ∷ h ∷ h ∷ h ∷ h ∷ drop 7 c.y;
        seen = 1 ∷ 1 ∷ 1 ∷ 1 ∷ 0 ∷ 0 ∷ never ∷ drop 7 c.seen;
        id = 0 ∷ 1 ∷ 2 ∷ 3 ∷ 6 ∷ 70 ∷ 5 ∷ drop 7 c.id;
        parent = 6 ∷ 6 ∷ 70 ∷ 70 ∷ 5 ∷ 5 ∷ unset ∷ drop 7 c.parent;
        num = 1 ∷ 1 ∷ 1 ∷ 1 ∷ 2 ∷ 2 ∷ 4 ∷ drop 7 c.num;
        energy = 10 ∷ 20 ∷ 30 ∷ 40 ∷ 30 ∷ 70 ∷ 100 ∷ drop 7 c.energy;
      };
      ids = 0 ∷ 1 ∷ 2 ∷ 3 ∷ 0 ∷ 1 ∷ 0 ∷ drop 7 l.ids;
      coords = p ∷ h ∷ q ∷ h ∷ r ∷ h ∷ r ∷ h ∷ u ∷ h ∷ r ∷ h ∷ v ∷ h ∷ drop 14 l.coords;
      near = 0 ∷ 0 ∷ 0 ∷ 0 ∷ 0 ∷ 0 ∷ 0 ∷ 0 ∷ drop 8 l.near;
    }

-- and as a question is lent them
abbrev pub worked_held : BuildColumns → Columns
worked_held l = columns_of (after_build l)

-- columns of 12 entries are long enough
pub accepted : (l : BuildColumns) → roomy 12 l ≡ true → checked (options 64) xs ys ws l ≡ Ok tt
unfolding checked options_ok system_in_bounds in_bounds first_outside converted_all converted normalized offset_of scale_of add sub mul div
    of_bits le lt options xs ys ws b first_over
accepted l h = ap (λ (c : Bool). cond c (Ok tt) (Err Tables)) h

-- the tables that SCOPE prints, packed in the columns, each with its index
state-of-shown : built_state (options 64) 4 shown ≡ state
unfolding starts lens shown state options
state-of-shown = refl

written-shown : (l : BuildColumns) → written 64 4 shown l ≡ after_build l
unfolding written joined joined_ids joined_co index_of_table index_of indexed sorted filled_slots shape split shown at after_build of_bits b
written-shown l = refl

-- the build is accepted, and leaves just these
pub built-is : (l : BuildColumns) → roomy 12 l ≡ true → worked_built l ≡ outcome (Ok state) (after_build l)
unfolding loaded options xs
built-is l h =
    ap (by_reply (options 64) xs ys ws l) (accepted l h)
    ∙ ap (λ (ts : List Table). outcome (Ok (built_state (options 64) 4 ts)) (written 64 4 ts l)) tables-are
    ∙ (λ i. outcome (Ok (state-of-shown i)) (written-shown l i))

-- ---- the state is sound over them

-- each of the columns holds the seven entries
halved : (n : ℕ) → 14 ≤ n → 7 ≤ n / 2
halved n h = omega arith

room-is : (l : BuildColumns) → 7 ≤ room_of (worked_held l)
unfolding after_build
room-is l =
    both 7 _ _
    (both 7 _ _ (both 7 _ _ (omega arith) (omega arith)) (both 7 _ _ (omega arith) (omega arith)))
    (both 7 _ _ (both 7 _ _ (omega arith) (omega arith)) (both 7 _ _ (omega arith) (both 7 _ _ (omega arith) (halved _ (omega arith)))))

pub sound : (l : BuildColumns) → state_ok state (room_of (worked_held l)) ≡ true
unfolding state_ok packed options_ok system_in_bounds in_bounds offset_of scale_of of_bits le lt eq sub state options b
sound l = le-leb 7 (room_of (worked_held l)) (room-is l)
