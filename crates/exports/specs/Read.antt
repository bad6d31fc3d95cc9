-- An entry as a C caller reads it: what a zoom and a place lead to, and the number and the seven fields that are left. Definitions only.
use Rattle.std.specs.Prelude.{cond, not, ℕ, leb, Float, Result, Ok, Err}
use Rattle.std.specs.Borrow.{MutBor}
use denote.Triple.Both.{Both}
use Rattle.build_tables.specs.declared.State.{State}
use Rattle.build_tables.specs.declared.Entry.{Entry}
use Rattle.build_tables.specs.Entries.{entry}
use Rattle.build_tables.specs.State.{len_of}
use Rattle.build_tables.specs.Sound.{state_ok}
use Rattle.build_tables.specs.Room.{Columns, room_of}
use Rattle.ask_base.specs.Columns.{table_at}
use Rattle.ask_base.specs.Ids.{is_built}
use Rattle.refusals.specs.declared.Refusal.{Refusal}
use Rattle.refusals.specs.declared.Refusal.TheVariants.{NoTree, NoCluster, Spoiled}
use Rattle.refusals.specs.Refusals.{number_of}

-- with its refusals in their order: the state (11), the table is not built (5), the place is past it (6)
unfoldable pub entry_asked : State → Columns → ℕ → ℕ → Result Entry Refusal
entry_asked s c z p =
    cond (not (state_ok s (room_of c))) (Err Spoiled)
    (cond (not (is_built s z)) (Err NoTree)
    (cond (leb (len_of s z) p) (Err NoCluster)
    (Ok (entry (table_at s c z) p))))

-- an entry of these fields
abbrev pub fields : Float → Float → ℕ → ℕ → ℕ → ℕ → ℕ → Entry
fields x y seen id parent num energy = record { x = x; y = y; seen = seen; id = id; parent = parent; num = num; energy = energy }

-- the entry behind seven references, as a function is called and as it returns
abbrev pub Field : Type 0 → Type 0
Field A = Both (MutBor A) (MutBor A)

abbrev pub lent_entry : Field Float → Field Float → Field ℕ → Field ℕ → Field ℕ → Field ℕ → Field ℕ → Both Entry Entry
lent_entry x y seen id parent num energy =
    record {
      entry = fields x.entry.now y.entry.now seen.entry.now id.entry.now parent.entry.now num.entry.now energy.entry.now;
      exit = fields x.exit.now y.exit.now seen.exit.now id.exit.now parent.exit.now num.exit.now energy.exit.now;
    }

-- the number, and what the fields are afterwards
pub record ReadAs : Type 0 where
  pub number : ℕ
  pub left : Entry

abbrev pub read_as : ℕ → Entry → ReadAs
read_as n e = record { number = n; left = e }

-- what it comes to, where the fields were these: a refusal leaves them
abbrev pub read_of : Result Entry Refusal → Entry → ReadAs
read_of (Ok e) before = read_as 0 e
read_of (Err r) before = read_as (number_of r) before
