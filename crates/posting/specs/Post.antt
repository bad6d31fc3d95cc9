-- Posting a reading (#110): one lamp's figure replaced in the energies of all its owners, without a new build; for every input.
-- Definitions only.
use Rattle.std.specs.Prelude.{Bool, true, cond, ◌&&◌, List, ℕ, zero, suc, ◌+◌, ◌-◌, ◌^◌, leb, ltb, eqb, length, get_or, set, Result, Ok, Err}
use Rattle.build_tables.specs.declared.State.{State}
use Rattle.build_tables.specs.Options.{table_count}
use Rattle.build_tables.specs.State.{start_of, len_of}
use Rattle.supercluster.specs.Build.{most_energy}
use Rattle.ask_owner.specs.Asked.{owners_reach, owner_spot}
use Rattle.refusals.specs.declared.Refusal.{Refusal}
use Rattle.refusals.specs.declared.Refusal.TheVariants.{Lamp, Energy, Spoiled}

-- done, or a refusal; a figure that is too large is refused with its lamp
abbrev pub PostReply : Type 0
PostReply = Result (Unit {0}) Refusal

-- the place of a lamp's owner in the table of zoom z, by the owner column
abbrev pub owner_by : State → List ℕ → ℕ → ℕ → ℕ
owner_by s owners lamp z = get_or owners (owner_spot s lamp z) 0

-- where that owner's energy stands in the energy column
abbrev pub sum_spot : State → List ℕ → ℕ → ℕ → ℕ
sum_spot s owners lamp z = start_of s z + owner_by s owners lamp z

-- the lamp's figure so far: its own energy in the finest table
abbrev pub figure_of : State → List ℕ → ℕ → ℕ
figure_of s energy lamp = get_or energy (start_of s (s.options.max_zoom + 1) + lamp) 0

-- a sum with the new figure in the place of the old one
abbrev pub replaced : ℕ → ℕ → ℕ → ℕ
replaced before figure v = v - before + figure

-- a sum that has the old figure in it, and fits 64 bits with the new one
abbrev pub takes : ℕ → ℕ → ℕ → Bool
takes before figure v = leb before v && ltb (replaced before figure v) (2 ^ 64)

-- the table of zoom z has the lamp's owner, whose sum takes the new figure
abbrev pub mends : State → List ℕ → ℕ → ℕ → ℕ → List ℕ → ℕ → Bool
mends s owners lamp before figure energy z =
    ltb (owner_by s owners lamp z) (len_of s z) && takes before figure (get_or energy (sum_spot s owners lamp z) 0)

-- k tables are left, that of min_zoom + k - 1 and then each smaller one: whether each can be mended
unfoldable pub mendable : State → List ℕ → ℕ → ℕ → ℕ → List ℕ → ℕ → Bool
mendable s owners lamp before figure energy zero = true
mendable s owners lamp before figure energy (suc k) =
    mends s owners lamp before figure energy (s.options.min_zoom + k) && mendable s owners lamp before figure energy k

-- the energies with the sum of the owner in table z mended
abbrev pub mended_at : State → List ℕ → ℕ → ℕ → ℕ → List ℕ → ℕ → List ℕ
mended_at s owners lamp before figure energy z =
    let i = sum_spot s owners lamp z in set energy i (replaced before figure (get_or energy i 0))

-- and in each of these k tables
unfoldable pub mended : State → List ℕ → ℕ → ℕ → ℕ → List ℕ → ℕ → List ℕ
mended s owners lamp before figure energy zero = energy
mended s owners lamp before figure energy (suc k) =
    mended s owners lamp before figure (mended_at s owners lamp before figure energy (s.options.min_zoom + k)) k

-- in the finest table the lamp is its own owner, and each table can be mended
abbrev pub all_mend : State → List ℕ → ℕ → ℕ → List ℕ → Bool
all_mend s owners lamp figure energy =
    eqb (owner_by s owners lamp (s.options.max_zoom + 1)) lamp
    && mendable s owners lamp (figure_of s energy lamp) figure energy (table_count s.options)

-- the reply, its refusals in SCOPE's order: the state or a short column (11), no such lamp (16), a figure too large (15), an owner or a sum
-- that does not fit (11)
unfoldable pub post_asked : State → List ℕ → List ℕ → ℕ → ℕ → PostReply
post_asked s energy owners lamp figure =
    cond (owners_reach s (length energy) (length owners)) (cond (ltb lamp s.count) (cond (leb figure most_energy)
    (cond (all_mend s owners lamp figure energy) (Ok tt) (Err Spoiled)) (Err (Energy lamp))) (Err Lamp)) (Err Spoiled)

-- the reply, and what it leaves in the energy column
pub record Posted : Type 0 where
  pub reply : PostReply
  pub energy : List ℕ

abbrev pub posting : PostReply → List ℕ → Posted
posting r energy = record { reply = r; energy = energy }

-- the energies: mended, where nothing is refused, and otherwise as they were
abbrev pub kept : PostReply → List ℕ → List ℕ → List ℕ
kept (Ok tt) after energy = after
kept (Err e) after energy = energy

-- what `post` replies and leaves, for every input: every owner's sum mended, where nothing is refused
unfoldable pub posted : State → List ℕ → List ℕ → ℕ → ℕ → Posted
posted s energy owners lamp figure =
    let r = post_asked s energy owners lamp figure in
    let after = mended s owners lamp (figure_of s energy lamp) figure energy (table_count s.options) in
    posting r (kept r after energy)
