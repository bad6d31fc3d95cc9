-- The question of a lamp's owner: what the column that a build leaves says of it, for every input. Definitions only.
use Rattle.std.specs.Prelude.{Bool, cond, ◌&&◌, List, ℕ, ◌+◌, ◌-◌, ◌*◌, leb, ltb, length, get_or, Result, Ok, Err}
use Rattle.build_tables.specs.declared.State.{State}
use Rattle.build_tables.specs.Options.{table_count, zoom_used}
use Rattle.build_tables.specs.State.{len_of}
use Rattle.build_tables.specs.Sound.{state_ok}
use Rattle.refusals.specs.declared.Refusal.{Refusal}
use Rattle.refusals.specs.declared.Refusal.TheVariants.{Lamp, Spoiled}

-- the owner's place, or a refusal
abbrev pub OwnerReply : Type 0
OwnerReply = Result ℕ Refusal

-- the state is sound over columns of `room` entries, and an owner column of n places has N for each of its tables
abbrev pub owners_reach : State → ℕ → ℕ → Bool
owners_reach s room n = state_ok s room && leb (table_count s.options * s.count) n

-- where a lamp's owner in the table of zoom z stands in the column: N places a table, the finest first
abbrev pub owner_spot : State → ℕ → ℕ → ℕ
owner_spot s lamp z = (s.options.max_zoom + 1 - z) * s.count + lamp

-- the place p, if a table of so many entries has it
abbrev pub owner_within : ℕ → ℕ → OwnerReply
owner_within p len = cond (ltb p len) (Ok p) (Err Spoiled)

-- what the column says of a lamp in the table of zoom z
abbrev pub owner_read : State → List ℕ → ℕ → ℕ → OwnerReply
owner_read s owners lamp z = owner_within (get_or owners (owner_spot s lamp z) 0) (len_of s z)

-- the question, its refusals in SCOPE's order: the state or a short column (11), no such lamp (16), a place past the table (11)
unfoldable pub owner_asked : State → List ℕ → ℕ → ℕ → OwnerReply
owner_asked s owners lamp zoom =
    cond (owners_reach s (length owners) (length owners))
    (cond (ltb lamp s.count) (owner_read s owners lamp (zoom_used s.options zoom)) (Err Lamp)) (Err Spoiled)
