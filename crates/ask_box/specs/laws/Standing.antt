-- Of a sound state, the table of the zoom used lies in the columns of the index, and its part of them may be searched. Assumes nothing.
use Rattle.std.specs.Prelude.{◌≡◌, true, List, ℕ, ◌+◌, ◌*◌, ◌≤◌, ◌<◌, length, Float}
use Rattle.std.proofs.Common.{arith, le_refl, le-leb}
use Rattle.kdbush.specs.Reply.{index_ok}
use Rattle.build_tables.specs.declared.State.{State}
use Rattle.build_tables.specs.Options.{zoom_used}
use Rattle.build_tables.specs.State.{start_of, len_of}
use Rattle.build_tables.specs.Columns.{part}
use Rattle.build_tables.specs.Sound.{state_ok}
use Rattle.build_tables.specs.laws.Sound.{Stands, given, used-stands}
use Rattle.build_tables.specs.Room.{index_room}
use Rattle.build_tables.specs.laws.Roomy.{index-roomy}
use Rattle.ask_base.specs.Columns.{ids_at, coords_at}
use Rattle.ask_base.specs.laws.Columns.{ids-length, coords-length}

module _ (s : State) (ids : List ℕ) (co : List Float) (zoom : ℕ) where
  abbrev used : ℕ
  used = zoom_used s.options zoom

  module _ (e : state_ok s (index_room ids co) ≡ true) where
    -- it stands in them
    pub used-standing : Stands s (index_room ids co) used × (used < 32)
    used-standing = used-stands s (index_room ids co) e zoom

    used-held : (start_of s used + len_of s used ≤ length ids) × (2 * (start_of s used + len_of s used) ≤ length co)
    used-held = index-roomy ids co (start_of s used + len_of s used) (used-stands s (index_room ids co) e zoom).0.ends

    -- and its part of them may be searched
    pub used-index : index_ok s.options.node_size (len_of s used) (ids_at s ids used) (coords_at s co used) ≡ true
    used-index =
        let g = given s (index_room ids co) e in
        let w = (used-stands s (index_room ids co) e zoom).0 in
        rw (
          ids-length s ids co used w,
          coords-length s ids co used w,
          le-leb 1 s.options.node_size g.size-from,
          le-leb s.options.node_size 65535 g.size-to,
          le-leb 1 (len_of s used) w.some,
          le-leb (len_of s used) 1048576 (omega (arith, w.most, g.count-to)),
          le-leb (2 * len_of s used) (2 * len_of s used) (le_refl (2 * len_of s used)),
          le-leb (len_of s used) (len_of s used) (le_refl (len_of s used)),
        )

    pub used-small : (z : ℕ) → z ≡ used → z < 32
    used-small z f = omega (arith, (used-stands s (index_room ids co) e zoom).1)

    -- the numbers that the code has read
    pub at-used : (z start n : ℕ) → z ≡ used → start ≡ start_of s z → n ≡ len_of s z
        → ((start + n ≤ length ids) × (2 * (start + n) ≤ length co))
        × (index_ok s.options.node_size n (part start n ids) (part (2 * start) (2 * n) co) ≡ true)
    at-used z start n f g h = rw (g, h, f) (used-held, used-index)
