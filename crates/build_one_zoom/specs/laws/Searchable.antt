-- An index that a zoom can be searched by: it keeps its promises, and the place of each of its slots is answered there.
-- And what a zoom asks of its table. Assumes nothing.
use Rattle.std.specs.Prelude.{List, ℕ, ◌+◌, ◌^◌, ◌<◌, ◌≤◌, length}
use Rattle.kdslots.specs.laws.All.{All}
use Rattle.kdbush.specs.laws.Promise.{Promised}
use Rattle.build_tables.specs.Entries.{Table}
use Rattle.build_one_zoom.specs.declared.zoom.Zoom.{Zoom}
use Rattle.build_one_zoom.specs.Around.{around}
use Rattle.build_one_zoom.specs.Scanned.{unseen_num, unseen_of}
use Rattle.build_one_zoom.specs.Zoom.{energy_of}
use Rattle.build_one_zoom.specs.laws.Near.{Placed}
use Rattle.build_one_zoom.specs.laws.Notes.{OwnNote, Slotted}

pub record Searchable (z : Zoom) : Type 0 where
  pub promised : Promised z.node_size z.len z.index.ids.now z.index.coords.now
  pub own : OwnNote z.len (around z) z.index.ids.now z.index.coords.now

-- the table t is that of the index, and `near` has room for the notes
pub record Zoomable (z : Zoom) (t : Table) (near : List ℕ) : Type 0 where
  pub searchable : Searchable z
  pub placed : All Placed t
  pub slotted : Slotted z.len z.index.ids.now z.index.coords.now t
  pub notes : z.count + z.len ≤ length near
  pub lamps : unseen_num z.z t < 2 ^ 32
  pub watts : unseen_of energy_of z.z t < 2 ^ 64
