-- `ask_tile_table::asked::AskedTile::strip` meets its contract: at the east from 1 - p / z2 to 1, at the west from 0 to p / z2. Assumes
-- nothing.
use Rattle.std.proofs.Common.{◌≡◌, true, sym, ◌∙◌}
use lib.Ieee.{of_bits, neg}
use Rattle.ask_tile_table.specs.Tile.{has_strip, east_strip, west_strip}
use Rattle.ask_tile_table.proofs.asked.AskedTile.strip.Goals as goal

pub returns-in-East : goal.returns-in-East
unfolding east_strip of_bits
returns-in-East c =
    let t = c.args.self.now in
    let h : has_strip c.args.end t.options t.z t.x ≡ true = sym c.has_strip.ensures ∙ c.if-not-has_strip.false in
    let i = rw c.in-East.is at h in
    rw (c.in-East.is, i) (simp (c.strip_of.ensures, c.power-z2.ensures, c.margin.ensures))

pub returns-in-West : goal.returns-in-West
unfolding west_strip of_bits neg
returns-in-West c =
    let t = c.args.self.now in
    let h : has_strip c.args.end t.options t.z t.x ≡ true = sym c.has_strip.ensures ∙ c.if-not-has_strip.false in
    let i = rw c.in-West.is at h in
    rw (c.in-West.is, i) (simp (c.strip_of-in-West.ensures, c.power-z2.ensures, c.margin.ensures))
