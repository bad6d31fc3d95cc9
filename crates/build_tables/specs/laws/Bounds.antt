-- What options within SCOPE's bounds say, as numbers. Assumes nothing.
use Rattle.std.specs.Prelude.{◌≡◌, true, ◌&&◌, ◌≤◌, T, leb}
use Rattle.std.specs.Float.Ieee.{le}
use Rattle.std.proofs.Common.{leb-true}
use Rattle.floats.specs.Numbers.{zero, one, pow16}
use Rattle.floats.specs.laws.Fraction.{yes_of}
use Rattle.range.specs.Range.{system_in_bounds}
use Rattle.kdslots.specs.Bounds.{node_size_ok}
use Rattle.kdslots.specs.laws.Bounds.{and_both, size_is}
use Rattle.build_tables.specs.declared.Options.{Options}
use Rattle.build_tables.specs.Options.{options_ok, zooms_ok, radius_ok, extent_ok}

pub record InBounds (o : Options) : Type 0 where
  pub zooms : o.min_zoom ≤ o.max_zoom
  pub zoom-to : o.max_zoom ≤ 30
  pub radius-from : T (le zero o.radius)
  pub radius-to : T (le o.radius pow16)
  pub extent-from : T (le one o.extent)
  pub extent-to : T (le o.extent pow16)
  pub size-from : 1 ≤ o.node_size
  pub size-to : o.node_size ≤ 65535
  pub system : system_in_bounds o.coordinate_system ≡ true

pub options-are : (o : Options) → options_ok o ≡ true → InBounds o
unfolding options_ok
options-are o e =
    let a = and_both (zooms_ok o && radius_ok o && extent_ok o && node_size_ok o.node_size) (system_in_bounds o.coordinate_system) e in
    let b = and_both (zooms_ok o && radius_ok o && extent_ok o) (node_size_ok o.node_size) a.0 in
    let c = and_both (zooms_ok o && radius_ok o) (extent_ok o) b.0 in
    let d = and_both (zooms_ok o) (radius_ok o) c.0 in
    let z = and_both (leb o.min_zoom o.max_zoom) (leb o.max_zoom 30) d.0 in
    let r = and_both (le zero o.radius) (le o.radius pow16) d.1 in
    let x = and_both (le one o.extent) (le o.extent pow16) c.1 in
    let s = size_is o.node_size b.1 in
    record {
      zooms = leb-true o.min_zoom o.max_zoom z.0;
      zoom-to = leb-true o.max_zoom 30 z.1;
      radius-from = yes_of r.0;
      radius-to = yes_of r.1;
      extent-from = yes_of x.0;
      extent-to = yes_of x.1;
      size-from = s.0;
      size-to = s.1;
      system = a.1;
    }
