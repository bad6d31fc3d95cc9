-- When strips run: always where the option is off, and for longitude either way; on a plan with the option on never. Assumes nothing.
use Rattle.std.specs.Prelude.{◌≡◌, refl, Bool, true, false, cond}
use Rattle.std.proofs.Common.{ap, ap₂, ◌∙◌}
use Rattle.range.specs.declared.DataRange.{DataRange}
use Rattle.range.specs.declared.CoordinateSystem.{CoordinateSystem}
use Rattle.range.specs.declared.CoordinateSystem.TheVariants.{LatLng, Cartesian}
use Rattle.build_tables.specs.declared.Options.{Options}
use Rattle.ask_tile_table.specs.Tile.{goes_round, wraps}

pub off-wraps : (o : Options) → o.longitude_strips_only ≡ false → wraps o ≡ true
unfolding wraps
off-wraps o e = ap (λ (b : Bool). cond b (goes_round o.coordinate_system) true) e

pub longitude-wraps : (o : Options) → o.coordinate_system ≡ LatLng → wraps o ≡ true
unfolding wraps
longitude-wraps o e =
    ap (λ (c : CoordinateSystem). cond o.longitude_strips_only (goes_round c) true) e ∙ of o.longitude_strips_only
  where
    of : (b : Bool) → cond b true true ≡ true
    of true = refl
    of false = refl

pub plan-wraps : (o : Options) (d : DataRange) → o.longitude_strips_only ≡ true
    → o.coordinate_system ≡ Cartesian d → wraps o ≡ false
unfolding wraps
plan-wraps o d e c = ap₂ (λ (b : Bool) (x : CoordinateSystem). cond b (goes_round x) true) e c
