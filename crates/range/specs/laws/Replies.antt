-- Any two replies that meet the contract of a public function of this crate are equal. Assumes nothing.
use Rattle.std.specs.Prelude.{◌≡◌, Bool, Float}
use Rattle.floats.specs.laws.Replies.{same-reply}
use Rattle.range.specs.declared.DataRange.{DataRange}
use Rattle.range.specs.declared.CoordinateSystem.{CoordinateSystem}
use Rattle.range.specs.declared.Point.{Point}
use Rattle.range.specs.Range.{normalized, denormalized, converted, system_in_bounds}

pub normalize-replies : (d : DataRange) (v r s : Float) → r ≡ normalized d v → s ≡ normalized d v → r ≡ s
normalize-replies d v r s = same-reply

pub denormalize-replies : (d : DataRange) (v r s : Float) → r ≡ denormalized d v → s ≡ denormalized d v → r ≡ s
denormalize-replies d v r s = same-reply

pub convert-replies : (c : CoordinateSystem) (p r s : Point) → r ≡ converted c p → s ≡ converted c p → r ≡ s
convert-replies c p r s = same-reply

pub bounds-replies : (c : CoordinateSystem) (r s : Bool) → r ≡ system_in_bounds c → s ≡ system_in_bounds c → r ≡ s
bounds-replies c r s = same-reply
