-- The two loans of an index stay the same from call to call. Assumes nothing.
use Rattle.std.proofs.Common.{refl, ◌∙◌}
use Rattle.kdsort.specs.declared.IndexMut.{IndexMut}
use Rattle.kdsort.specs.Lent.{SameIndex}

pub same-self : (x : IndexMut) → SameIndex x x
same-self x = record { ids = refl; coords = refl; ids_length = refl; coords_length = refl }

pub same-then : (x y z : IndexMut) → SameIndex x y → SameIndex y z → SameIndex x z
same-then x y z p q = record {
  ids = q.ids ∙ p.ids;
  coords = q.coords ∙ p.coords;
  ids_length = q.ids_length ∙ p.ids_length;
  coords_length = q.coords_length ∙ p.coords_length;
}
