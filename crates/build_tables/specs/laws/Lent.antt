-- Columns lent to be written, after a step and after two: the same loans, each as long as it was, so that columns as long as each other
-- stay so. Assumes nothing.
use Rattle.std.specs.Prelude.{refl}
use Rattle.std.proofs.Common.{◌∙◌}
use Rattle.kdsort.specs.declared.IndexMut.{IndexMut}
use Rattle.kdsort.specs.Lent.{SameIndex}
use Rattle.build_tables.specs.declared.columns.EntriesMut.{EntriesMut}
use Rattle.build_tables.specs.Lent.{held_mut, SameColumns}
use Rattle.build_tables.specs.laws.Rows.{Even, Kept, even-kept}

pub same-refl : (a : EntriesMut) → SameColumns a a
same-refl a =
    record {
      x = refl;
      y = refl;
      seen = refl;
      id = refl;
      parent = refl;
      num = refl;
      energy = refl;
      kx = refl;
      ky = refl;
      ks = refl;
      ki = refl;
      kp = refl;
      kn = refl;
      kw = refl;
    }

pub same_then : (a b c : EntriesMut) → SameColumns a b → SameColumns b c → SameColumns a c
same_then a b c f g =
    record {
      x = g.x ∙ f.x;
      y = g.y ∙ f.y;
      seen = g.seen ∙ f.seen;
      id = g.id ∙ f.id;
      parent = g.parent ∙ f.parent;
      num = g.num ∙ f.num;
      energy = g.energy ∙ f.energy;
      kx = g.kx ∙ f.kx;
      ky = g.ky ∙ f.ky;
      ks = g.ks ∙ f.ks;
      ki = g.ki ∙ f.ki;
      kp = g.kp ∙ f.kp;
      kn = g.kn ∙ f.kn;
      kw = g.kw ∙ f.kw;
    }

pub same-kept : (a b : EntriesMut) → SameColumns a b → Kept (held_mut a) (held_mut b)
same-kept a b s = record { kx = s.kx; ky = s.ky; ks = s.ks; ki = s.ki; kp = s.kp; kn = s.kn; kw = s.kw }

pub same-even : (a b : EntriesMut) → SameColumns a b → Even (held_mut a) → Even (held_mut b)
same-even a b s v = even-kept (held_mut a) (held_mut b) (same-kept a b s) v

-- the two loans of an index
pub index-refl : (a : IndexMut) → SameIndex a a
index-refl a = record { ids = refl; coords = refl; ids_length = refl; coords_length = refl }

pub index_then : (a b c : IndexMut) → SameIndex a b → SameIndex b c → SameIndex a c
index_then a b c f g =
    record {
      ids = g.ids ∙ f.ids;
      coords = g.coords ∙ f.coords;
      ids_length = g.ids_length ∙ f.ids_length;
      coords_length = g.coords_length ∙ f.coords_length;
    }
