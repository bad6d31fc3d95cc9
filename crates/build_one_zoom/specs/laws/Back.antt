-- The columns that a call came back with, and that each is as long as it was, as the caller's proof has them: first among what was lent to
-- it. Assumes nothing.
use Rattle.std.specs.Prelude.{◌≡◌, List, ℕ, length, Float}
use Rattle.build_tables.specs.Rows.{Cols, cols}
use Rattle.build_tables.specs.laws.Rows.{Kept}

-- R stands for what was lent after the columns
abbrev pub Lasts : Type 0 → Type 0
Lasts R = List Float × (List Float × (List ℕ × (List ℕ × (List ℕ × (List ℕ × (List ℕ × R))))))

abbrev pub last_cols : {R : Type 0} → Lasts R → Cols
last_cols l = cols l.0 l.1.0 l.1.1.0 l.1.1.1.0 l.1.1.1.1.0 l.1.1.1.1.1.0
    l.1.1.1.1.1.1.0

abbrev pub Kepts : Cols → Cols → Type 0 → Type 0
Kepts old new R =
    (length new.x ≡ length old.x) ×
    ((length new.y ≡ length old.y) ×
    ((length new.seen ≡ length old.seen) ×
    ((length new.id ≡ length old.id) ×
    ((length new.parent ≡ length old.parent) ×
    ((length new.num ≡ length old.num) ×
    ((length new.energy ≡ length old.energy) × R))))))

pub kept_cols : {R : Type 0} (old new : Cols) → Kepts old new R → Kept old new
kept_cols old new k =
    record {
      kx = k.0;
      ky = k.1.0;
      ks = k.1.1.0;
      ki = k.1.1.1.0;
      kp = k.1.1.1.1.0;
      kn = k.1.1.1.1.1.0;
      kw = k.1.1.1.1.1.1.0;
    }
