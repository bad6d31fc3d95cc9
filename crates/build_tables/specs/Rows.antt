-- The table that the lent columns hold. The columns go by one record, and all that is said of them is said of that. Only x says how long
-- the table is. Definitions only.
use Rattle.std.specs.Prelude.{List, [], ◌∷◌, ℕ, zero, suc, length, get_or, Float}
use Rattle.std.specs.Float.{nan}
use Rattle.build_tables.specs.declared.Entry.{Entry}
use Rattle.build_tables.specs.Entries.{Table}

pub record Cols : Type 0 where
  pub x : List Float
  pub y : List Float
  pub seen : List ℕ
  pub id : List ℕ
  pub parent : List ℕ
  pub num : List ℕ
  pub energy : List ℕ

abbrev pub cols : List Float → List Float → List ℕ → List ℕ → List ℕ → List ℕ → List ℕ → Cols
cols xs ys ss is ps ns ws = record { x = xs; y = ys; seen = ss; id = is; parent = ps; num = ns; energy = ws }

-- what stands at place i of the columns
abbrev pub row : Cols → ℕ → Entry
row c i =
    record {
      x = get_or c.x i nan;
      y = get_or c.y i nan;
      seen = get_or c.seen i 0;
      id = get_or c.id i 0;
      parent = get_or c.parent i 0;
      num = get_or c.num i 0;
      energy = get_or c.energy i 0;
    }

-- the same done to each column
abbrev pub each : ((A : Type 0) → List A → List A) → Cols → Cols
each f c =
    record {
      x = f Float c.x;
      y = f Float c.y;
      seen = f ℕ c.seen;
      id = f ℕ c.id;
      parent = f ℕ c.parent;
      num = f ℕ c.num;
      energy = f ℕ c.energy;
    }

-- and with each column of others
abbrev pub each2 : ((A : Type 0) → List A → List A → List A) → Cols → Cols → Cols
each2 f c d =
    record {
      x = f Float c.x d.x;
      y = f Float c.y d.y;
      seen = f ℕ c.seen d.seen;
      id = f ℕ c.id d.id;
      parent = f ℕ c.parent d.parent;
      num = f ℕ c.num d.num;
      energy = f ℕ c.energy d.energy;
    }

-- the values of f at the first n numbers
abbrev pub firsts : (ℕ → Entry) → ℕ → Table
firsts f zero = []
firsts f (suc n) = f 0 ∷ firsts (λ i. f (suc i)) n

-- the table that the columns hold
unfoldable pub rows : Cols → Table
rows c = firsts (row c) (length c.x)
