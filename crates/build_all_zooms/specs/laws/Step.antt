-- A zoom of a table that stands at `start`: the rows before it stay, and from there on a scan is left. Assumes nothing.
use Rattle.std.specs.Prelude.{◌≡◌, ℕ, ◌-◌, ◌≤◌, length, take, drop}
use Rattle.std.proofs.Common.{ap, sym, ◌∙◌, arith}
use Rattle.build_tables.specs.Entries.{Table}
use Rattle.build_tables.specs.Rows.{Cols, rows, each2, each}
use Rattle.build_tables.specs.laws.Rows.{Even, Kept, each2-first, each2-second}
use Rattle.build_tables.specs.laws.Columns.{from_part, back, take_back, drop-back, rows_take, rows_drop, rows-from}
use Rattle.build_one_zoom.specs.Zoom.{Scan}
use Rattle.build_one_zoom.specs.Scanned.{Scanned}
use Rattle.build_all_zooms.specs.laws.Parts.{put-long}

-- the rows before start stay, and from start on a scan is left
pub record Stepped (start len : ℕ) (s : Scan) (old new : Table) (d : ℕ) : Type 0 where
  pub before : take start new ≡ take start old
  pub after : Scanned len 0 s (drop start old) (drop start new) d

-- the columns c are lent from s on, and come back there as d
pub stepped : (s : ℕ) (c d : Cols) → Even c → s ≤ length c.x → (len k : ℕ) (sc : Scan)
    → Scanned len 0 sc (rows (each (λ A l. from_part s l) c)) (rows d) k
    → Stepped s len sc (rows c) (rows (each2 (λ A l q. back s l q) c d)) k
stepped s c d v h len k sc l =
    let b = each2 (λ A l q. back s l q) c d in
    let e : drop s (rows b) ≡ rows d
    = sym (rows_drop s b) ∙ ap rows
    (each2-second (λ A l q. back s l q) (λ A l. drop s l) c d v
    (λ A l q n. drop-back s l q (let m : s ≤ length l = omega arith in m))) in
    record {
      before =
          sym (rows_take s b)
          ∙ ap rows (each2-first (λ A l q. back s l q) (λ A l. take s l) c d v (λ A l. take s l)
          (λ A l q n. take_back s l q (let m : s ≤ length l = omega arith in m)))
          ∙ rows_take s c;
      after = rw (sym (rows-from s c), e) l;
    }

-- columns lent from s on that come back as long as they were
pub kept_back : (s : ℕ) (c d : Cols) → Kept (each (λ A l. from_part s l) c) d → Kept c (each2 (λ A l q. back s l q) c d)
kept_back s c d k =
    record {
      kx = put-long s (length c.x - s) d.x c.x k.kx;
      ky = put-long s (length c.y - s) d.y c.y k.ky;
      ks = put-long s (length c.seen - s) d.seen c.seen k.ks;
      ki = put-long s (length c.id - s) d.id c.id k.ki;
      kp = put-long s (length c.parent - s) d.parent c.parent k.kp;
      kn = put-long s (length c.num - s) d.num c.num k.kn;
      kw = put-long s (length c.energy - s) d.energy c.energy k.kw;
    }
