-- The columns of a table's rows are the columns; rows of parts are parts of the rows; and what becomes of a column whose part is lent and
-- comes back. Assumes nothing.
use Rattle.std.specs.Prelude.{◌≡◌, refl, List, [], ◌∷◌, ◌++◌, map, ℕ, zero, suc, ◌+◌, ◌-◌, ◌<◌, ◌≤◌, min, length, take, drop, Float}
use Rattle.std.proofs.Common.{ap, sym, ◌∙◌, append-nil, arith, length-take, length-drop, drop_of_length-le, take_at, drop_at, length-take-le, take_all, get_or-take, get_or-drop}
use Rattle.std.specs.Float.{nan}
use Rattle.build_tables.specs.declared.Entry.{Entry}
use Rattle.build_tables.specs.Entries.{Table, none, xs_of, ys_of, seen_of, ids_of, parents_of, nums_of, energies_of}
use Rattle.build_tables.specs.Rows.{Cols, rows, each}
use Rattle.build_tables.specs.laws.Rows.{Even, each_row, each_same, even-each, rows-length, rows-entry, rows_are, column}
use Rattle.build_tables.specs.Columns.{part}

pub part-long : {A : Type 0} (a n : ℕ) (l : List A) → a + n ≤ length l → length (part a n l) ≡ n
part-long a n l h = length-take-le n (drop a l) (rw (length-drop a l) (omega arith))

pub rows_drop : (s : ℕ) (c : Cols) → rows (each (λ A l. drop s l) c) ≡ drop s (rows c)
rows_drop s c =
    let n : length (drop s (rows c)) ≡ length (drop s c.x) = length-drop s (rows c) ∙ ap (λ (k : ℕ). k - s) (rows-length c)
    ∙ sym (length-drop s c.x) in
    rows_are (each (λ A l. drop s l) c) (drop s (rows c)) n
    (λ i h. let q : s + i < length c.x = omega (arith, length-drop s c.x) in
    each_row (λ A l. drop s l) c i (s + i) (λ A l d. get_or-drop s l i d) ∙ sym (get_or-drop s (rows c) i none ∙ rows-entry c (s + i) q))

pub rows_take : (s : ℕ) (c : Cols) → rows (each (λ A l. take s l) c) ≡ take s (rows c)
rows_take s c =
    let n : length (take s (rows c)) ≡ length (take s c.x) = length-take s (rows c) ∙ ap (min s) (rows-length c)
    ∙ sym (length-take s c.x) in
    rows_are (each (λ A l. take s l) c) (take s (rows c)) n
    (λ i h. let m = length-take s c.x in
    let q : i < s = omega (arith, m) in
    let r : i < length c.x = omega (arith, m) in
    each_row (λ A l. take s l) c i i (λ A l d. get_or-take s l i d q) ∙ sym (get_or-take s (rows c) i none q ∙ rows-entry c i r))

-- a part of each column
pub rows-part : (a n : ℕ) (c : Cols) → rows (each (λ A l. part a n l) c) ≡ part a n (rows c)
rows-part a n c = rows_take n (each (λ A l. drop a l) c) ∙ ap (take n) (rows_drop a c)

-- the part of a column from s on, as it is lent
abbrev pub from_part : {A : Type 0} → ℕ → List A → List A
from_part s l = take (length l - s) (drop s l)

pub from-drop : {A : Type 0} (s : ℕ) (l : List A) → from_part s l ≡ drop s l
from-drop s l = take_all (length l - s) (drop s l) (rw (length-drop s l) (omega arith))

pub from-length : {A : Type 0} (s : ℕ) (l : List A) → length (from_part s l) ≡ length l - s
from-length s l = ap length (from-drop s l) ∙ length-drop s l

pub rows-from : (s : ℕ) (c : Cols) → rows (each (λ A l. from_part s l) c) ≡ drop s (rows c)
rows-from s c = ap rows (each_same (λ A l. from_part s l) (λ A l. drop s l) c (λ A l. from-drop s l)) ∙ rows_drop s c

pub even-from : (s : ℕ) (c : Cols) → Even c → Even (each (λ A l. from_part s l) c)
even-from s c v = even-each (λ A l. from_part s l) (λ k. k - s) c (λ A l. from-length s l) v

-- a column whose part from s on came back as p
abbrev pub back : {A : Type 0} → ℕ → List A → List A → List A
back s l p = take s l ++ (p ++ drop (length l - s) (drop s l))

module _ {A : Type 0} (s : ℕ) (l p : List A) (h : s ≤ length l) where
  pub take_back : take s (back s l p) ≡ take s l
  take_back = take_at (take s l) (p ++ drop (length l - s) (drop s l)) s (length-take-le s l h)

  pub drop-back : drop s (back s l p) ≡ p
  drop-back =
      drop_at (take s l) (p ++ drop (length l - s) (drop s l)) s (length-take-le s l h)
      ∙ rw (drop_of_length-le (drop s l) {i = length l - s} (rw (length-drop s l) (omega arith))) (append-nil p)

-- ---- the columns of the rows

pub xs-rows : (c : Cols) → xs_of (rows c) ≡ c.x
xs-rows c = column (λ e. e.x) c c.x nan refl (λ i. refl)

pub ys-rows : (c : Cols) → length c.y ≡ length c.x → ys_of (rows c) ≡ c.y
ys-rows c h = column (λ e. e.y) c c.y nan h (λ i. refl)

pub seen-rows : (c : Cols) → length c.seen ≡ length c.x → seen_of (rows c) ≡ c.seen
seen-rows c h = column (λ e. e.seen) c c.seen 0 h (λ i. refl)

pub id-rows : (c : Cols) → length c.id ≡ length c.x → ids_of (rows c) ≡ c.id
id-rows c h = column (λ e. e.id) c c.id 0 h (λ i. refl)

pub parent-rows : (c : Cols) → length c.parent ≡ length c.x → parents_of (rows c) ≡ c.parent
parent-rows c h = column (λ e. e.parent) c c.parent 0 h (λ i. refl)

pub num-rows : (c : Cols) → length c.num ≡ length c.x → nums_of (rows c) ≡ c.num
num-rows c h = column (λ e. e.num) c c.num 0 h (λ i. refl)

pub energy-rows : (c : Cols) → length c.energy ≡ length c.x → energies_of (rows c) ≡ c.energy
energy-rows c h = column (λ e. e.energy) c c.energy 0 h (λ i. refl)

map-take : {B : Type 0} (f : Entry → B) (n : ℕ) (t : Table) → map f (take n t) ≡ take n (map f t)
map-take f zero t = refl
map-take f (suc n) [] = refl
map-take f (suc n) (e ∷ t) = ap (λ (q : List _). f e ∷ q) (map-take f n t)

pub map-drop : {B : Type 0} (f : Entry → B) (n : ℕ) (t : Table) → map f (drop n t) ≡ drop n (map f t)
map-drop f zero t = refl
map-drop f (suc n) [] = refl
map-drop f (suc n) (e ∷ t) = map-drop f n t

pub xs-part : (a n : ℕ) (c : Cols) → part a n c.x ≡ xs_of (part a n (rows c))
xs-part a n c =
    sym (map-take (λ e. e.x) n (drop a (rows c)) ∙ ap (take n) (map-drop (λ e. e.x) a (rows c))
    ∙ ap (λ (q : List Float). take n (drop a q)) (xs-rows c))

pub ys-part : (a n : ℕ) (c : Cols) → length c.y ≡ length c.x → part a n c.y ≡ ys_of (part a n (rows c))
ys-part a n c h =
    sym (map-take (λ e. e.y) n (drop a (rows c)) ∙ ap (take n) (map-drop (λ e. e.y) a (rows c))
    ∙ ap (λ (q : List Float). take n (drop a q)) (ys-rows c h))
