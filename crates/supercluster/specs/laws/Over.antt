-- Columns of which a front is written, the rows of columns whose front is a table, and that these keep their room. Assumes nothing.
use Rattle.std.specs.Prelude.{◌≡◌, refl, List, [], ◌∷◌, ◌++◌, map, ℕ, zero, suc, ◌+◌, ◌-◌, ◌≤◌, length, take, drop, replicate}
use Rattle.std.proofs.Common.{ap, sym, ◌∙◌, append_assoc, arith, length-append, length-drop, take-append-drop, drop-drop, length-take-le}
use Rattle.std.proofs.lemmas.List.{length-map, length-replicate, drop-append-le}
use Rattle.std.proofs.Math.Seq.{drop-append-add}
use Rattle.build_tables.specs.laws.Columns.{map-drop, rows_drop}
use Rattle.build_tables.specs.Entries.{Table}
use Rattle.build_tables.specs.laws.Roomy.{Roomy}
use Rattle.build_tables.specs.Rows.{Cols, rows, each2}
use Rattle.build_tables.specs.declared.Entry.{Entry}
use Rattle.build_one_zoom.specs.laws.Keeps.{cluster-long}
use Rattle.supercluster.specs.Build.{cols_of}
use Rattle.build_all_zooms.specs.Zooms.{Plan, zoomed, run_zooms, joined, laid_over}

-- what a longer front covers is gone
pub over-over : {A : Type 0} (T F R : List A) → length F ≤ length T → laid_over T (laid_over F R) ≡ laid_over T R
over-over T F R h =
    let q : length T ≡ length F + (length T - length F) = omega arith in
    ap (λ (l : List _). T ++ l)
    (ap (λ (k : ℕ). drop k (laid_over F R)) q ∙ drop-append-add F (drop (length F) R) (length T - length F)
    ∙ drop-drop (length T - length F) (length F) R ∙ ap (λ (k : ℕ). drop k R) (sym q))

pub map-append : {B : Type 0} (f : Entry → B) (a b : Table) → map f (a ++ b) ≡ map f a ++ map f b
map-append f [] b = refl
map-append f (e ∷ a) b = ap (λ (l : List _). f e ∷ l) (map-append f a b)

pub over-map : {B : Type 0} (f : Entry → B) (T R : Table) → map f (laid_over T R) ≡ laid_over (map f T) (map f R)
over-map f T R =
    map-append f T (drop (length T) R)
    ∙ ap (λ (l : List _). map f T ++ l) (map-drop f (length T) R ∙ ap (λ (k : ℕ). drop k (map f R)) (sym (length-map T f)))

-- the front of a column was lent, and came back with a front of its own
pub cut-over : {A : Type 0} (l d x : List A) (m : ℕ) → m ≤ length d → x ≡ laid_over l (take m d) → length x ≡ m
    → x ++ drop m d ≡ laid_over l d
cut-over l d x m h e k =
    let lt : length (take m d) ≡ m = length-take-le m d h in
    let n : length l ≤ m = omega (arith, ap length e, length-append l (drop (length l) (take m d)), k) in
    ap (λ (q : List _). q ++ drop m d) e
    ∙ append_assoc l (drop (length l) (take m d)) (drop m d)
    ∙ ap (λ (q : List _). l ++ q) (sym (drop-append-le (length l) (take m d) (drop m d) (omega (arith, n, lt)))
    ∙ ap (drop (length l)) (take-append-drop m d))

-- and as long as it was lent, so that the column is as long as it was
pub cut-long : {A : Type 0} (m : ℕ) (x d : List A) → length x ≡ length (take m d) → length (x ++ drop m d) ≡ length d
cut-long m x d e =
    let whole : length (take m d ++ drop m d) ≡ length d = ap length (take-append-drop m d) in
    omega (arith, e, length-append x (drop m d), length-append (take m d) (drop m d), whole)

pub run_long : (p : Plan) (k : ℕ) (t : Table) → length t ≤ length (joined (run_zooms p k t))
unfolding run_zooms joined
run_long p zero t = omega (arith, length-append t [])
run_long p (suc k) t =
    let h : length (zoomed p (p.options.min_zoom + k) t).table ≡ length t =
    cluster-long p.count p.options.min_points (p.options.min_zoom + k) _ t in
    omega (
      arith,
      length-append (zoomed p (p.options.min_zoom + k) t).table
          (joined (run_zooms p k (zoomed p (p.options.min_zoom + k) t).next)),
      h,
    )

-- ---- the rows of columns that have a table at their front

rows_append : (T : Table) (c : Cols) → rows (each2 (λ A l q. l ++ q) (cols_of T) c) ≡ T ++ rows c
unfolding rows
rows_append [] c = refl
rows_append (q ∷ T) c = ap (λ (t : Table). q ∷ t) (rows_append T c)

pub rows-over : (T : Table) (c : Cols) → rows (each2 (λ A l q. laid_over l q) (cols_of T) c) ≡ laid_over T (rows c)
rows-over T c =
    rows_append T (each2 (λ A l q. drop (length l) q) (cols_of T) c) ∙ ap (λ (t : Table). T ++ t) (simp length-map (rows_drop (length T) c))

pub over-length : {A : Type 0} (l d : List A) → length l ≤ length d → length (laid_over l d) ≡ length d
over-length l d h = omega (arith, length-append l (drop (length l) d), length-drop (length l) d)

-- a front that came back as zeros
pub zeros-front : (n : ℕ) (p l : List ℕ) → p ≡ replicate n 0 → p ++ drop n l ≡ laid_over (replicate n 0) l
zeros-front n p l h =
    ap (λ (q : List ℕ). q ++ drop n l) h ∙ ap (λ (k : ℕ). replicate n 0 ++ drop k l) (sym (length-replicate {A = ℕ} n 0))

-- ---- columns with room for n entries, once a table of no more was laid over them

wide : {B : Type 0} (f : Entry → B) (n : ℕ) (T : Table) (d : List B) → length T ≤ n → n ≤ length d → n ≤ length (laid_over (map f T) d)
wide f n T d t h = omega (arith, over-length (map f T) d (omega (arith, length-map T f, t, h)), h)

pub roomy-over : (n : ℕ) (T : Table) (c : Cols) → length T ≤ n → Roomy n c → Roomy n (each2 (λ A l q. laid_over l q) (cols_of T) c)
roomy-over n T c t r =
    record {
      hx = wide (λ e. e.x) n T c.x t r.hx;
      hy = wide (λ e. e.y) n T c.y t r.hy;
      hs = wide (λ e. e.seen) n T c.seen t r.hs;
      hi = wide (λ e. e.id) n T c.id t r.hi;
      hp = wide (λ e. e.parent) n T c.parent t r.hp;
      hn = wide (λ e. e.num) n T c.num t r.hn;
      hw = wide (λ e. e.energy) n T c.energy t r.hw;
    }
