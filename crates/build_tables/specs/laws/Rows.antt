-- How a store in the lent columns is in the table that they hold: a whole entry, a mark, a parent. The laws on stores ask that the other
-- columns are as long as x. Assumes nothing.
use Rattle.std.specs.Prelude.{◌≡◌, refl, List, [], ◌∷◌, map, Bool, true, false, ℕ, zero, suc, ◌<◌, eqb, length, get_or, set, Float}
use Rattle.std.proofs.Common.{ap, sym, ◌∙◌, arith, eqb-true, length-set, get_or-set_same, get_or-set_other, ext_get_or}
use Rattle.std.proofs.lemmas.Bool.{eqb-false}
use Rattle.std.proofs.lemmas.List.{length-map, set-get_or}
use Rattle.std.proofs.Math.ListN.{get_or-map}
use Rattle.std.specs.Float.{nan}
use Rattle.build_tables.specs.declared.Entry.{Entry}
use Rattle.build_tables.specs.Entries.{Table, entry, none, marked, under}
use Rattle.build_tables.specs.Rows.{Cols, row, each, each2, firsts, rows}

-- an entry stored, field by field
abbrev pub put_all : Cols → ℕ → Entry → Cols
put_all c i e =
    record {
      x = set c.x i e.x;
      y = set c.y i e.y;
      seen = set c.seen i e.seen;
      id = set c.id i e.id;
      parent = set c.parent i e.parent;
      num = set c.num i e.num;
      energy = set c.energy i e.energy;
    }

-- other marks, and other parents
abbrev pub with_seen : Cols → List ℕ → Cols
with_seen c l = record { x = c.x; y = c.y; seen = l; id = c.id; parent = c.parent; num = c.num; energy = c.energy }

abbrev pub with_parent : Cols → List ℕ → Cols
with_parent c l = record { x = c.x; y = c.y; seen = c.seen; id = c.id; parent = l; num = c.num; energy = c.energy }

-- the columns are as long as each other
pub record Even (c : Cols) : Type 0 where
  pub ey : length c.y ≡ length c.x
  pub es : length c.seen ≡ length c.x
  pub ei : length c.id ≡ length c.x
  pub ep : length c.parent ≡ length c.x
  pub en : length c.num ≡ length c.x
  pub ew : length c.energy ≡ length c.x

-- each column is as long as it was
pub record Kept (old new : Cols) : Type 0 where
  pub kx : length new.x ≡ length old.x
  pub ky : length new.y ≡ length old.y
  pub ks : length new.seen ≡ length old.seen
  pub ki : length new.id ≡ length old.id
  pub kp : length new.parent ≡ length old.parent
  pub kn : length new.num ≡ length old.num
  pub kw : length new.energy ≡ length old.energy

pub kept_then : (a b c : Cols) → Kept b c → Kept a b → Kept a c
kept_then a b c k l =
    record {
      kx = k.kx ∙ l.kx;
      ky = k.ky ∙ l.ky;
      ks = k.ks ∙ l.ks;
      ki = k.ki ∙ l.ki;
      kp = k.kp ∙ l.kp;
      kn = k.kn
          ∙ l.kn;
      kw = k.kw ∙ l.kw;
    }

pub kept-mark : (c : Cols) (i a : ℕ) → Kept c (with_seen c (set c.seen i a))
kept-mark c i a = record { kx = refl; ky = refl; ks = length-set c.seen i a; ki = refl; kp = refl; kn = refl; kw = refl }

-- columns as long as each other, before and after: one length says all
pub kept-even : (a b : Cols) → Even a → Even b → length b.x ≡ length a.x → Kept a b
kept-even a b v w e =
    record { kx = e; ky = omega arith; ks = omega arith; ki = omega arith; kp = omega arith; kn = omega arith; kw = omega arith }

pub even-kept : (a b : Cols) → Kept a b → Even a → Even b
even-kept a b k v =
    record { ey = omega arith; es = omega arith; ei = omega arith; ep = omega arith; en = omega arith; ew = omega arith }

pub even-seen : (c : Cols) (l : List ℕ) → length l ≡ length c.seen → Even c → Even (with_seen c l)
even-seen c l e v = record { ey = v.ey; es = e ∙ v.es; ei = v.ei; ep = v.ep; en = v.en; ew = v.ew }

pub even-parent : (c : Cols) (l : List ℕ) → length l ≡ length c.parent → Even c → Even (with_parent c l)
even-parent c l e v = record { ey = v.ey; es = v.es; ei = v.ei; ep = e ∙ v.ep; en = v.en; ew = v.ew }

pub even-mark : (c : Cols) (i a : ℕ) → Even c → Even (with_seen c (set c.seen i a))
even-mark c i a v = even-seen c (set c.seen i a) (length-set c.seen i a) v

pub even-marks : (c : Cols) (i a b : ℕ) → Even c → Even (with_parent (with_seen c (set c.seen i a)) (set c.parent i b))
even-marks c i a b v = even-parent (with_seen c (set c.seen i a)) (set c.parent i b) (length-set c.parent i b) (even-mark c i a v)

firsts-length : (f : ℕ → Entry) (n : ℕ) → length (firsts f n) ≡ n
firsts-length f zero = refl
firsts-length f (suc n) = ap suc (firsts-length (λ i. f (suc i)) n)

firsts_at : (f : ℕ → Entry) (n i : ℕ) → i < n → entry (firsts f n) i ≡ f i
firsts_at f zero i h = let z : ⊥ = omega arith in absurd z
firsts_at f (suc n) zero h = refl
firsts_at f (suc n) (suc i) h = firsts_at (λ k. f (suc k)) n i (omega arith)

pub rows-length : (c : Cols) → length (rows c) ≡ length c.x
unfolding rows
rows-length c = firsts-length (row c) (length c.x)

pub rows-entry : (c : Cols) (i : ℕ) → i < length c.x → entry (rows c) i ≡ row c i
unfolding rows
rows-entry c i h = firsts_at (row c) (length c.x) i h

-- a table of the columns' length with what stands in them at each place is the one that they hold
pub rows_are : (c : Cols) (t : Table) → length t ≡ length c.x → ((i : ℕ) → i < length c.x → row c i ≡ entry t i) → rows c ≡ t
rows_are c t e f =
    ext_get_or none (rows c) t (rows-length c ∙ sym e)
    (λ i h. let l : i < length c.x = omega (arith, rows-length c) in rows-entry c i l ∙ f i l)

-- a whole entry is stored
put-at : (c : Cols) (i : ℕ) (e : Entry) → Even c → i < length c.x → row (put_all c i e) i ≡ e
put-at c i e v h =
    simp (
      get_or-set_same c.x i e.x nan h,
      get_or-set_same c.y i e.y nan (let q : i < length c.y = omega arith in q),
      get_or-set_same c.seen i e.seen 0 (let q : i < length c.seen = omega arith in q),
      get_or-set_same c.id i e.id 0 (let q : i < length c.id = omega arith in q),
      get_or-set_same c.parent i e.parent 0 (let q : i < length c.parent = omega arith in q),
      get_or-set_same c.num i e.num 0 (let q : i < length c.num = omega arith in q),
      get_or-set_same c.energy i e.energy 0 (let q : i < length c.energy = omega arith in q),
    )

pub rows-set : (c : Cols) (i : ℕ) (e : Entry) → Even c → i < length c.x → rows (put_all c i e) ≡ set (rows c) i e
rows-set c i e v h =
    let n : length (set (rows c) i e) ≡ length (set c.x i e.x) = length-set (rows c) i e ∙ rows-length c
    ∙ sym (length-set c.x i e.x) in
    rows_are (put_all c i e) (set (rows c) i e) n (λ j k. by j (rw (length-set c.x i e.x) at k) _ refl)
  where
    by : (j : ℕ) → j < length c.x → (b : Bool) → eqb j i ≡ b → row (put_all c i e) j ≡ entry (set (rows c) i e) j
    by j k true q =
        let r : j ≡ i = eqb-true j i q in
        let m : i < length (rows c) = omega (arith, rows-length c, h) in
        rw r (put-at c i e v h ∙ sym (get_or-set_same (rows c) i e none m))
    by j k false q =
        let o = eqb-false j i q in
        simp (
          get_or-set_other c.x i j e.x nan o,
          get_or-set_other c.y i j e.y nan o,
          get_or-set_other c.seen i j e.seen 0 o,
          get_or-set_other c.id i j e.id 0 o,
          get_or-set_other c.parent i j e.parent 0 o,
          get_or-set_other c.num i j e.num 0 o,
          get_or-set_other c.energy i j e.energy 0 o,
        )
        (sym (get_or-set_other (rows c) i j e none o ∙ rows-entry c j k))

-- a store that leaves the other columns as they are
module _ (c : Cols) (i : ℕ) (v : Even c) (h : i < length c.x) where
  -- seen and parent
  pub rows_join : (z p : ℕ)
      → rows (with_parent (with_seen c (set c.seen i z)) (set c.parent i p)) ≡ set (rows c) i (under p (marked z (entry (rows c) i)))
  rows_join z p = rw (rows-entry c i h) (rw (sym (rows-set c i (under p (marked z (row c i))) v h)) (simp set-get_or))

  -- seen
  pub rows-mark : (z : ℕ) → rows (with_seen c (set c.seen i z)) ≡ set (rows c) i (marked z (entry (rows c) i))
  rows-mark z = rw (rows-entry c i h) (rw (sym (rows-set c i (marked z (row c i)) v h)) (simp set-get_or))

  -- parent
  pub rows-parent : (p : ℕ) → rows (with_parent c (set c.parent i p)) ≡ set (rows c) i (under p (entry (rows c) i))
  rows-parent p = rw (rows-entry c i h) (rw (sym (rows-set c i (under p (row c i)) v h)) (simp set-get_or))

-- ---- the same done to each column

-- f takes what stands at k to i
pub each_row : (f : (A : Type 0) → List A → List A) (c : Cols) (i k : ℕ)
    → ((A : Type 0) (l : List A) (d : A) → get_or (f A l) i d ≡ get_or l k d) → row (each f c) i ≡ row c k
each_row f c i k g = simp (
  g Float c.x nan,
  g Float c.y nan,
  g ℕ c.seen 0,
  g ℕ c.id 0,
  g ℕ c.parent 0,
  g ℕ c.num 0,
  g ℕ c.energy 0,
)

pub each_same : (f g : (A : Type 0) → List A → List A) (c : Cols) → ((A : Type 0) (l : List A) → f A l ≡ g A l) → each f c ≡ each g c
each_same f g c e = simp (e Float c.x, e Float c.y, e ℕ c.seen, e ℕ c.id, e ℕ c.parent, e ℕ c.num, e ℕ c.energy)

-- what is done to each of two columns, and then again: h to the first, or the second itself
module _ (f : (A : Type 0) → List A → List A → List A) (g : (A : Type 0) → List A → List A) (c d : Cols) (v : Even c) where
  pub each2-first : (h : (A : Type 0) → List A → List A) → ((A : Type 0) (l q : List A) → length l ≡ length c.x → g A (f A l q) ≡ h A l)
      → each g (each2 f c d) ≡ each h c
  each2-first h e =
      simp (
        e Float c.x d.x refl,
        e Float c.y d.y v.ey,
        e ℕ c.seen d.seen v.es,
        e ℕ c.id d.id v.ei,
        e ℕ c.parent d.parent v.ep,
        e ℕ c.num d.num v.en,
        e ℕ c.energy d.energy v.ew,
      )

  pub each2-second : ((A : Type 0) (l q : List A) → length l ≡ length c.x → g A (f A l q) ≡ q) → each g (each2 f c d) ≡ d
  each2-second e =
      simp (
        e Float c.x d.x refl,
        e Float c.y d.y v.ey,
        e ℕ c.seen d.seen v.es,
        e ℕ c.id d.id v.ei,
        e ℕ c.parent d.parent v.ep,
        e ℕ c.num d.num v.en,
        e ℕ c.energy d.energy v.ew,
      )

-- columns as long as each other come out so
pub even-each : (f : (A : Type 0) → List A → List A) (g : ℕ → ℕ) (c : Cols) → ((A : Type 0) (l : List A) → length (f A l) ≡ g (length l))
    → Even c → Even (each f c)
even-each f g c e v =
    let by : (A : Type 0) (l : List A) → length l ≡ length c.x → length (f A l) ≡ length (f Float c.x) = λ A l q. e A l ∙ ap g q
    ∙ sym (e Float c.x) in
    record {
      ey = by Float c.y v.ey;
      es = by ℕ c.seen v.es;
      ei = by ℕ c.id v.ei;
      ep = by ℕ c.parent v.ep;
      en =
          by ℕ c.num v.en;
      ew = by ℕ c.energy v.ew;
    }

-- ---- the columns of the rows

get_d_any : {A : Type 0} (l : List A) (i : ℕ) (a b : A) → i < length l → get_or l i a ≡ get_or l i b
get_d_any [] i a b h = let z : ⊥ = omega arith in absurd z
get_d_any (k ∷ l) zero a b h = refl
get_d_any (k ∷ l) (suc i) a b h = get_d_any l i a b (omega arith)

-- a field of the rows is the column that stands for it
pub column : {B : Type 0} (f : Entry → B) (c : Cols) (l : List B) (d : B) → length l ≡ length c.x → ((i : ℕ) → f (row c i) ≡ get_or l i d)
    → map f (rows c) ≡ l
column f c l d e g =
    let n : length (map f (rows c)) ≡ length l = length-map (rows c) f ∙ rows-length c ∙ sym e in
    ext_get_or (f none) (map f (rows c)) l n
    (λ i h. let q : i < length l = omega (arith, n) in get_or-map f (rows c) i none ∙ ap f (rows-entry c i (omega (arith, e, q))) ∙ g i
    ∙ get_d_any l i d (f none) q)
