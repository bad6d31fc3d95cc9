-- An entry of the columns is marked and then visited: what the visit asks holds, and what it leaves is the definition's scan of the
-- entry. One that was seen is passed by. Assumes nothing.
use Rattle.std.specs.Prelude.{◌≡◌, refl, List, ℕ, ◌+◌, ◌<◌, ◌≤◌, length, set, drop, take, Float}
use Rattle.std.proofs.Common.{ap, sym, ◌∙◌, arith, le_refl, length-set, length-take-le, get_or-take, get_or-set_same, drop-set-lt}
use Rattle.std.proofs.Math.Seq.{take-set-lt}
use Rattle.kdslots.specs.laws.All.{AllBelow}
use Rattle.kdslots.specs.laws.Members.{Distinct}
use Rattle.build_tables.specs.declared.Entry.{Entry}
use Rattle.build_tables.specs.Entries.{Table, entry, none, marked}
use Rattle.build_one_zoom.specs.Scanned.{scan_of, Scanned, unseen_count, unseen_of}
use Rattle.build_one_zoom.specs.Zoom.{more_of, visit, mark_at, scan_one}
use Rattle.build_one_zoom.specs.laws.Steps.{scan-seen, scan-visit}
use Rattle.build_one_zoom.specs.laws.Unseen.{unseen_count-mark, unseen_of-mark, more-le, more-take}

-- ---- the entry i is marked

module _ (t : Table) (len d z i : ℕ) (hi : i < len) where
  abbrev pub marking : Table
  marking = set t i (marked z (entry t i))

  -- in the scan, and past the table
  mark-scan : scan_of len d marking ≡ mark_at z i (scan_of len d t)
  mark-scan = simp (take-set-lt len t i (marked z (entry t i)) hi, drop-set-lt len t i (marked z (entry t i)) hi, get_or-take len t i none hi)

  mark-rest : (r : ℕ) → drop (len + r) marking ≡ drop (len + r) t
  mark-rest r = drop-set-lt (len + r) t i (marked z (entry t i)) (omega arith)

-- ---- what the visit asks: room for one entry and for each that is unseen, and a total that fits

module _ (t : Table) (len d z i : ℕ) (hi : i < len) (hl : len ≤ length t) (u : z < (entry t i).seen) where
  -- the table with the mark
  taken : take len (marking t len d z i hi) ≡ set (take len t) i (marked z (entry t i))
  taken = take-set-lt len t i (marked z (entry t i)) hi

  inside : i < length (take len t)
  inside = rw (length-take-le len t hl) hi

  unseen-at : z < (entry (take len t) i).seen
  unseen-at = rw (get_or-take len t i none hi) u

  -- the entry that is marked is one less of the unseen, and one more to make
  pub marked-room : (m : ℕ) → len + d + unseen_count z (take len t) ≤ m → len + d + 1 + unseen_count z (take len (marking t len d z i hi)) ≤ m
  marked-room m h =
      let f = unseen_count-mark z (take len t) i (marked z (entry t i)) inside unseen-at (le_refl z) in
      rw taken (omega (arith, f, h))

  -- its total is at most what was unseen before the mark
  pub marked-sum : (f : Entry → ℕ) (m : ℕ) (l : List ℕ) → AllBelow len l → Distinct l → unseen_of f z (take len t) < m
      → f (entry t i) + more_of f z (take len (marking t len d z i hi)) l < m
  marked-sum g m l b o h =
      let q = set (take len t) i (marked z (entry t i)) in
      let f = unseen_of-mark g z (take len t) i (marked z (entry t i)) inside unseen-at (le_refl z) in
      let lq : length q ≡ len = length-set (take len t) i (marked z (entry t i)) ∙ length-take-le len t hl in
      let j = more-le g z q l (rw lq b) o in
      let k : g (entry (take len t) i) ≡ g (entry t i) = rw (get_or-take len t i none hi) in
      rw taken (omega (arith, f, j, h, k))

  -- the same, of the columns: what the entry carries and its unseen neighbours
  pub marked-fits : (f : Entry → ℕ) → ((e : Entry) (q : ℕ) → f (marked q e) ≡ f e)
      → (m : ℕ) (l : List ℕ) → AllBelow len l → Distinct l → unseen_of f z (take len t) < m
      → f (entry (marking t len d z i hi) i) + more_of f z (marking t len d z i hi) l < m
  marked-fits f g m l b o h =
      let q = marking t len d z i hi in
      let lq : len ≤ length q = omega (arith, length-set t i (marked z (entry t i)), hl) in
      let li : i < length t = omega arith in
      let e : f (entry q i) ≡ f (entry t i) = ap f (get_or-set_same t i (marked z (entry t i)) none li) ∙ g (entry t i) z in
      omega (arith, e, more-take f z len q l b lq, marked-sum f m l b o h)

-- ---- the scan of i, from the visit of the marked table

module _ (n least z : ℕ) (near : Float → Float → List ℕ) (t : Table) (len d i : ℕ) (hi : i < len) where
  pub scanned : z < (entry t i).seen → (t' : Table) (r : ℕ)
      → Scanned len d (visit n least z (near (entry t i).x (entry t i).y) i (scan_of len d (marking t len d z i hi)))
      (marking t len d z i hi) t' r
      → Scanned len d (scan_one n least z near (scan_of len d t) i) t t' r
  scanned u t' r v =
      let w : z < (entry (take len t) i).seen = rw (get_or-take len t i none hi) u in
      record {
        scan = v.scan ∙ rw (mark-scan t len d z i hi)
            (sym (scan-visit n least z near (scan_of len d t) i w ∙ rw (get_or-take len t i none hi)));
        rest = v.rest ∙ mark-rest t len d z i hi r;
        grown = v.grown;
        fits = v.fits;
      }

  pub passed : (entry t i).seen ≤ z → len + d ≤ length t → Scanned len d (scan_one n least z near (scan_of len d t) i) t t d
  passed u h =
      let w : (entry (take len t) i).seen ≤ z = rw (get_or-take len t i none hi) u in
      record { scan = sym (scan-seen n least z near (scan_of len d t) i w); rest = refl; grown = le_refl d; fits = h }
