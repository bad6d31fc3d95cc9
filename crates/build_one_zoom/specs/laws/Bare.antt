-- Energies decide nothing: a zoom of a table without its energies is the zoom of the table, without them. Assumes nothing.
use Rattle.std.specs.Prelude.{◌≡◌, Bool, true, false, length, set, Float}
use Rattle.std.proofs.Math.Path.{refl, ap}
use Rattle.std.proofs.Common.{sym, ap₂, ◌∙◌, ltb-true, ltb-false}
use mathlib.Core.List.{List, [], ◌∷◌, ◌++◌, map}
use Prim.Native.Nat.{ℕ, zero, suc, ◌<◌}
use Rattle.std.proofs.Math.ListN.{get_or-map}
use Rattle.std.proofs.lemmas.List.{length-map}
use Rattle.build_tables.specs.declared.Entry.{Entry}
use Rattle.build_tables.specs.Entries.{Table, entry, none, unseen, marked, under}
use Rattle.build_tables.specs.Ids.{cluster_id}
use Rattle.build_one_zoom.specs.Zoom.{more_of, more, Absorbed, absorb_one, absorb, started, centre, Scan, made, made_at, copy_one}
use Rattle.build_one_zoom.specs.Zoom.{copy_all}
use Rattle.build_one_zoom.specs.Zoom.{left_at, enough, visit, mark_at, scan_one, scan_from, cluster}
use Rattle.build_one_zoom.specs.laws.Steps.{absorb_one-yes, absorb_one-no, copy_one-yes, copy_one-no, total_of}
use Rattle.build_one_zoom.specs.laws.Steps.{visit-made}
use Rattle.build_one_zoom.specs.laws.Steps.{visit-left, scan-seen, scan-visit}

-- without its energy
abbrev pub bare : Entry → Entry
bare e = record { x = e.x; y = e.y; seen = e.seen; id = e.id; parent = e.parent; num = e.num; energy = 0 }

abbrev pub bares : Table → Table
bares t = map bare t

bare-at : (t : Table) (k : ℕ) → entry (bares t) k ≡ bare (entry t k)
bare-at t k = get_or-map bare t k none

bare_set : (t : Table) (k : ℕ) (e : Entry) → set (bares t) k (bare e) ≡ bares (set t k e)
bare_set [] k e = refl
bare_set (a ∷ t) zero e = refl
bare_set (a ∷ t) (suc k) e = ap (λ (q : Table). bare a ∷ q) (bare_set t k e)

bare-append : (t : Table) (e : Entry) → bares t ++ (bare e ∷ []) ≡ bares (t ++ (e ∷ []))
bare-append [] e = refl
bare-append (a ∷ t) e = ap (λ (q : Table). bare a ∷ q) (bare-append t e)

more-bare : (z : ℕ) (t : Table) (l : List ℕ) → more z (bares t) l ≡ more z t l
unfolding more_of
more-bare z t [] = refl
more-bare z t (k ∷ ks) = rw (bare-at t k, more-bare z t ks)

-- ---- a cluster

abbrev bare_a : Absorbed → Absorbed
bare_a s = record { table = bares s.table; sx = s.sx; sy = s.sy; se = 0 }

absorb_one-bare : (z p : ℕ) (s : Absorbed) (k : ℕ) (b : Bool) → unseen z (entry s.table k) ≡ b
    → absorb_one z p (bare_a s) k ≡ bare_a (absorb_one z p s k)
absorb_one-bare z p s k true e =
    let t = s.table in
    absorb_one-yes z p (bare_a s) k (rw (bare-at t k) e)
    ∙ rw (bare-at t k) (rw (bare_set t k (under p (marked z (entry t k)))) (sym (ap bare_a (absorb_one-yes z p s k e))))
absorb_one-bare z p s k false e = absorb_one-no z p (bare_a s) k (rw (bare-at s.table k) e) ∙ sym (ap bare_a (absorb_one-no z p s k e))

absorb-bare : (z p : ℕ) (s : Absorbed) (l : List ℕ) → absorb z p (bare_a s) l ≡ bare_a (absorb z p s l)
unfolding absorb
absorb-bare z p s [] = refl
absorb-bare z p s (k ∷ ks) = ap (λ (q : Absorbed). absorb z p q ks) (absorb_one-bare z p s k _ refl) ∙ absorb-bare z p (absorb_one z p s k) ks

-- ---- a scan

abbrev pub bare_s : Scan → Scan
bare_s s = record { table = bares s.table; next = bares s.next }

made-bare : (n z i total : ℕ) (near : List ℕ) (s : Scan) → made_at n z i total near (bare_s s) ≡ bare_s (made_at n z i total near s)
made-bare n z i total near s =
    let p = cluster_id n z i in
    let st = started s.table (entry s.table i) in
    let f = absorb z p st near in
    let g : absorb z p (started (bares s.table) (entry (bares s.table) i)) near ≡ bare_a f =
    rw (bare-at s.table i) (absorb-bare z p st near) in
    ap (λ (q : Absorbed). made i q (bares s.next) p total) g
    ∙ ap₂ (λ (a b : Table). record { table = a; next = b })
    (rw (bare-at f.table i) (bare_set f.table i (under p (entry f.table i))))
    (bare-append s.next (centre f p total))

copy_one-bare : (z : ℕ) (s : Scan) (k : ℕ) (b : Bool) → unseen z (entry s.table k) ≡ b → copy_one z (bare_s s) k ≡ bare_s (copy_one z s k)
copy_one-bare z s k true e =
    let t = s.table in
    copy_one-yes z (bare_s s) k (rw (bare-at t k) e)
    ∙ rw (bare-at t k) (ap₂ (λ (a b : Table). record { table = a; next = b }) (bare_set t k (marked z (entry t k)))
    (bare-append s.next (marked z (entry t k))))
    ∙ sym (ap bare_s (copy_one-yes z s k e))
copy_one-bare z s k false e = copy_one-no z (bare_s s) k (rw (bare-at s.table k) e) ∙ sym (ap bare_s (copy_one-no z s k e))

copy_all-bare : (z : ℕ) (s : Scan) (l : List ℕ) → copy_all z (bare_s s) l ≡ bare_s (copy_all z s l)
unfolding copy_all
copy_all-bare z s [] = refl
copy_all-bare z s (k ∷ ks) = ap (λ (q : Scan). copy_all z q ks) (copy_one-bare z s k _ refl) ∙ copy_all-bare z (copy_one z s k) ks

left-bare : (z i : ℕ) (near : List ℕ) (s : Scan) → left_at z i near (bare_s s) ≡ bare_s (left_at z i near s)
left-bare z i near s =
    let e = entry s.table i in
    ap (λ (q : Table). copy_all z (record { table = bares s.table; next = q }) near)
    (ap (λ (v : Entry). bares s.next ++ (v ∷ [])) (bare-at s.table i) ∙ bare-append s.next e)
    ∙ copy_all-bare z (record { table = s.table; next = s.next ++ (e ∷ []) }) near

total-bare : (z : ℕ) (near : List ℕ) (i : ℕ) (t : Table) → total_of z near i (bares t) ≡ total_of z near i t
total-bare z near i t = rw (bare-at t i, more-bare z t near)

visit-bare : (n least z : ℕ) (near : List ℕ) (i : ℕ) (s : Scan) (b : Bool)
    → enough (entry s.table i).num (total_of z near i s.table) least ≡ b
    → visit n least z near i (bare_s s) ≡ bare_s (visit n least z near i s)
visit-bare n least z near i s true e =
    let t = s.table in
    visit-made n least z near i (bare_s s) (rw (bare-at t i) (rw (more-bare z t near) e))
    ∙ ap (λ (m : ℕ). made_at n z i m near (bare_s s)) (total-bare z near i t)
    ∙ made-bare n z i (total_of z near i t) near s
    ∙ sym (ap bare_s (visit-made n least z near i s e))
visit-bare n least z near i s false e =
    let t = s.table in
    visit-left n least z near i (bare_s s) (rw (bare-at t i) (rw (more-bare z t near) e)) ∙ left-bare z i near s
    ∙ sym (ap bare_s (visit-left n least z near i s e))

mark-bare : (z i : ℕ) (s : Scan) → mark_at z i (bare_s s) ≡ bare_s (mark_at z i s)
mark-bare z i s = ap (λ (q : Table). record { table = q; next = bares s.next })
    (rw (bare-at s.table i) (bare_set s.table i (marked z (entry s.table i))))

module _ (n least z : ℕ) (near : Float → Float → List ℕ) where
  one-bare : (s : Scan) (i : ℕ) (b : Bool) → unseen z (entry s.table i) ≡ b
      → scan_one n least z near (bare_s s) i ≡ bare_s (scan_one n least z near s i)
  one-bare s i true e =
      let v = entry s.table i in
      let u : z < v.seen = ltb-true z v.seen e in
      let c = near v.x v.y in
      scan-visit n least z near (bare_s s) i (rw (bare-at s.table i) u)
      ∙ ap (λ (w : Entry). visit n least z (near w.x w.y) i (mark_at z i (bare_s s))) (bare-at s.table i)
      ∙ ap (visit n least z c i) (mark-bare z i s)
      ∙ visit-bare n least z c i (mark_at z i s) _ refl
      ∙ sym (ap bare_s (scan-visit n least z near s i u))
  one-bare s i false e =
      let h = ltb-false z (entry s.table i).seen e in
      scan-seen n least z near (bare_s s) i (rw (bare-at s.table i) h) ∙ sym (ap bare_s (scan-seen n least z near s i h))

  from-bare : (s : Scan) (i k : ℕ) → scan_from n least z near (bare_s s) i k ≡ bare_s (scan_from n least z near s i k)
  unfolding scan_from
  from-bare s i zero = refl
  from-bare s i (suc k) = ap (λ (q : Scan). scan_from n least z near q (suc i) k) (one-bare s i _ refl)
      ∙ from-bare (scan_one n least z near s i) (suc i) k

  pub cluster-bare : (t : Table) → cluster n least z near (bares t) ≡ bare_s (cluster n least z near t)
  unfolding cluster
  cluster-bare t = ap (scan_from n least z near (record { table = bares t; next = [] }) 0) (length-map t bare)
      ∙ from-bare (record { table = t; next = [] }) 0 (length t)
