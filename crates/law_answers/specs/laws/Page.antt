-- A page of a list of lamps: after the first `offset`, up to `limit` of them. What a walk has skipped and listed after a list of lamps,
-- and after two one after the other. Assumes nothing.
use Rattle.std.specs.Prelude.{◌≡◌, List, [], ◌∷◌, ◌++◌, ℕ, zero, suc, ◌+◌, ◌-◌, ◌<◌, ◌≤◌, min, length, take, drop}
use Rattle.std.proofs.Common.{ap, ap₂, sym, ◌∙◌, ⊎_elim, append-nil, append_assoc, arith, length-append, length-drop, drop_of_length-le}
use Rattle.std.proofs.lemmas.List.{drop-append-le}
use Rattle.std.proofs.Math.Seq.{drop-append-add, take-nil, drop-nil}
use Rattle.law_groups.specs.laws.Sums.{below}
use Rattle.ask_cluster.specs.Leaves.{Trip, went}

take-over : {A : Type 0} (a : ℕ) (D E : List A) → take a (D ++ E) ≡ take a D ++ take (a - length D) E
take-over a [] E = ap₂ (λ (x y : List _). x ++ y) (sym (take-nil a)) (let e : a ≡ a - 0 = omega arith in ap (λ (n : ℕ). take n E) e)
take-over zero (d ∷ D) E = let e : 0 ≡ 0 - length (d ∷ D) = omega arith in ap (λ (n : ℕ). take n E) e
take-over (suc a) (d ∷ D) E =
    let e : a - length D ≡ suc a - length (d ∷ D) = omega arith in
    ap (λ (q : List _). d ∷ q) (take-over a D E ∙ ap (λ (n : ℕ). take a D ++ take n E) e)

take-few : {A : Type 0} (a : ℕ) (D : List A) → length (take a D) ≡ min a (length D)
take-few zero D = omega arith
take-few (suc a) [] = omega arith
take-few (suc a) (d ∷ D) = let e = take-few a D in omega arith

left : (m o d v : ℕ) → v ≡ o + min (m - o) d → m - v ≡ m - o - d
left m o d v h = omega arith

module _ (limit offset : ℕ) where
  -- how many are skipped, n before, and what is listed, out before, after the lamps ls
  abbrev pub skipped_by : ℕ → List ℕ → ℕ
  skipped_by n ls = min offset (n + length ls)

  abbrev pub listed_by : ℕ → List ℕ → List ℕ → List ℕ
  listed_by n out ls = out ++ take (limit - length out) (drop (offset - n) ls)

  -- as what a walk leaves
  abbrev pub paged : ℕ → List ℕ → List ℕ → Trip
  paged n out ls = went (skipped_by n ls) (listed_by n out ls)

  -- a walk that goes on: the limit is not reached, and nothing is listed before all that is to be skipped is skipped
  pub record Going (n : ℕ) (out : List ℕ) : Type 0 where
    pub few : length out < limit
    pub most : n ≤ offset
    pub begun : 0 < length out → n ≡ offset

  -- ---- laws

  listed-long : (n : ℕ) (out ls : List ℕ) → length (listed_by n out ls) ≡ length out + min (limit - length out) (length ls - (offset - n))
  listed-long n out ls =
      let a = length-append out (take (limit - length out) (drop (offset - n) ls)) in
      let b = take-few (limit - length out) (drop (offset - n) ls) in
      let c = length-drop (offset - n) ls in
      a ∙ ap (λ (q : ℕ). length out + q) (b ∙ ap (min (limit - length out)) c)

  -- never more than the limit, nor than there are
  pub listed-few : (n : ℕ) (out ls : List ℕ) → length out ≤ limit → length (listed_by n out ls) ≤ limit
  listed-few n out ls h = let a = listed-long n out ls in omega arith

  pub listed-most : (n : ℕ) (out ls : List ℕ) → length (listed_by n out ls) ≤ length out + length ls
  listed-most n out ls = let a = listed-long n out ls in omega arith

  pub listed-begun : (n : ℕ) (out ls : List ℕ) → Going n out → 0 < length (listed_by n out ls) → skipped_by n ls ≡ offset
  listed-begun n out ls g h = ⊎_elim old new (below 0 (length out))
    where
      old : 0 < length out → skipped_by n ls ≡ offset
      old w = let e = g.begun w in omega arith

      new : length out ≤ 0 → skipped_by n ls ≡ offset
      new w = let a = listed-long n out ls in let m = g.most in omega arith

  -- after no lamps
  pub paged-none : (n : ℕ) (out : List ℕ) → n ≤ offset → paged n out [] ≡ went n out
  paged-none n out h =
      let e : min offset (n + 0) ≡ n = omega arith in
      ap₂ went e (ap (λ (q : List ℕ). out ++ take (limit - length out) q) (drop-nil (offset - n))
      ∙ ap (λ (q : List ℕ). out ++ q) (take-nil (limit - length out)) ∙ append-nil out)

  skipped-more : (n : ℕ) (ls ms : List ℕ) → skipped_by (skipped_by n ls) ms ≡ skipped_by n (ls ++ ms)
  skipped-more n ls ms = let e = length-append ls ms in omega arith

  listed_more : (n : ℕ) (out ls ms : List ℕ) → n ≤ offset → listed_by (skipped_by n ls) (listed_by n out ls) ms ≡ listed_by n out (ls ++ ms)
  listed_more n out ls ms h = ⊎_elim short long (below (offset - n) (length ls))
    where
      a : ℕ
      a = limit - length out

      -- some of the first are listed
      short : offset - n < length ls → listed_by (skipped_by n ls) (listed_by n out ls) ms ≡ listed_by n out (ls ++ ms)
      short w =
          let D = drop (offset - n) ls in
          let z : offset - skipped_by n ls ≡ 0 = omega arith in
          let k = left limit (length out) (length D) (length (listed_by n out ls))
          (length-append out (take a D) ∙ ap (λ (q : ℕ). length out + q) (take-few a D)) in
          ap₂ (λ (u v : ℕ). listed_by n out ls ++ take u (drop v ms)) k z
          ∙ append_assoc out (take a D) (take (a - length D) ms)
          ∙ ap (λ (q : List ℕ). out ++ q) (sym (take-over a D ms) ∙ ap (take a) (sym (drop-append-le (offset - n) ls ms (omega arith))))

      -- none of the first is listed
      long : length ls ≤ offset - n → listed_by (skipped_by n ls) (listed_by n out ls) ms ≡ listed_by n out (ls ++ ms)
      long w =
          let none : drop (offset - n) ls ≡ [] = drop_of_length-le ls w in
          let same : listed_by n out ls ≡ out = ap (λ (q : List ℕ). out ++ take a q) none ∙ ap (λ (q : List ℕ). out ++ q) (take-nil a)
          ∙ append-nil out in
          let z : offset - skipped_by n ls ≡ offset - n - length ls = omega arith in
          let k : offset - n ≡ length ls + (offset - n - length ls) = omega arith in
          ap₂ (λ (o : List ℕ) (v : ℕ). o ++ take (limit - length o) (drop v ms)) same z
          ∙ ap (λ (q : List ℕ). out ++ take a q)
          (sym (ap (λ (v : ℕ). drop v (ls ++ ms)) k ∙ drop-append-add ls ms (offset - n - length ls)))

  -- after some lamps, and then more
  pub paged-more : (n : ℕ) (out ls ms : List ℕ) → n ≤ offset → paged (skipped_by n ls) (listed_by n out ls) ms ≡ paged n out (ls ++ ms)
  paged-more n out ls ms h = ap₂ went (skipped-more n ls ms) (listed_more n out ls ms h)

  -- where the limit is reached after some lamps, more change nothing
  pub paged-full : (n : ℕ) (out ls ms : List ℕ) → Going n out → length (listed_by n out ls) ≡ limit → paged n out ls ≡ paged n out (ls ++ ms)
  paged-full n out ls ms g e =
      let f = g.few in
      let b = listed-begun n out ls g (omega arith) in
      let s : skipped_by n ls ≡ skipped_by (skipped_by n ls) ms = omega arith in
      let z : limit - length (listed_by n out ls) ≡ 0 = omega arith in
      let o : listed_by n out ls ≡ listed_by (skipped_by n ls) (listed_by n out ls) ms =
      sym (ap (λ (v : ℕ). listed_by n out ls ++ take v (drop (offset - skipped_by n ls) ms)) z ∙ append-nil (listed_by n out ls)) in
      ap₂ went s o ∙ paged-more n out ls ms g.most

  -- otherwise the walk goes on
  pub paged-going : (n : ℕ) (out ls : List ℕ) → Going n out → (length (listed_by n out ls) ≡ limit → ⊥)
      → Going (skipped_by n ls) (listed_by n out ls)
  paged-going n out ls g e =
      let f = g.few in
      let m = listed-few n out ls (omega arith) in
      record { few = not_equal (length (listed_by n out ls)) m e; most = omega arith; begun = λ h. listed-begun n out ls g h }
    where
      not_equal : (v : ℕ) → v ≤ limit → (v ≡ limit → ⊥) → v < limit
      not_equal v h k = ⊎_elim (λ w. w) (λ w. absurd (k (omega arith))) (below v limit)
