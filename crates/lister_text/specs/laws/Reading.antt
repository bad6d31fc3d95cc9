-- A line is read if and only if it stands there: number-ends and line-ends say what was read, number_read and line_read that it is read.
-- Assumes nothing.
use Rattle.std.specs.Prelude.{Bool, false, cond, ◌≡◌, ℕ, zero, suc, ◌+◌, ◌-◌, ◌*◌, ◌/◌, ◌%◌, ◌^◌, ◌<◌, ◌≤◌, ltb, leb, eqb, Option, Some, None, ◌&&◌}
use Rattle.std.specs.Char.{is_ascii_digit}
use Rattle.std.specs.List.{starts_with}
use Rattle.std.proofs.lemmas.Bool.{false≢true}
use Rattle.std.proofs.lemmas.Option.{some_pair_parts}
use Rattle.std.proofs.lemmas.Slice.Eq.{starts_is}
use Rattle.std.proofs.lemmas.Bool.Decides.{Decides-eqb}
use Rattle.std.proofs.Math.Bool.{true}
use mathlib.Core.List.{List, [], ◌∷◌, ◌++◌, append_assoc}
use Rattle.std.proofs.Math.Path.{refl, ap, sym}
use Rattle.std.proofs.Common.{◌∙◌, pow-suc, length-drop, drop-drop}
use native.Mathlib.Omega.{arith}
use borrow.Author.Tests.{le-ltb, ne_eqb, ltb-true, ltb-false, eqb-true, leb-true, le-leb}
use Rattle.std.proofs.Math.ListN.{length, drop, length-append}
use Rattle.std.proofs.Math.Seq.{drop-append_seam}
use Rattle.lister_text.specs.Digits.{decimal_of}
use Rattle.lister_text.specs.laws.Digits.{one-digit, more-digits}
use Rattle.lister_text.specs.laws.Scan.{more_text, number_of, at_most, line_of}
use Rattle.lister_text.specs.Text.{line}

-- ---- digits

bad-not : {v n : ℕ} → ◌≡◌ {A = Option (ℕ × ℕ)} None (Some (v, n)) → ⊥
bad-not e = let z : ◌≡◌ {A = ℕ} 0 1 = cc in omega arith

cond-else : (b : Bool) (x : Option (ℕ × ℕ)) {v n : ℕ} → cond b x None ≡ Some (v, n) → (b ≡ true) × (x ≡ Some (v, n))
cond-else true x e = (refl, e)
cond-else false x e = absurd (bad-not e)

-- a digit is from 48 to 57
both : (a b : Bool) → (a && b) ≡ true → (a ≡ true) × (b ≡ true)
both true b e = (refl, e)
both false b e = absurd (false≢true e)

pub digit : (c : ℕ) → is_ascii_digit c ≡ true → (48 ≤ c) × (c ≤ 57)
digit c e = let b = both (leb 48 c) (leb c 57) e in (leb-true 48 c b.0, leb-true c 57 b.1)

is-digit : (d : ℕ) → d < 10 → is_ascii_digit (48 + d) ≡ true
is-digit d h = simp (le-leb 48 (48 + d) (omega arith), le-leb (48 + d) 57 (omega arith))

cond-bad : (b : Bool) (x : Option (ℕ × ℕ)) {v n : ℕ} → cond b None x ≡ Some (v, n) → (b ≡ false) × (x ≡ Some (v, n))
cond-bad true x e = absurd (bad-not e)
cond-bad false x e = (refl, e)

tenth : (k n : ℕ) → n < 10 ^ suc (suc k) → n / 10 < 10 ^ suc k
tenth k n h = let e : 10 ^ suc (suc k) ≡ 10 ^ suc k * 10 = pow-suc 10 (suc k) in omega (arith, e)

fuel-by : (k n : ℕ) → decimal_of (suc k) (n / 10) ≡ decimal_of (suc (suc k)) (n / 10) → (b : Bool) → ltb n 10 ≡ b
    → decimal_of (suc (suc k)) n ≡ decimal_of (suc (suc (suc k))) n
fuel-by k n ih true e = one-digit (suc k) n (ltb-true n 10 e) ∙ sym (one-digit (suc (suc k)) n (ltb-true n 10 e))
fuel-by k n ih false e =
    more-digits (suc k) n (ltb-false n 10 e) ∙ ap (λ (l : List ℕ). l ++ ((48 + n % 10) ∷ [])) ih
    ∙ sym (more-digits (suc (suc k)) n (ltb-false n 10 e))

fuel : (k n : ℕ) → n < 10 ^ suc k → decimal_of (suc k) n ≡ decimal_of (suc (suc k)) n
fuel zero n h = one-digit zero n (omega arith) ∙ sym (one-digit (suc zero) n (omega arith))
fuel (suc k) n h = fuel-by k n (fuel k (n / 10) (tenth k n h)) (ltb n 10) refl

append-digit : (w d : ℕ) → 1 ≤ w → w ≤ 999999 → d < 10 → decimal_of 7 (w * 10 + d) ≡ decimal_of 7 w ++ ((48 + d) ∷ [])
append-digit w d h l e =
    let q : (w * 10 + d) / 10 ≡ w = omega arith in
    let m : (w * 10 + d) % 10 ≡ d = omega arith in
    more-digits 6 (w * 10 + d) (omega arith)
    ∙ ap (λ (k : ℕ). decimal_of 6 k ++ ((48 + (w * 10 + d) % 10) ∷ [])) q
    ∙ ap (λ (k : ℕ). decimal_of 6 w ++ ((48 + k) ∷ [])) m
    ∙ ap (λ (l : List ℕ). l ++ ((48 + d) ∷ [])) (fuel 5 w (omega arith))

-- ---- what is read is what stands there

-- `whole` is v's digits, a line's end and `rest`, and the place n leaves `rest` of what ends at `len`
pub record Ends (whole : List ℕ) (len v : ℕ) (n : ℕ) : Type 0 where
  pub rest : List ℕ
  pub is : whole ≡ decimal_of 7 v ++ (10 ∷ rest)
  pub past : n + length rest ≡ len
  pub small : v ≤ 9999999

module _ (c : ℕ) (l : List ℕ) (w at v : ℕ) (n : ℕ) (h : w ≤ 9999999) where
  more-step : ((w' : ℕ) → w' ≤ 9999999 → more_text w' (at + 1) l ≡ Some (v, n) → Ends (decimal_of 7 w' ++ l) (at + 1 + length l) v n)
      → (b : Bool) → eqb c 10 ≡ b
      → cond b (Some (w, at + 1))
      (cond (is_ascii_digit c)
      (cond (ltb w 1) None (cond (ltb 999999 w) None (more_text (w * 10 + (c - 48)) (at + 1) l))) None) ≡ Some (v, n)
      → Ends (decimal_of 7 w ++ (c ∷ l)) (at + length (c ∷ l)) v n
  more-step ih true q e =
      let ten : c ≡ 10 = eqb-true c 10 q in
      let parts = some_pair_parts w v (at + 1) n e in
      let same : w ≡ v = parts.0 in
      let place : at + 1 ≡ n = parts.1 in
      record {
        rest = l;
        is = ap (λ (k : ℕ). decimal_of 7 w ++ (k ∷ l)) ten ∙ ap (λ (k : ℕ). decimal_of 7 k ++ (10 ∷ l)) same;
        past =
            omega arith;
        small = omega arith;
      }
  more-step ih false q e =
      let a = cond-else (is_ascii_digit c) _ e in
      let d = cond-bad (ltb w 1) _ a.1 in
      let f = cond-bad (ltb 999999 w) _ d.1 in
      let lo = digit c a.0 in
      let some : 1 ≤ w = ltb-false w 1 d.0 in
      let few : w ≤ 999999 = ltb-false 999999 w f.0 in
      let r = ih (w * 10 + (c - 48)) (omega arith) f.1 in
      let back : 48 + (c - 48) ≡ c = omega arith in
      record {
        rest = r.rest;
        is = ap (λ (k : ℕ). decimal_of 7 w ++ (k ∷ l)) (sym back) ∙ sym (append_assoc (decimal_of 7 w) ((48 + (c - 48)) ∷ []) l)
            ∙ ap (λ (m : List ℕ). m ++ l) (sym (append-digit w (c - 48) some few (omega arith))) ∙ r.is;
        past = omega (arith, r.past);
        small = r.small;
      }

more-ends : (l : List ℕ) (w at v : ℕ) (n : ℕ) → w ≤ 9999999 → more_text w at l ≡ Some (v, n)
    → Ends (decimal_of 7 w ++ l) (at + length l) v n
unfolding more_text
more-ends [] w at v n h e = absurd (bad-not e)
more-ends (c ∷ l) w at v n h e = more-step c l w at v n h (λ w' h' e'. more-ends l w' (at + 1) v n h' e') (eqb c 10) refl e

pub number-ends : (l : List ℕ) (at v : ℕ) (n : ℕ) → number_of at l ≡ Some (v, n) → Ends l (at + length l) v n
unfolding number_of
number-ends [] at v n e = absurd (bad-not e)
number-ends (c ∷ l) at v n e =
    let a = cond-else (is_ascii_digit c) _ e in
    let lo = digit c a.0 in
    let r = more-ends l (c - 48) (at + 1) v n (omega arith) a.1 in
    let back : 48 + (c - 48) ≡ c = omega arith in
    record {
      rest = r.rest;
      is = ap (λ (k : ℕ). k ∷ l) (sym back) ∙ ap (λ (m : List ℕ). m ++ l) (sym (one-digit 6 (c - 48) (omega arith))) ∙ r.is;
      past = omega (arith, r.past);
      small = r.small;
    }

-- ---- what stands there is read

module _ (at n : ℕ) (t : List ℕ) where
  read_one : n < 10 → number_of at ((48 + n) ∷ t) ≡ more_text n (at + 1) t
  unfolding number_of
  read_one h =
      let e : 48 + n - 48 ≡ n = omega arith in
      simp (is-digit n h, e)

  read_next : (d : ℕ) → d < 10 → 1 ≤ n → n ≤ 999999 → more_text n at ((48 + d) ∷ t) ≡ more_text (n * 10 + d) (at + 1) t
  unfolding more_text
  read_next d h l m =
      let e : 48 + d - 48 ≡ d = omega arith in
      let k : 48 + d ≡ 10 → ⊥ = λ q. omega arith in
      simp (ne_eqb (48 + d) 10 k, is-digit d h, le-ltb n 1 l, le-ltb 999999 n m, e)

module _ (k at n : ℕ) (t : List ℕ) (l : n ≤ 9999999) where
  read_by : ((u : List ℕ) → number_of at (decimal_of (suc k) (n / 10) ++ u) ≡ more_text (n / 10) (at + length (decimal_of (suc k) (n / 10))) u)
      → (b : Bool) → ltb n 10 ≡ b → number_of at (decimal_of (suc (suc k)) n ++ t) ≡ more_text n (at + length (decimal_of (suc (suc k)) n)) t
  read_by ih true e = rw (one-digit (suc k) n (ltb-true n 10 e)) (read_one at n t (ltb-true n 10 e))
  read_by ih false e =
      let ten : 10 ≤ n = ltb-false n 10 e in
      let q : n / 10 * 10 + n % 10 ≡ n = omega arith in
      let p : at + length (decimal_of (suc k) (n / 10)) + 1 ≡ at + length (decimal_of (suc k) (n / 10) ++ ((48 + n % 10) ∷ [])) =
      omega (arith, length-append (decimal_of (suc k) (n / 10)) ((48 + n % 10) ∷ [])) in
      rw (more-digits (suc k) n ten)
      (ap (λ (m : List ℕ). number_of at m) (append_assoc (decimal_of (suc k) (n / 10)) ((48 + n % 10) ∷ []) t)
      ∙ ih ((48 + n % 10) ∷ t)
      ∙ read_next (at + length (decimal_of (suc k) (n / 10))) (n / 10) t (n % 10) (omega arith) (omega arith) (omega arith)
      ∙ ap (λ (m : ℕ). more_text m (at + length (decimal_of (suc k) (n / 10)) + 1) t) q
      ∙ ap (λ (m : ℕ). more_text n m t) p)

read_all : (k at n : ℕ) (t : List ℕ) → n < 10 ^ suc k → n ≤ 9999999
    → number_of at (decimal_of (suc k) n ++ t) ≡ more_text n (at + length (decimal_of (suc k) n)) t
read_all zero at n t h l = rw (one-digit zero n (omega arith)) (read_one at n t (omega arith))
read_all (suc k) at n t h l = read_by k at n t l (λ u. read_all k at (n / 10) u (tenth k n h) (omega arith)) (ltb n 10) refl

pub number_read : (at n : ℕ) (t : List ℕ) → n ≤ 9999999
    → number_of at (decimal_of 7 n ++ (10 ∷ t)) ≡ Some (n, at + length (decimal_of 7 n) + 1)
unfolding more_text
number_read at n t h = read_all 6 at n (10 ∷ t) (omega arith) h

-- ---- lines

starts-text : (key r : List ℕ) → starts_with eqb (key ++ r) key ≡ true
starts-text key r = (starts_is Decides-eqb (key ++ r) key (starts_with eqb (key ++ r) key) refl).1 r refl

text-starts : (key l : List ℕ) → starts_with eqb l key ≡ true → l ≡ key ++ drop (length key) l
text-starts key l e = (starts_is Decides-eqb l key (starts_with eqb l key) refl).0 e

regroup : (key d rest : List ℕ) → key ++ (d ++ (10 ∷ [])) ++ rest ≡ key ++ (d ++ (10 ∷ rest))
regroup key d rest = simp append_assoc

pub line-length : (key : List ℕ) (v : ℕ) → length (line key v) ≡ length key + length (decimal_of 7 v) + 1
unfolding line
line-length key v = omega (arith, length-append key (decimal_of 7 v ++ (10 ∷ [])), length-append (decimal_of 7 v) (10 ∷ []))

-- what follows a part that stands at `at`, and that it ends within the text
pub after : (s : List ℕ) (at : ℕ) (a rest : List ℕ) → drop at s ≡ a ++ rest → drop (at + length a) s ≡ rest
after s at a rest e = sym (drop-drop (length a) at s) ∙ ap (λ (l : List ℕ). drop (length a) l) e ∙ drop-append_seam a rest

pub within : (s : List ℕ) (at : ℕ) (a rest : List ℕ) → at ≤ length s → drop at s ≡ a ++ rest → at + length a ≤ length s
within s at a rest h e =
    let q : length s - at ≡ length a + length rest = sym (length-drop at s) ∙ ap length e ∙ length-append a rest in
    omega arith

module _ (s : List ℕ) (at : ℕ) (key : List ℕ) (max v : ℕ) where
  pub line_read : (rest : List ℕ) → at ≤ length s → drop at s ≡ line key v ++ rest → v ≤ max → v ≤ 9999999
      → line_of s at key max ≡ Some (v, at + length (line key v))
  unfolding line_of at_most line
  line_read rest h e m l =
      let e' : drop at s ≡ key ++ (decimal_of 7 v ++ (10 ∷ rest)) = e ∙ regroup key (decimal_of 7 v) rest in
      let st : starts_with eqb (drop at s) key ≡ true = ap (λ (u : List ℕ). starts_with eqb u key) e' ∙ starts-text key _ in
      let nm : number_of (at + length key) (drop (at + length key) s)
      ≡ Some (v, at + length key + length (decimal_of 7 v) + 1) =
      ap (λ (u : List ℕ). number_of (at + length key) u) (after s at key _ e') ∙ number_read (at + length key) v rest l in
      let p : at + length key + length (decimal_of 7 v) + 1 ≡ at + length (line key v) = omega (arith, line-length key v) in
      simp (le-ltb (length s) at h, st, nm, le-leb v max m) (ap (λ (k : ℕ). Some (v, k)) p)

  -- what a line that was read is
  pub record Line (n : ℕ) : Type 0 where
    pub is : drop at s ≡ line key v ++ drop n s
    pub past : n ≡ at + length (line key v)
    pub most : v ≤ max
    pub small : v ≤ 9999999
    pub from : at ≤ length s
    pub upto : n ≤ length s

  at-most-by : (w : ℕ) (m n : ℕ) (b : Bool) → leb w max ≡ b
      → cond {A = Option (ℕ × ℕ)} b (Some (w, m)) None ≡ Some (v, n) → (◌≡◌ {A = Option (ℕ × ℕ)} (Some (w, m)) (Some (v, n)))
      × (v ≤ max)
  at-most-by w m n true q e = let same : w ≡ v = (some_pair_parts w v m n e).0 in (e, omega (arith, leb-true w max q))
  at-most-by w m n false q e = absurd (bad-not e)

  at-most : (x : Option (ℕ × ℕ)) (n : ℕ) → at_most max x ≡ Some (v, n) → (x ≡ Some (v, n)) × (v ≤ max)
  unfolding at_most
  at-most (Some p) n e = at-most-by p.0 p.1 n (leb p.0 max) refl e
  at-most None n e = absurd (bad-not e)

  pub line-ends : (n : ℕ) → line_of s at key max ≡ Some (v, n) → Line n
  unfolding line_of line
  line-ends n e =
      let a = cond-bad (ltb (length s) at) _ e in
      let b = cond-else (starts_with eqb (drop at s) key) _ a.1 in
      let m = at-most (number_of (at + length key) (drop (at + length key) s)) n b.1 in
      let r = number-ends (drop (at + length key) s) (at + length key) v n m.0 in
      let from : at ≤ length s = ltb-false (length s) at a.0 in
      let whole : drop at s ≡ key ++ (decimal_of 7 v ++ (10 ∷ [])) ++ r.rest =
      text-starts key (drop at s) b.0 ∙ ap (λ (l : List ℕ). key ++ l) (drop-drop (length key) at s ∙ r.is)
      ∙ sym (regroup key (decimal_of 7 v) r.rest) in
      let len : length (drop (at + length key) s) ≡ length (decimal_of 7 v) + (length r.rest + 1) = ap length r.is
      ∙ length-append (decimal_of 7 v) (10 ∷ r.rest) ∙ omega arith in
      let past : n ≡ at + length (line key v) = omega (arith, r.past, len, line-length key v) in
      let all : length s - at ≡ length (line key v) + length r.rest = sym (length-drop at s) ∙ ap length whole
      ∙ length-append (line key v) r.rest in
      let rest : drop n s ≡ r.rest = ap (λ (k : ℕ). drop k s) past ∙ after s at (line key v) r.rest whole in
      record {
        is = whole ∙ ap (λ (l : List ℕ). line key v ++ l) (sym rest);
        past = past;
        most = m.1;
        small = r.small;
        from = from;
        upto =
            omega arith;
      }
