-- What it is to store bytes in a buffer, and to store a text part by part. Assumes nothing.
use Rattle.std.specs.Prelude.{List, [], ◌∷◌, ◌++◌, ◌≡◌, refl, ℕ, suc, ◌+◌, ◌≤◌, length, set, drop}
use Rattle.std.proofs.Common.{ap, sym, ◌∙◌, add-zero, zero-add, add-suc, suc-add, arith, length-append}
use Rattle.std.proofs.lemmas.List.Edits.{sets, sets-eq}
use Rattle.build_all_zooms.specs.Zooms.{laid_over}
use Rattle.lister_report.specs.declared.Writer.{Writer}

-- w' is w once it has written bs, which are at most `most` bytes
pub record Put (w w' : Writer) (bs : List ℕ) (most : ℕ) : Type 0 where
  pub stored : w'.out.now ≡ sets w.out.now w.at bs
  pub past : w'.at ≡ w.at + length bs
  pub near : w'.at ≤ w.at + most
  pub kept : length w'.out.now ≡ length w.out.now
  pub same : w'.out.ghost_name ≡ w.out.ghost_name

pub sets-append : (xs ys l : List ℕ) (i : ℕ) → sets (sets l i xs) (i + length xs) ys ≡ sets l i (xs ++ ys)
sets-append [] ys l i = rw add-zero
sets-append (a ∷ xs) ys l i = rw (add-suc, ← suc-add) (sets-append xs ys (set l i a) (suc i))

pub put-more : {w v u : Writer} {xs ys : List ℕ} {m n : ℕ} → Put w v xs m → Put v u ys n → Put w u (xs ++ ys) (m + n)
put-more {w} {v} {u} {xs} {ys} a b = record {
  stored = b.stored ∙ ap (λ (q : ℕ). sets v.out.now q ys) a.past ∙ ap (λ (l : List ℕ). sets l (w.at + length xs) ys) a.stored
      ∙ sets-append xs ys w.out.now w.at;
  past = omega (arith, length-append xs ys, a.past, b.past);
  near = omega (arith, a.near, b.near);
  kept = b.kept ∙ a.kept;
  same = b.same ∙ a.same;
}

pub put-none : (w : Writer) (m : ℕ) → Put w w [] m
put-none w m = record { stored = refl; past = rw add-zero; near = omega arith; kept = refl; same = refl }

pub put-near : {w v : Writer} {bs : List ℕ} {m n : ℕ} → m ≤ n → Put w v bs m → Put w v bs n
put-near h p = record { stored = p.stored; past = p.past; near = omega (arith, p.near); kept = p.kept; same = p.same }

-- bs stand at the front of a buffer, past them what was there; r is how many they are
pub record Puts (o o' bs : List ℕ) (r : ℕ) : Type 0 where
  pub many : r ≡ length bs
  pub over : o' ≡ laid_over bs o

pub puts : {w v : Writer} {bs : List ℕ} {most : ℕ} → Put w v bs most → w.at ≡ 0 → most ≤ length w.out.now → Puts w.out.now v.out.now bs v.at
puts {w} {v} {bs} {most} p z h =
    let e : v.at ≡ length bs = omega (arith, p.past, z) in
    let fits : 0 + length bs ≤ length w.out.now = omega (arith, p.near, z, e) in
    record {
      many = e;
      over = p.stored ∙ ap (λ (k : ℕ). sets w.out.now k bs) z ∙ sets-eq bs w.out.now 0 fits
          ∙ ap (λ (k : ℕ). bs ++ drop k w.out.now) (zero-add (length bs));
    }

-- ---- a text of several parts: w is to write `all`, and v has written what comes before `rest`
pub record Storing (w : Writer) (all : List ℕ) (v : Writer) (rest : List ℕ) : Type 0 where
  pub is : sets v.out.now v.at rest ≡ sets w.out.now w.at all
  pub long : v.at + length rest ≡ w.at + length all
  pub kept : length v.out.now ≡ length w.out.now
  pub same : v.out.ghost_name ≡ w.out.ghost_name

module _ (w : Writer) (all : List ℕ) where
  pub storing-start : Storing w all w all
  storing-start = record { is = refl; long = refl; kept = refl; same = refl }

  pub storing-step : (v u : Writer) (now part rest : List ℕ) (most : ℕ) → Storing w all v now → now ≡ part ++ rest → Put v u part most
      → Storing w all u rest
  storing-step v u now part rest most s e p =
      record {
        is = ap (λ (q : ℕ). sets u.out.now q rest) p.past ∙ ap (λ (b : List ℕ). sets b (v.at + length part) rest) p.stored
            ∙ sets-append part rest v.out.now v.at ∙ ap (sets v.out.now v.at) (sym e) ∙ s.is;
        long = omega (arith, p.past, length-append part rest, ap length e, s.long);
        kept = p.kept ∙ s.kept;
        same = p.same ∙ s.same;
      }

  pub storing-end : (v : Writer) (rest : List ℕ) (most : ℕ) → Storing w all v rest → rest ≡ [] → v.at ≤ w.at + most → Put w v all most
  storing-end v rest most s e h =
      record {
        stored = sym (ap (sets v.out.now v.at) e) ∙ s.is;
        past = omega (arith, ap length e, s.long);
        near = h;
        kept = s.kept;
        same = s.same;
      }
