-- A line in a reading of several: where it stands, the reading goes on past it (`goes_on`, `past`); and where a reading went on past
-- a line, the line stands there (`got`). Assumes nothing.
use Rattle.std.specs.Prelude.{List, ◌++◌, ◌≡◌, refl, ℕ, ◌+◌, ◌≤◌, length, drop, Option, Some, None}
use Rattle.std.proofs.Common.{ap, ◌∙◌, arith}
use Rattle.lister_text.specs.laws.Scan.{line_of}
use Rattle.lister_text.specs.Text.{line}
use Rattle.lister_text.specs.laws.Form.{each_value, each_number}
use Rattle.lister_text.specs.laws.Reading.{line_read, line-ends, after, within}

-- t is what is left of s at `at`
pub record LeftText (s : List ℕ) (at : ℕ) (t : List ℕ) : Type 0 where
  pub upto : at ≤ length s
  pub is : drop at s ≡ t

module _ (s : List ℕ) (at : ℕ) (key : List ℕ) (v : ℕ) (t : List ℕ) (w : LeftText s at (line key v ++ t)) where
  pub past : LeftText s (at + length (line key v)) t
  past = record { upto = within s at (line key v) t w.upto w.is; is = after s at (line key v) t w.is }

  pub goes_on : {A : Type 0} (max : ℕ) → v ≤ max → max ≤ 9999999 → (other : A) (f : ℕ → ℕ → A)
      → each_value (line_of s at key max) other f ≡ f v (at + length (line key v))
  goes_on max h m other f = each_number other f (line_read s at key max v t w.upto w.is h (omega arith))

-- a line that was read: its number, the place past it, and that the reading went on from there to the answer t
pub record Got {B : Type 0} (s : List ℕ) (at : ℕ) (key : List ℕ) (max : ℕ) (f : ℕ → ℕ → B) (t : B) : Type 0 where
  pub num : ℕ
  pub to : ℕ
  pub goes : f num to ≡ t
  pub is : (u : List ℕ) → drop to s ≡ u → drop at s ≡ line key num ++ u
  pub most : num ≤ max
  pub small : num ≤ 9999999
  pub upto : to ≤ length s

module _ {A B : Type 0} (s : List ℕ) (at : ℕ) (key : List ℕ) (max : ℕ) (other : A) (f : ℕ → ℕ → A) (go : A → B) (t : B)
    (no' : go other ≡ t → ⊥) where
  got-by : (x : Option (ℕ × ℕ)) → line_of s at key max ≡ x → go (each_value x other f) ≡ t → Got s at key max (λ v k. go (f v k)) t
  got-by (Some p) q e =
      let l = line-ends s at key max p.0 p.1 q in
      record {
        num = p.0;
        to = p.1;
        goes = e;
        is = λ u r. l.is ∙ ap (λ (w : List ℕ). line key p.0 ++ w) r;
        most = l.most;
        small = l.small;
        upto = l.upto;
      }
  got-by None q e = absurd (no' e)

  pub got : go (each_value (line_of s at key max) other f) ≡ t → Got s at key max (λ v k. go (f v k)) t
  got e = got-by (line_of s at key max) refl e
