-- What the parser's parts answer, the text read from its front. Text has what these come to; Whole proves that. Assumes nothing.
use Rattle.std.specs.Prelude.{Bool, false, cond, List, [], ◌∷◌, ◌≡◌, refl, ℕ, zero, suc, ◌+◌, ◌-◌, ◌<◌, ◌≤◌, ltb, eqb, length, Option, Some, None, Result, Ok, Err}
use Rattle.std.proofs.Common.{ap, sub-one, arith}
use Rattle.refusals.specs.declared.Refusal.{Refusal}
use Rattle.refusals.specs.declared.Refusal.TheVariants.{Text}
use Rattle.lister_text.specs.declared.Head.{Head}
use Rattle.lister_text.specs.declared.LampText.{LampText}
use Rattle.lister_text.specs.laws.Scan.{line_of}
use Rattle.lister_text.specs.Text.{min_zoom_key, max_zoom_key, min_points_key, radius_key, extent_key, node_size_key, count_key, x_key, y_key}
use Rattle.lister_text.specs.Text.{wh_key}
use Rattle.lister_text.specs.Text.{PointCols, put_points}

-- what a line was read as goes on, or all ends with `other`; the same of a point
abbrev pub each_value : {A : Type 0} → Option (ℕ × ℕ) → A → (ℕ → ℕ → A) → A
each_value (Some p) other f = f p.0 p.1
each_value None other f = other

abbrev pub each_point : {A : Type 0} → Option (LampText × ℕ) → A → (LampText → ℕ → A) → A
each_point (Some p) other f = f p.0 p.1
each_point None other f = other

-- the first seven lines
unfoldable pub head_of_text : List ℕ → Option Head
head_of_text s =
    each_value (line_of s 0 min_zoom_key 255) None (λ a p1.
    each_value (line_of s p1 max_zoom_key 255) None (λ b p2.
    each_value (line_of s p2 min_points_key 255) None (λ m p3.
    each_value (line_of s p3 radius_key 9999999) None (λ r p4.
    each_value (line_of s p4 extent_key 9999999) None (λ e p5.
    each_value (line_of s p5 node_size_key 9999999) None (λ n p6.
    each_value (line_of s p6 count_key 1152) None (λ k p7.
    Some (record {
      min_zoom = a;
      max_zoom = b;
      min_points = m;
      radius = r;
      extent = e;
      node_size = n;
      count = k;
      next =
          record { at = p7 };
    }))))))))

-- the lines of a point
unfoldable pub point_of : List ℕ → ℕ → Option (LampText × ℕ)
point_of s at =
    each_value (line_of s at x_key 9999999) None (λ x p.
    each_value (line_of s p y_key 9999999) None (λ y q.
    each_value (line_of s q wh_key 9999999) None (λ wh r.
    Some (record { x = x; y = y; wh = wh }, r))))

-- n points stand at `at`, and then nothing
unfoldable pub points_ok : ℕ → List ℕ → ℕ → Bool
points_ok zero s at = eqb at (length s)
points_ok (suc n) s at = each_point (point_of s at) false (λ p k. points_ok n s k)

-- the columns with these points from the place i on
unfoldable pub filled_form : ℕ → List ℕ → ℕ → ℕ → PointCols → PointCols
filled_form zero s at i c = c
filled_form (suc n) s at i c = each_point (point_of s at) c (λ p k. filled_form n s k (i + 1) (put_points c i (p ∷ [])))

-- the points after the head, and then nothing
abbrev pub with_points : List ℕ → Option Head → Result Head Refusal
with_points s (Some h) = cond (points_ok h.count s h.next.at) (Ok h) (Err Text)
with_points s None = Err Text

unfoldable pub parsed_of : List ℕ → Result Head Refusal
parsed_of s = cond (ltb 65536 (length s)) (Err Text) (with_points s (head_of_text s))

abbrev pub filled_by : Result Head Refusal → List ℕ → PointCols → PointCols
filled_by (Ok h) s c = filled_form h.count s h.next.at 0 c
filled_by (Err e) s c = c

-- ---- one step of each, by what the next point was read as

pub ok_step : (k : ℕ) (s : List ℕ) (at : ℕ) (q : Option (LampText × ℕ)) → 0 < k → point_of s at ≡ q
    → points_ok k s at ≡ each_point q false (λ p r. points_ok (k - 1) s r)
unfolding points_ok
ok_step zero s at q h e = let z : ⊥ = omega arith in absurd z
ok_step (suc k) s at q h e = simp (sub-one, e)

pub ok_end : (k : ℕ) (s : List ℕ) (at : ℕ) → k ≤ 0 → points_ok k s at ≡ eqb at (length s)
unfolding points_ok
ok_end zero s at h = refl
ok_end (suc k) s at h = let z : ⊥ = omega arith in absurd z

pub filled-step : (k : ℕ) (s : List ℕ) (at i : ℕ) (c : PointCols) (q : Option (LampText × ℕ)) → 0 < k → point_of s at ≡ q
    → filled_form k s at i c ≡ each_point q c (λ p r. filled_form (k - 1) s r (i + 1) (put_points c i (p ∷ [])))
unfolding filled_form
filled-step zero s at i c q h e = let z : ⊥ = omega arith in absurd z
filled-step (suc k) s at i c q h e = simp (sub-one, e)

pub filled-end : (k : ℕ) (s : List ℕ) (at i : ℕ) (c : PointCols) → k ≤ 0 → filled_form k s at i c ≡ c
unfolding filled_form
filled-end zero s at i c h = refl
filled-end (suc k) s at i c h = let z : ⊥ = omega arith in absurd z

pub each_number : {A : Type 0} {x : Option (ℕ × ℕ)} {v n : ℕ} (other : A) (f : ℕ → ℕ → A) → x ≡ Some (v, n)
    → each_value x other f ≡ f v n
each_number other f e = ap (λ (y : Option (ℕ × ℕ)). each_value y other f) e

pub each-bad : {A : Type 0} {x : Option (ℕ × ℕ)} (other : A) (f : ℕ → ℕ → A) → x ≡ None → each_value x other f ≡ other
each-bad other f e = ap (λ (y : Option (ℕ × ℕ)). each_value y other f) e
