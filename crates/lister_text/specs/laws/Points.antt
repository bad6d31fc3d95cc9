-- Points are read if and only if they stand there: points-read and points-end. Assumes nothing.
use Rattle.std.specs.Prelude.{Bool, true, false, List, [], ◌∷◌, ◌≡◌, refl, ℕ, zero, suc, ◌+◌, ◌-◌, ◌≤◌, length, drop, Option, Some, None}
use Rattle.std.proofs.Common.{ap, sym, ◌∙◌, add-one, arith, eq-eqb, eqb-true, length-drop, drop_of_length-le}
use Rattle.lister_text.specs.declared.LampText.{LampText}
use Rattle.lister_text.specs.Text.{line, x_key, y_key, wh_key, PointCols, put_points, point_text, points_text, Small}
use Rattle.lister_text.specs.laws.Form.{each_point, point_of, points_ok, filled_form}
use Rattle.lister_text.specs.laws.Lines.{LeftText, past, goes_on, got}

-- the lines of a point that is left are read, and what follows them is left
pub record PointRead (s : List ℕ) (at : ℕ) (p : LampText) (t : List ℕ) : Type 0 where
  pub to : ℕ
  pub reads : point_of s at ≡ Some (p, to)
  pub rest : LeftText s to t

pub point-read : (s : List ℕ) (at : ℕ) (p : LampText) (t : List ℕ) → LeftText s at (point_text p t)
    → (p.x ≤ 9999999) × (p.y ≤ 9999999) × (p.wh ≤ 9999999) → PointRead s at p t
unfolding point_of
point-read s at p t wx h =
    let wy = past s at x_key p.x _ wx in
    let we = past s _ y_key p.y _ wy in
    record {
      to = at + length (line x_key p.x) + length (line y_key p.y) + length (line wh_key p.wh);
      reads = goes_on s at x_key p.x _ wx 9999999 h.0 (omega arith) _ _
          ∙ goes_on s _ y_key p.y _ wy 9999999 h.1 (omega arith) _ _
          ∙ goes_on s _ wh_key p.wh t we 9999999 h.2 (omega arith) _ _;
      rest = past s _ wh_key p.wh t we;
    }

-- what the parser's two walks over the points find where the points stand
pub record Found (n : ℕ) (s : List ℕ) (at : ℕ) (ps : List LampText) : Type 0 where
  pub ok : points_ok n s at ≡ true
  pub stored : (i : ℕ) (c : PointCols) → filled_form n s at i c ≡ put_points c i ps

pub points-read : (ps : List LampText) (s : List ℕ) (at : ℕ) → LeftText s at (points_text ps) → Small ps → Found (length ps) s at ps
unfolding points_text points_ok filled_form
points-read [] s at w sm =
    let q : length s - at ≡ 0 = sym (length-drop at s) ∙ ap length w.is in
    record { ok = eq-eqb at (length s) (omega (arith, w.upto)); stored = λ i c. refl }
points-read (p ∷ ps) s at w sm =
    let here = point-read s at p (points_text ps) w sm.0 in
    let r = points-read ps s here.to here.rest sm.1 in
    record {
      ok = ap (λ (q : Option (LampText × ℕ)). each_point q false (λ _ k. points_ok (length ps) s k)) here.reads ∙ r.ok;
      stored = λ i c.
          ap (λ (q : Option (LampText × ℕ)). each_point q c (λ o k. filled_form (length ps) s k (i + 1) (put_points c i (o ∷ []))))
          here.reads
          ∙ r.stored (i + 1) (put_points c i (p ∷ [])) ∙ rw add-one;
    }

-- ---- what was read stands there

false-not : false ≡ true → ⊥
false-not e = let z : ◌≡◌ {A = ℕ} 0 1 = cc in omega arith

pub record PointsRead (n : ℕ) (s : List ℕ) (at : ℕ) : Type 0 where
  pub ps : List LampText
  pub count : length ps ≡ n
  pub is : drop at s ≡ points_text ps
  pub small : Small ps

pub points-end : (n : ℕ) (s : List ℕ) (at : ℕ) → points_ok n s at ≡ true → PointsRead n s at
unfolding points_ok points_text point_of
points-end zero s at e =
    let q : at ≡ length s = eqb-true at (length s) e in
    let le : length s ≤ at = omega arith in
    record { ps = []; count = refl; is = drop_of_length-le s le; small = tt }
points-end (suc n) s at e =
    let go : Option (LampText × ℕ) → Bool = λ q. each_point q false (λ _ k. points_ok n s k) in
    let x = got s at x_key 9999999 None _ go true false-not e in
    let y = got s x.to y_key 9999999 None _ go true false-not x.goes in
    let w = got s y.to wh_key 9999999 None _ go true false-not y.goes in
    let r = points-end n s w.to w.goes in
    record {
      ps = record { x = x.num; y = y.num; wh = w.num } ∷ r.ps;
      count = ap suc r.count;
      is = x.is _ (y.is _ (w.is _ r.is));
      small = ((x.small, y.small, w.small), r.small);
    }
