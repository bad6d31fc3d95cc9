-- No two inputs that SCOPE takes have one writing: `text-one`. Assumes nothing.
use Rattle.std.specs.Prelude.{List, [], ◌∷◌, ◌++◌, ◌≡◌, refl, ℕ, ◌+◌, ◌≤◌, length, drop}
use Rattle.std.proofs.Common.{ap, sym, ◌∙◌, arith, length-append}
use Rattle.std.proofs.lemmas.Option.{some_pair_parts}
use Rattle.lister_text.specs.laws.Reading.{line_read, line-length, after}
use Rattle.lister_text.specs.Text.{line, min_zoom_key, max_zoom_key, min_points_key, radius_key, extent_key, node_size_key, count_key, x_key}
use Rattle.lister_text.specs.declared.LampText.{LampText}
use Rattle.lister_text.specs.Text.{y_key}
use Rattle.lister_text.specs.Text.{wh_key}
use Rattle.lister_text.specs.Text.{Input, points_text, text, Small, Valid}

-- two lines of one key that begin one text: their numbers are equal, and what follows them
module _ (key : List ℕ) (v w : ℕ) (t u : List ℕ) (e : line key v ++ t ≡ line key w ++ u) (hv : v ≤ 9999999) (hw : w ≤ 9999999) where
  abbrev all : List ℕ
  all = line key v ++ t

  same_number : v ≡ w
  same_number =
      let a = line_read all 0 key 9999999 v t (omega arith) refl hv hv in
      let b = line_read all 0 key 9999999 w u (omega arith) e hw hw in
      (some_pair_parts v w _ _ (sym a ∙ b)).0

  line-one : (v ≡ w) × (t ≡ u)
  line-one =
      let a = after all 0 (line key v) t refl in
      let b = after all 0 (line key w) u e in
      (same_number, sym a ∙ ap (λ (k : ℕ). drop (0 + length (line key k)) all) same_number ∙ b)

-- a line is not nothing
line-some : (key : List ℕ) (v : ℕ) (t : List ℕ) → [] ≡ line key v ++ t → ⊥
line-some key v t e = omega (arith, ap length e, length-append (line key v) t, line-length key v)

points-one : (ps qs : List LampText) → Small ps → Small qs → points_text ps ≡ points_text qs → ps ≡ qs
unfolding points_text
points-one [] [] s r e = refl
points-one [] (q ∷ qs) s r e = absurd (line-some x_key q.x _ e)
points-one (p ∷ ps) [] s r e = absurd (line-some x_key p.x _ (sym e))
points-one (p ∷ ps) (q ∷ qs) s r e =
    let a = line-one x_key p.x q.x _ _ e s.0.0 r.0.0 in
    let b = line-one y_key p.y q.y _ _ a.1 s.0.1 r.0.1 in
    let w = line-one wh_key p.wh q.wh _ _ b.1 s.0.2 r.0.2 in
    let c = points-one ps qs s.1 r.1 w.1 in
    λ i. record { x = a.0 i; y = b.0 i; wh = w.0 i } ∷ c i

pub text-one : (i j : Input) → Valid i → Valid j → text i ≡ text j → i ≡ j
text-one i j v w e =
    let a = line-one min_zoom_key i.min_zoom j.min_zoom _ _ e (omega (arith, v.min_zoom)) (omega (arith, w.min_zoom)) in
    let b = line-one max_zoom_key i.max_zoom j.max_zoom _ _ a.1 (omega (arith, v.max_zoom)) (omega (arith, w.max_zoom)) in
    let m = line-one min_points_key i.min_points j.min_points _ _ b.1 (omega (arith, v.min_points)) (omega (arith, w.min_points)) in
    let r = line-one radius_key i.radius j.radius _ _ m.1 v.radius w.radius in
    let x = line-one extent_key i.extent j.extent _ _ r.1 v.extent w.extent in
    let n = line-one node_size_key i.node_size j.node_size _ _ x.1 v.node_size w.node_size in
    let k = line-one count_key (length i.points) (length j.points) _ _ n.1 (omega (arith, v.count)) (omega (arith, w.count)) in
    let p = points-one i.points j.points v.points w.points k.1 in
    λ d. record {
      min_zoom = a.0 d;
      max_zoom = b.0 d;
      min_points = m.0 d;
      radius = r.0 d;
      extent = x.0 d;
      node_size = n.0 d;
      points =
          p d;
    }
