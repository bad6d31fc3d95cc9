-- A text is read as these values if and only if it is their writing: `accepts` and `only`. So what `parsed_of` answers meets the contract
-- of `parse` (`parsing`), which allows just one reply to a text, and one content of the columns (`parsing-one`). Assumes nothing.
use Rattle.std.specs.Prelude.{Bool, true, false, cond, List, map, ◌≡◌, refl, ℕ, ◌+◌, ◌≤◌, ltb, length, take, drop, Option, Some, None, Result, Ok, Err}
use Rattle.std.proofs.Common.{ap, sym, subst, ◌∙◌, arith, le-ltb, ltb-false, take_at}
use Rattle.std.proofs.lemmas.List.{length-map}
use Rattle.std.proofs.lemmas.List.Edits.{sets, sets-eq}
use Rattle.std.proofs.Math.Seq.{length-sets}
use Rattle.lister_text.specs.declared.Head.{Head}
use Rattle.lister_text.specs.declared.LampText.{LampText}
use Rattle.refusals.specs.declared.Refusal.{Refusal}
use Rattle.refusals.specs.declared.Refusal.TheVariants.{Text}
use Rattle.lister_text.specs.Text.{Input, points_text, head_text, head_is, text, Valid}
use Rattle.lister_text.specs.Text.{PointCols, point_cols, points_of, front_of, Fits, put_points, Reads, Parsing, x_of, y_of, wh_of}
use Rattle.lister_text.specs.laws.Form.{head_of_text, points_ok, with_points, parsed_of, filled_by}
use Rattle.lister_text.specs.laws.Points.{Found, points-read, points-end}
use Rattle.lister_text.specs.laws.OneInput.{text-one}
use Rattle.lister_text.specs.laws.Heads.{head_read, head-ends}

-- each text of the form is read, as what it is the text of
pub accepts : (i : Input) → Valid i → (parsed_of (text i) ≡ Ok (head_is i))
    × Found (length i.points) (text i) (head_is i).next.at i.points
unfolding parsed_of
accepts i v =
    let s = text i in
    let h =
    head_read s i.min_zoom i.max_zoom i.min_points i.radius i.extent i.node_size (length i.points) (points_text i.points)
    refl v.min_zoom v.max_zoom v.min_points v.radius v.extent v.node_size v.count in
    let p = points-read i.points s (head_is i).next.at h.rest v.points in (
      ap (λ (b : Bool). cond b (Err Text) (with_points s (head_of_text s))) (le-ltb 65536 (length s) v.short)
          ∙ ap (λ (x : Option Head). with_points s x) h.reads
          ∙ ap (λ (b : Bool). cond b (Ok (head_is i)) (Err Text)) p.ok,
      p,
    )

-- and nothing else is
pub record Form (s : List ℕ) (h : Head) : Type 0 where
  pub input : Input
  pub valid : Valid input
  pub is : s ≡ text input
  pub head : h ≡ head_is input

pub refused-not : {e : Refusal} {h : Head} → Err e ≡ Ok h → ⊥
refused-not e = let z : ◌≡◌ {A = ℕ} 0 1 = cc in omega arith

pub err-inj : {d e : Refusal} → ◌≡◌ {A = Result Head Refusal} (Err d) (Err e) → d ≡ e
err-inj q = cc

pub read-inj : (g h : Head) → ◌≡◌ {A = Result Head Refusal} (Ok g) (Ok h) → g ≡ h
read-inj g h e = cc

cond-refused : (b : Bool) (x : Result Head Refusal) (h : Head) → cond b (Err Text) x ≡ Ok h → (b ≡ false) × (x ≡ Ok h)
cond-refused true x h e = absurd (refused-not e)
cond-refused false x h e = (refl, e)

cond-read : (b : Bool) (g h : Head) → cond b (Ok g) (Err Text) ≡ Ok h → (b ≡ true) × (g ≡ h)
cond-read true g h e = (refl, read-inj g h e)
cond-read false g h e = absurd (refused-not e)

points-inv : (s : List ℕ) (x : Option Head) (h : Head) → with_points s x ≡ Ok h → (x ≡ Some h) × (points_ok h.count s h.next.at ≡ true)
points-inv s (Some g) h e =
    let c = cond-read (points_ok g.count s g.next.at) g h e in
    (ap (λ (k : Head). Some k) c.1, subst (λ (k : Head). points_ok k.count s k.next.at ≡ true) c.1 c.0)
points-inv s None h e = absurd (refused-not e)

pub only : (s : List ℕ) (h : Head) → parsed_of s ≡ Ok h → Form s h
unfolding parsed_of
only s h e =
    let a = cond-refused (ltb 65536 (length s)) _ h e in
    let p = points-inv s (head_of_text s) h a.1 in
    let hd = head-ends s h p.0 in
    let pt = points-end h.count s h.next.at p.1 in
    let i : Input =
    record {
      min_zoom = h.min_zoom;
      max_zoom = h.max_zoom;
      min_points = h.min_points;
      radius = h.radius;
      extent = h.extent;
      node_size = h.node_size;
      points = pt.ps;
    } in
    let headed : ℕ → List ℕ → List ℕ = head_text h.min_zoom h.max_zoom h.min_points h.radius h.extent
    h.node_size in
    let all : s ≡ text i = hd.is ∙ ap (headed h.count) pt.is ∙ ap (λ (k : ℕ). headed k (points_text pt.ps)) (sym pt.count) in
    let v : Valid i =
    record {
      min_zoom = hd.ha;
      max_zoom = hd.hb;
      min_points = hd.hm;
      radius = hd.hr;
      extent = hd.he;
      node_size = hd.hn;
      count = omega (arith, hd.hk, pt.count);
      points = pt.small;
      short = omega (arith, ap length all, ltb-false 65536 (length s) a.0);
    } in
    record { input = i; valid = v; is = all; head = read-inj h (head_is i) (sym e ∙ ap parsed_of all ∙ (accepts i v).0) }

-- ---- the contract of `parse`

-- the only refusal is that of a text
no-head : (b : Bool) (h : Head) (e : Refusal) → cond b (Ok h) (Err Text) ≡ Err e → e ≡ Text
no-head true h e q = absurd (refused-not (sym q))
no-head false h e q = sym (err-inj q)

no-form : (s : List ℕ) (b : Bool) (x : Option Head) (e : Refusal) → cond b (Err Text) (with_points s x) ≡ Err e → e ≡ Text
no-form s true x e q = sym (err-inj q)
no-form s false (Some h) e q = no-head (points_ok h.count s h.next.at) h e q
no-form s false None e q = sym (err-inj q)

is-text : (s : List ℕ) (e : Refusal) → parsed_of s ≡ Err e → e ≡ Text
unfolding parsed_of
is-text s e q = no-form s (ltb 65536 (length s)) (head_of_text s) e q

module _ (s : List ℕ) (c : PointCols) where
  reads-by : (h : Head) (c' : PointCols) (f : Form s h) → c' ≡ filled_by (Ok h) s c → Reads s c h c'
  reads-by h c' f e =
      let i = f.input in
      let same : filled_by (Ok h) s c ≡ filled_by (Ok (head_is i)) (text i) c = λ k. filled_by (Ok (f.head k)) (f.is k) c in
      record { input = i; valid = f.valid; is = f.is; head = f.head; stored = e ∙ same ∙ (accepts i f.valid).1.stored 0 c }

  pub parsing : (r : Result Head Refusal) (c' : PointCols) → r ≡ parsed_of s → c' ≡ filled_by r s c → Parsing s c r c'
  parsing (Ok h) c' e q = reads-by h c' (only s h (sym e)) q
  parsing (Err r) c' e q = (is-text s r (sym e), record { none = λ i v is. refused-not (e ∙ ap parsed_of is ∙ (accepts i v).0); same = q })

  -- two replies that meet it are equal, and so are the columns
  pub parsing-one : (r q : Result Head Refusal) (c' c'' : PointCols) → Parsing s c r c' → Parsing s c q c'' → (r ≡ q) × (c' ≡ c'')
  parsing-one (Ok h) (Ok g) c' c'' a b =
      let e = text-one a.input b.input a.valid b.valid (sym a.is ∙ b.is) in
      let same = ap (λ (k : Head). Ok k) (a.head ∙ ap head_is e ∙ sym b.head) in
      (same, a.stored ∙ ap (λ (i : Input). put_points c 0 i.points) e ∙ sym b.stored)
  parsing-one (Ok h) (Err e) c' c'' a b = absurd (b.1.none a.input a.valid a.is)
  parsing-one (Err e) (Ok g) c' c'' a b = absurd (a.1.none b.input b.valid b.is)
  parsing-one (Err d) (Err e) c' c'' a b = (ap (λ (k : Refusal). Err k) (a.0 ∙ sym b.0), a.1.same ∙ sym b.1.same)

-- ---- the points that were read stand at the front of the columns

pub record Front (i : Input) (n : ℕ) (c : PointCols) : Type 0 where
  pub is : front_of n c ≡ points_of i
  pub fits : Fits n c

-- columns of 1,152 places
pub record Wide (c : PointCols) : Type 0 where
  pub x : length c.xs ≡ 1152
  pub y : length c.ys ≡ 1152
  pub energy : length c.energies ≡ 1152

front : {A : Type 0} (f : LampText → A) (ps : List LampText) (n : ℕ) (d d' : List A) → d' ≡ sets d 0 (map f ps)
    → n ≡ length ps → n ≤ length d' → take n d' ≡ map f ps
front f ps n d d' e k h =
    let long : length (map f ps) ≡ n = length-map ps f ∙ sym k in
    let fits : 0 + length (map f ps) ≤ length d = omega (arith, ap length e ∙ length-sets d 0 (map f ps), long) in
    ap (take n) (e ∙ sets-eq (map f ps) d 0 fits) ∙ take_at (map f ps) (drop (0 + length (map f ps)) d) n long

pub reads-front : (s : List ℕ) (c : PointCols) (h : Head) (c' : PointCols) (p : Reads s c h c') → Wide c' → Front p.input h.count c'
reads-front s c h c' p w =
    let n : h.count ≡ length p.input.points = ap (λ (k : Head). k.count) p.head in
    let ps = p.input.points in
    let f : Fits h.count c' =
    record {
      x = omega (arith, n, p.valid.count, w.x);
      y = omega (arith, n, p.valid.count, w.y);
      energy = omega (arith, n, p.valid.count, w.energy);
    } in
    let ex = front x_of ps h.count c.xs c'.xs (ap (λ (d : PointCols). d.xs) p.stored) n f.x in
    let ey = front y_of ps h.count c.ys c'.ys (ap (λ (d : PointCols). d.ys) p.stored) n f.y in
    let ee = front wh_of ps h.count c.energies c'.energies (ap (λ (d : PointCols). d.energies) p.stored) n f.energy in
    record { is = λ k. point_cols (ex k) (ey k) (ee k); fits = f }
