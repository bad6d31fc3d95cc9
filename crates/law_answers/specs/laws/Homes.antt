-- Of a build that is accepted, in columns that hold it, what the tallies of one zoom come to. Each entry has exactly one tile that holds
-- its centre, its home. That tile lists it. So a tile's tally is the sum of num over all entries of the table that are at home in it,
-- and over all tiles of a zoom from 0 to 31 the tallies, of which none is refused, sum to N. Assumes nothing.
use Rattle.std.specs.Prelude.{◌≡◌, refl, Bool, true, false, cond, ◌&&◌, List, [], ◌∷◌, ◌++◌, map, ℕ, ◌^◌, ◌≤◌, ◌<◌, eqb, length, Ok}
use Rattle.std.proofs.Common.{sym, ap, ◌∙◌, subst, eqb-true, eq-eqb, lt-ltb, le-leb}
use Rattle.std.proofs.Math.ListN.{get_or-eq_default}
use Rattle.floats.specs.laws.Unit.{In01}
use Rattle.kdslots.specs.laws.Bounds.{and_both}
use Rattle.build_tables.specs.declared.Entry.{Entry}
use Rattle.build_tables.specs.Entries.{Table, entry, none}
use Rattle.build_tables.specs.Options.{zoom_used}
use Rattle.build_one_zoom.specs.laws.Keeps.{all-at}
use Rattle.build_one_zoom.specs.laws.Sound.{Body}
use Rattle.build_one_zoom.specs.Zoom.{num_of}
use Rattle.ask_tile_table.specs.declared.Item.{Item}
use Rattle.refusals.specs.Refusals.{number}
use Rattle.ask_tile_table.specs.Floor.{home_of}
use Rattle.ask_tile_table.specs.laws.Floor.{home_below}
use Rattle.ask_tile_table.specs.laws.Framed.{tile-is}
use Rattle.ask_tile_table.specs.laws.Home.{home-inside}
use Rattle.ask_tile_table.specs.laws.Lists.{Lists}
use Rattle.ask_tile_table.specs.Tally.{tally_value, at_home, weight_in, member, distinct}
use Rattle.ask_tile_table.specs.laws.Distinct.{distinct-once, distinct-all}
use Rattle.ask_tile_table.specs.Tile.{is_tile, here, item_of}
use Rattle.ask_base.specs.Asked.{told}
use Rattle.supercluster.specs.Build.{BuildColumns, need}
use Rattle.supercluster.specs.laws.Load.{Holds}
use Rattle.law_builds.specs.Given.{Given, AcceptedBuild, points}
use Rattle.law_builds.specs.RightAt.{right-at}
use Rattle.law_answers.specs.laws.Boxed.{used_by, between}
use Rattle.law_answers.specs.laws.Tiled.{tile_by, tally_by, tile-every, tally-told, told_same}
use Rattle.law_answers.specs.laws.Sums.{sum_to, sum_same, sum-swap, sum-pick, sum-places, total-members}

-- ---- one home for each entry

-- the tile of zoom z that holds the entry's centre, and no other does
pub record OneHome (z : ℕ) (e : Entry) : Type 0 where
  pub x : ℕ
  pub y : ℕ
  pub tile : is_tile z x y ≡ true
  pub holds : at_home z x y e ≡ true
  pub only : (v w : ℕ) → at_home z v w e ≡ true → (v ≡ x) × (w ≡ y)

is-tile : (z x y : ℕ) → z ≤ 31 → x < 2 ^ z → y < 2 ^ z → is_tile z x y ≡ true
is-tile z x y a b c = rw (le-leb z 31 a, lt-ltb x (2 ^ z) b, lt-ltb y (2 ^ z) c)

pub one-home : (z : ℕ) → z ≤ 31 → (e : Entry) → OneHome z e
one-home z Z e = record {
  x = home_of z e.x;
  y = home_of z e.y;
  tile = is-tile z (home_of z e.x) (home_of z e.y) Z (home_below z e.x) (home_below z e.y);
  holds = rw (eq-eqb (home_of z e.x) (home_of z e.x) refl, eq-eqb (home_of z e.y) (home_of z e.y) refl);
  only = λ v w h. let q = and_both (eqb (home_of z e.x) v) (eqb (home_of z e.y) w) h in
      (sym (eqb-true _ v q.0), sym (eqb-true _ w q.1));
}

-- over all tiles of a zoom an entry counts its num, once
apart : (a b : Bool) (k : ℕ) → cond (a && b) k 0 ≡ cond a (cond b k 0) 0
apart true b k = refl
apart false b k = refl

pub weighs-once : (z : ℕ) (e : Entry) → sum_to (2 ^ z) (λ y. sum_to (2 ^ z) (λ x. weight_in z x y e)) ≡ e.num
weighs-once z e =
    let n = 2 ^ z in
    let hx = home_of z e.x in
    let hy = home_of z e.y in
    sum_same n _ (λ y. cond (eqb hy y) e.num 0) (λ y l.
    sum_same n _ (λ x. cond (eqb hx x) (cond (eqb hy y) e.num 0) 0) (λ x k. apart (eqb hx x) (eqb hy y) e.num)
    ∙ sum-pick n hx (λ x. cond (eqb hy y) e.num 0) (λ x. eqb hx x) (home_below z e.x) (eq-eqb hx hx refl)
    (λ k q. sym (eqb-true hx k q)))
    ∙ sum-pick n hy (λ y. e.num) (λ y. eqb hy y) (home_below z e.y) (eq-eqb hy hy refl) (λ k q. sym (eqb-true hy k q))

nothing : (b : Bool) → ◌≡◌ {A = ℕ} (cond b 0 0) 0
nothing true = refl
nothing false = refl

-- what stands past a table's end counts nothing
no-weight : (z x y : ℕ) (t : Table) (q : ℕ) → length t ≤ q → weight_in z x y (entry t q) ≡ 0
no-weight z x y t q h = ap (weight_in z x y) (get_or-eq_default t none h) ∙ nothing (at_home z x y none)

-- ---- an item that is listed is among the places

member-at : (pre : List Item) (j : Item) (post : List Item) → member j.place (map (λ i. i.place) (pre ++ j ∷ post)) ≡ true
unfolding member
member-at [] j post = rw (eq-eqb j.place j.place refl, member)
member-at (i ∷ pre) j post = go (eqb j.place i.place) refl (member-at pre j post)
  where
    go : (b : Bool) → eqb j.place i.place ≡ b → member j.place (map (λ i. i.place) (pre ++ j ∷ post)) ≡ true
        → member j.place (i.place ∷ map (λ i. i.place) (pre ++ j ∷ post)) ≡ true
    go true e h = rw (e, member)
    go false e h = rw (e, member) h

-- ---- of a build that is accepted

module _ (G : Given) (a : AcceptedBuild G) (l : BuildColumns) (r : Holds (need G.options (points G)) l) (z : ℕ) where
  placed : (p : ℕ) → p < length (used_by G z) → In01 (entry (used_by G z) p).x × In01 (entry (used_by G z) p).y
  placed p h =
      let k = between G a z in
      let b = all-at Body (used_by G z) p (right-at G a (zoom_used G.options z) k.0 k.1).unit h in
      (b.0, b.1)

  module _ (x y : ℕ) (tile : is_tile z x y ≡ true) where
    -- an entry is listed by its home tile
    pub home-listed : (p : ℕ) → p < length (used_by G z) → at_home z x y (entry (used_by G z) p) ≡ true
        → (i : List Item) × (tile_by G l z x y ≡ told true i) × Lists (item_of (here G.options z x y) p (entry (used_by G z) p)) i
    home-listed p h e =
        let q = placed p h in
        tile-every G a l r z x y tile p h (home-inside z x y (tile-is z x y tile) (entry (used_by G z) p) q.0 q.1 e)

    -- so the tally is the sum of num over all entries at home in the tile
    pub tally-homes : tally_by G l z x y ≡ Ok (sum_to (length (used_by G z)) (λ p. weight_in z x y (entry (used_by G z) p)))
    tally-homes =
        let t = used_by G z in
        let w = tally-told G a l r z x y tile in
        let ps = map (λ j. j.place) w.0 in
        w.2
        ∙ ap Ok (total-members t (weight_in z x y) (no-weight z x y t) (distinct [] ps) (distinct-once [] ps)
        ∙ sum_same (length t) _ (λ p. weight_in z x y (entry t p)) (λ p h. all_of p h w.0 w.1 (at_home z x y (entry t p)) refl))
      where
        all_of : (p : ℕ) → p < length (used_by G z) → (i : List Item) → tile_by G l z x y ≡ told true i → (b : Bool)
            → at_home z x y (entry (used_by G z) p) ≡ b
            → cond (member p (distinct [] (map (λ j. j.place) i))) (weight_in z x y (entry (used_by G z) p)) 0
            ≡ weight_in z x y (entry (used_by G z) p)
        all_of p h i e true q =
            let m = home-listed p h q in
            let f : m.0 ≡ i = told_same (sym m.1 ∙ e) in
            let g : member p (map (λ j. j.place) i) ≡ true =
            subst (λ (k : List Item). member p (map (λ j. j.place) k) ≡ true) (sym m.2.2 ∙ f)
            (member-at m.2.0 (item_of (here G.options z x y) p (entry (used_by G z) p)) m.2.1) in
            let d : member p (distinct [] (map (λ j. j.place) i)) ≡ true = distinct-all p (map (λ j. j.place) i) ∙ g in
            rw d
        all_of p h i e false q = rw q (nothing (member p (distinct [] (map (λ j. j.place) i))))

  module _ (Z : z ≤ 31) where
    -- no tally of the zoom is refused
    pub tallies-answered : (x y : ℕ) → x < 2 ^ z → y < 2 ^ z → number (tally_by G l z x y) ≡ 0
    tallies-answered x y h k = ap number (tally-homes x y (is-tile z x y Z h k))

    -- and over all its tiles they sum to N
    pub tallies-sum : sum_to (2 ^ z) (λ y. sum_to (2 ^ z) (λ x. tally_value (tally_by G l z x y))) ≡ points G
    tallies-sum =
        let n = 2 ^ z in
        let t = used_by G z in
        let N = length t in
        let k = between G a z in
        sum_same n _ (λ y. sum_to N (λ p. sum_to n (λ x. weight_in z x y (entry t p)))) (λ y h.
        sum_same n _ (λ x. sum_to N (λ p. weight_in z x y (entry t p))) (λ x q. ap tally_value (tally-homes x y (is-tile z x y Z q h)))
        ∙ sum-swap n N (λ x p. weight_in z x y (entry t p)))
        ∙ sum-swap n N (λ y p. sum_to n (λ x. weight_in z x y (entry t p)))
        ∙ sum_same N _ (λ p. (entry t p).num) (λ p h. weighs-once z (entry t p))
        ∙ sym (sum-places num_of t)
        ∙ (right-at G a (zoom_used G.options z) k.0 k.1).lamps
