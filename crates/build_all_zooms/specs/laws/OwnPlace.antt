-- The own place of each entry of a table is answered around it, where its coordinates are from 0 to 1 and the radius is finite; and so is
-- the place of each slot of its index, whose coordinates are the entry's. Assumes nothing.
use Rattle.std.proofs.Common.{sym, ◌∙◌, arith}
use Rattle.std.proofs.Math.Path.{subst}
use Rattle.std.specs.Prelude.{List, ℕ, ◌*◌, ◌≤◌, ◌<◌, T, Float}
use Rattle.std.proofs.Math.ListN.{length, get_or, length-map, get_or-map}
use Rattle.std.specs.Float.{nan}
use Rattle.std.specs.Float.Ieee.Scale.{finite}
use Rattle.kdsort.specs.Cols.{key}
use Rattle.kdslots.specs.declared.Query.TheVariants.{Within}
use Rattle.kdslots.specs.laws.All.{All}
use Rattle.kdslots.specs.laws.Members.{In}
use Rattle.kdbush.specs.Reply.{index_of, found}
use Rattle.build_tables.specs.Columns.{part}
use Rattle.build_tables.specs.Entries.{Table, entry, none, xs_of, ys_of}
use Rattle.build_one_zoom.specs.Near.{near_of}
use Rattle.build_one_zoom.specs.laws.Notes.{OwnNote, Slotted}
use Rattle.build_one_zoom.specs.laws.Sound.{Body}
use Rattle.build_all_zooms.specs.Zooms.{index_of_table, near_in, Plan}
use Rattle.kdbush.specs.laws.Indexed.{slot-names, slot-x, slot-y, own-found}
use Rattle.build_all_zooms.specs.laws.Running.{table-inside, Running, cur-long, cur-some, cur-body}

module _ (size : ℕ) (t : Table) (n1 : 1 ≤ size) (some : 1 ≤ length t) (b : All Body t) (r : Float) (fr : T (finite r)) where
  pub own-answered : (i : ℕ) → i < length t → In i (near_in size r t (entry t i).x (entry t i).y)
  unfolding index_of_table
  own-answered i h =
      let lx = length-map t (λ e. e.x) in
      let ex = get_or-map (λ e. e.x) t i none in
      let ey = get_or-map (λ e. e.y) t i none in
      let s = index_of size (xs_of t) (ys_of t) in
      let a = own-found size (xs_of t) (ys_of t) n1 (omega (arith, lx)) (table-inside t b) r fr i (omega (arith, lx)) in
      subst (λ (n : ℕ). In i (found (Within (entry t i).x (entry t i).y r) size n s.ids s.co)) lx
      (subst (λ (q : Float). In i (found (Within (entry t i).x q r) size (length (xs_of t)) s.ids s.co)) ey
      (subst (λ (q : Float). In i (found (Within q (get_or (ys_of t) i nan) r) size (length (xs_of t)) s.ids s.co)) ex a))

-- ---- the slots of its index

module _ (size : ℕ) (t : Table) (n1 : 1 ≤ size) (some : 1 ≤ length t) (b : All Body t) where
  some-x : 1 ≤ length (xs_of t)
  some-x = omega (arith, length-map t (λ e. e.x))

  pub slots-slotted : Slotted (length t) (index_of_table size t).ids (index_of_table size t).co t
  unfolding index_of_table
  slots-slotted =
      let l = length-map t (λ e. e.x) in
      record {
        x-is = λ s h. slot-x size (xs_of t) (ys_of t) n1 some-x (table-inside t b) s (omega (arith, l, h))
            ∙ get_or-map (λ e. e.x) t _ none;
        y-is = λ s h. slot-y size (xs_of t) (ys_of t) n1 some-x (table-inside t b) s (omega (arith, l, h))
            ∙ get_or-map (λ e. e.y) t _ none;
      }

  pub slots-owned : (r : Float) → T (finite r) → OwnNote (length t) (near_in size r t) (index_of_table size t).ids (index_of_table size t).co
  unfolding index_of_table
  slots-owned r fr s h =
      let l = length-map t (λ e. e.x) in
      let i = get_or (index_of_table size t).ids s 0 in
      let k : i < length t = omega (arith, l, slot-names size (xs_of t) (ys_of t) n1 some-x (table-inside t b) s (omega (arith, l, h))) in
      subst (λ (v : Float). In i (near_in size r t v (key 1 (index_of_table size t).co s))) (sym (slots-slotted.x-is s h))
      (subst (λ (v : Float). In i (near_in size r t (entry t i).x v)) (sym (slots-slotted.y-is s h))
      (own-answered size t n1 some b r fr i k))

-- of the table between two zooms
module _ (p : Plan) (M k start len : ℕ) (t : Table) (ids : List ℕ) (co : List Float) (r : Running p M k start len t ids co) where
  pub cur-slotted : Slotted len (part start len ids) (part (start * 2) (len * 2) co) (part start len t)
  cur-slotted =
      let size = p.options.node_size in
      let t₁ = part start len t in
      rw (r.ids_at, r.co_at) (subst (λ (n : ℕ). Slotted n (index_of_table size t₁).ids (index_of_table size t₁).co t₁)
      (cur-long p M k start len t ids co r)
      (slots-slotted size t₁ r.able.size-from (cur-some p M k start len t ids co r) (cur-body p M k start len t ids co r)))

  pub cur-owned : (rad : Float) → T (finite rad)
      → OwnNote len (near_of p.options.node_size len (part start len ids) (part (start * 2) (len * 2) co) rad) (part start len ids)
      (part (start * 2) (len * 2) co)
  cur-owned rad fr =
      let size = p.options.node_size in
      let t₁ = part start len t in
      rw (r.ids_at, r.co_at) (subst
      (λ (n : ℕ). OwnNote n (near_of size n (index_of_table size t₁).ids (index_of_table size t₁).co rad) (index_of_table size t₁).ids
      (index_of_table size t₁).co) (cur-long p M k start len t ids co r)
      (slots-owned size t₁ r.able.size-from (cur-some p M k start len t ids co r) (cur-body p M k start len t ids co r) rad fr))
