-- How far the loop over the zooms has come: what is written, with what is left to write, is the whole. Assumes nothing.
use Rattle.std.specs.Prelude.{◌≡◌, refl, set, Float}
use Rattle.std.proofs.Math.Path.{ap, sym}
use Rattle.std.proofs.Common.{◌∙◌, arith, take-append-drop, length-take-le, drop-drop}
use mathlib.Core.List.{List, ◌∷◌, ◌++◌, append_assoc, append-nil}
use Prim.Native.Nat.{ℕ, zero, suc, ◌+◌, ◌-◌, ◌*◌, ◌≤◌}
use Rattle.std.proofs.Math.Nat.{add-suc}
use Rattle.std.proofs.Math.ListN.{length, take, drop}
use Rattle.std.proofs.Math.Seq.{take-add, set-set}
use Rattle.kdsort.specs.Cols.{IndexCols}
use Rattle.build_tables.specs.Columns.{part}
use Rattle.build_tables.specs.Entries.{Table}
use Rattle.build_tables.specs.declared.State.{State}
use Rattle.build_one_zoom.specs.laws.Keeps.{cluster-long}
use Rattle.build_one_zoom.specs.Zoom.{Scan}
use Rattle.build_all_zooms.specs.Zooms.{index_of_table, Plan, zoomed, run_zooms, joined, joined_ids, joined_co, laid_over, starts, lens}
use Rattle.build_all_zooms.specs.laws.Parts.{take_put, drop-put}
use Rattle.build_all_zooms.specs.laws.Running.{Running, Advanced, zoom-sound, cur-long, ids-fit, co-fit, ids-len, co-len}

-- what is to be written, all in all
pub record Whole : Type 0 where
  pub rows : Table
  pub ids : List ℕ
  pub co : List Float
  pub ss : List ℕ
  pub ll : List ℕ

abbrev pub whole_progress : Plan → ℕ → Table → List ℕ → List ℕ → Whole
whole_progress p k t ss ll =
    record {
      rows = joined (run_zooms p k t);
      ids = joined_ids p.options.node_size (run_zooms p k t);
      co =
          joined_co p.options.node_size (run_zooms p k t);
      ss = starts (p.options.min_zoom + k) 0 (run_zooms p k t) ss;
      ll =
          lens (p.options.min_zoom + k) (run_zooms p k t) ll;
    }

-- a column of which the first n entries are written
pub record Written {A : Type 0} (whole old : List A) (at n : ℕ) (rest l : List A) : Type 0 where
  pub joins : take at l ++ rest ≡ whole
  pub after : drop (at + n) l ≡ drop (at + n) old

pub record Progress (p : Plan) (w : Whole) (t₀ : Table) (ids₀ : List ℕ) (co₀ : List Float) (k start len : ℕ) (t : Table) (ids : List ℕ)
    (co : List Float) (ss ll : List ℕ) : Type 0 where
  pub of-rows : Written w.rows t₀ start len (joined (run_zooms p k (part start len t))) t
  pub of-ids : Written w.ids ids₀ start len (joined_ids p.options.node_size (run_zooms p k (part start len t))) ids
  pub of-co : Written w.co co₀ (start * 2) (len * 2) (joined_co p.options.node_size (run_zooms p k (part start len t))) co
  pub of-ss : starts (p.options.min_zoom + k) start (run_zooms p k (part start len t)) ss ≡ w.ss
  pub of-ll : lens (p.options.min_zoom + k) (run_zooms p k (part start len t)) ll ≡ w.ll
  pub ss-at : set ss (p.options.min_zoom + k) start ≡ ss
  pub ll-at : set ll (p.options.min_zoom + k) len ≡ ll

-- ---- a start or a length that is recorded already is recorded again

pub starts-again : (p : Plan) (k : ℕ) (t : Table) (z at : ℕ) (ss : List ℕ)
    → starts z at (run_zooms p k t) (set ss z at) ≡ starts z at (run_zooms p k t) ss
unfolding run_zooms starts
starts-again p zero t z at ss = set-set ss z at at
starts-again p (suc k) t z at ss =
    ap (λ (l : List ℕ). starts (z - 1) (at + length (zoomed p (p.options.min_zoom + k) t).table)
    (run_zooms p k (zoomed p (p.options.min_zoom + k) t).next) l) (set-set ss z at at)

pub lens-again : (p : Plan) (k : ℕ) (t : Table) (z n : ℕ) (ll : List ℕ) → length t ≡ n
    → lens z (run_zooms p k t) (set ll z n) ≡ lens z (run_zooms p k t) ll
unfolding run_zooms lens
lens-again p zero t z n ll e = set-set ll z n (length t)
lens-again p (suc k) t z n ll e =
    ap (λ (l : List ℕ). lens (z - 1) (run_zooms p k (zoomed p (p.options.min_zoom + k) t).next) l)
    (set-set ll z n (length (zoomed p (p.options.min_zoom + k) t).table))

starts-tail : (z z' at n : ℕ) (a : Table) (ts : List Table) (ss : List ℕ) → set ss z at ≡ ss → z - 1 ≡ z' → length a ≡ n
    → starts z at (a ∷ ts) ss ≡ starts z' (at + n) ts ss
unfolding starts
starts-tail z z' at n a ts ss e f g =
    ap (λ (l : List ℕ). starts (z - 1) (at + length a) ts l) e ∙ ap (λ (q : ℕ). starts q (at + length a) ts ss) f
    ∙ ap (λ (q : ℕ). starts z' (at + q) ts ss) g

lens-tail : (z z' n : ℕ) (a : Table) (ts : List Table) (ll : List ℕ) → set ll z n ≡ ll → z - 1 ≡ z' → length a ≡ n
    → lens z (a ∷ ts) ll ≡ lens z' ts ll
unfolding lens
lens-tail z z' n a ts ll e f g =
    ap (λ (q : ℕ). lens (z - 1) ts (set ll z q)) g ∙ ap (λ (l : List ℕ). lens (z - 1) ts l) e ∙ ap (λ (q : ℕ). lens q ts ll) f

-- ---- the part that one zoom adds

module _ {A : Type 0} (whole old : List A) (at n d : ℕ) (l l' head rest : List A) where
  -- the current part is head already, and stays; a part of d entries follows it
  pub more-written : Written whole old at n (head ++ rest) l → take (at + n) l' ≡ take at l ++ head
      → drop (at + n + d) l' ≡ drop (at + n + d) l
      → Written whole old (at + n) d rest l'
  more-written w e f =
      record {
        joins = ap (λ (q : List A). q ++ rest) e ∙ append_assoc (take at l) head rest ∙ w.joins;
        after = f ∙ sym (drop-drop d (at + n) l) ∙ ap (drop d) w.after ∙ drop-drop d (at + n) old;
      }

module _ (p : Plan) (M k start len : ℕ) (t : Table) (ids : List ℕ) (co : List Float) (r : Running p M (suc k) start len t ids co)
    (d : ℕ) (t' : Table) (ids' : List ℕ) (co' : List Float) (v : Advanced p (p.options.min_zoom + k) start len d t t' ids ids' co co')
    (et : length t' ≡ length t) (ei : length ids' ≡ length ids) (ec : length co' ≡ length co)
    (w : Whole) (t₀ : Table) (ids₀ : List ℕ) (co₀ : List Float) (ss ll : List ℕ) where
  abbrev cur : Table
  cur = part start len t

  abbrev made : Scan
  made = zoomed p (p.options.min_zoom + k) (part start len t)

  slots_same : index_of_table p.options.node_size made.table ≡ index_of_table p.options.node_size cur
  unfolding index_of_table
  slots_same = let s = zoom-sound p M k start len t ids co r in rw (s.xs, s.ys)

  run-next : run_zooms p k (part (start + len) d t') ≡ run_zooms p k made.next
  run-next = ap (run_zooms p k) v.made

  two : (start + len) * 2 ≡ start * 2 + len * 2
  two = omega arith

  pub progress_step : Progress p w t₀ ids₀ co₀ (suc k) start len t ids co ss ll
      → Progress p w t₀ ids₀ co₀ k (start + len) d t' ids' co' (set ss (p.options.min_zoom + k) (start + len))
      (set ll (p.options.min_zoom + k) d)
  unfolding run_zooms joined joined_ids joined_co starts lens
  progress_step g =
      let zf = zoom-sound p M k start len t ids co r in
      let zl : length made.table ≡ len = cluster-long p.count p.options.min_points (p.options.min_zoom + k) _ cur
      ∙ cur-long p M (suc k) start len t ids co r in
      let zz : p.options.min_zoom + suc k - 1 ≡ p.options.min_zoom + k = omega (arith, add-suc p.options.min_zoom k) in
      let ids-fits = ids-fit p M k start len t ids co r d t' ids' co' v et ei ec in
      let co-fits = co-fit p M k start len t ids co r d t' ids' co' v et ei ec in
      let ids-lens = ids-len p M k start len t ids co r d t' ids' co' v et ei ec in
      let co-lens = co-len p M k start len t ids co r d t' ids' co' v et ei ec in
      let e1 : take (start + len) t' ≡ take start t ++ made.table = take-add start len t' ∙ rw (v.before, v.marked) in
      let e2 : take (start + len) ids' ≡ take start ids ++ (index_of_table p.options.node_size made.table).ids =
      ap (take (start + len)) v.ids-put
      ∙ take_put (start + len) d (index_of_table p.options.node_size made.next).ids ids ids-fits ids-lens
      ∙ take-add start len ids ∙ ap (λ (q : List ℕ). take start ids ++ q) (r.ids_at ∙ ap (λ (q : IndexCols). q.ids) (sym slots_same)) in
      let e3 : take ((start + len) * 2) co' ≡ take (start * 2) co ++ (index_of_table p.options.node_size made.table).co =
      ap (take ((start + len) * 2)) v.co-put
      ∙ take_put ((start + len) * 2) (d * 2) (index_of_table p.options.node_size made.next).co co co-fits co-lens
      ∙ ap (λ (q : ℕ). take q co) two
      ∙ take-add (start * 2) (len * 2) co
      ∙ ap (λ (q : List Float). take (start * 2) co ++ q) (r.co_at ∙ ap (λ (q : IndexCols). q.co) (sym slots_same)) in
      let f2 : drop (start + len + d) ids' ≡ drop (start + len + d) ids =
      ap (drop (start + len + d)) v.ids-put
      ∙ drop-put (start + len) d (index_of_table p.options.node_size made.next).ids ids ids-fits ids-lens in
      let f3 : drop ((start + len) * 2 + d * 2) co' ≡ drop ((start + len) * 2 + d * 2) co =
      ap (drop ((start + len) * 2 + d * 2)) v.co-put
      ∙ drop-put ((start + len) * 2) (d * 2) (index_of_table p.options.node_size made.next).co co co-fits co-lens in
      record {
        of-rows = rw run-next (more-written w.rows t₀ start len d t t' made.table (joined (run_zooms p k made.next)) g.of-rows e1
            v.after);
        of-ids = rw run-next (more-written w.ids ids₀ start len d ids ids' (index_of_table p.options.node_size made.table).ids
            (joined_ids p.options.node_size (run_zooms p k made.next)) g.of-ids e2 f2);
        of-co = rw (run-next, two) (more-written w.co co₀ (start * 2) (len * 2) (d * 2) co co'
            (index_of_table p.options.node_size made.table).co (joined_co p.options.node_size (run_zooms p k made.next))
            g.of-co (rw two at e3) (rw two at f3));
        of-ss =
            rw run-next (starts-again p k made.next (p.options.min_zoom + k) (start + len) ss
            ∙ sym (starts-tail (p.options.min_zoom + suc k) (p.options.min_zoom + k) start len made.table
            (run_zooms p k made.next) ss g.ss-at zz zl) ∙ g.of-ss);
        of-ll =
            rw run-next (lens-again p k made.next (p.options.min_zoom + k) d ll (sym v.count)
            ∙ sym (lens-tail (p.options.min_zoom + suc k) (p.options.min_zoom + k) len made.table (run_zooms p k made.next) ll
            g.ll-at zz zl) ∙ g.of-ll);
        ss-at = set-set ss (p.options.min_zoom + k) (start + len) (start + len);
        ll-at = set-set ll (p.options.min_zoom + k) d d;
      }

-- ---- the end: no zoom is left

written-length : {A : Type 0} (whole old : List A) (at n : ℕ) (l : List A) → Written whole old at n (part at n l) l → at + n ≤ length l
    → length whole ≡ at + n
written-length whole old at n l w h =
    let e : take (at + n) l ≡ whole = take-add at n l ∙ w.joins in
    ap length (sym e) ∙ length-take-le (at + n) l h

written-end : {A : Type 0} (whole old : List A) (at n : ℕ) (l : List A) → Written whole old at n (part at n l) l → at + n ≤ length l
    → l ≡ laid_over whole old
written-end whole old at n l w h =
    let e : take (at + n) l ≡ whole = take-add at n l ∙ w.joins in
    let q : length whole ≡ at + n = ap length (sym e) ∙ length-take-le (at + n) l h in
    sym (take-append-drop (at + n) l) ∙ rw (e, w.after, q)

module _ (p : Plan) (M start len : ℕ) (t : Table) (ids : List ℕ) (co : List Float) (r : Running p M 0 start len t ids co)
    (w : Whole) (t₀ : Table) (ids₀ : List ℕ) (co₀ : List Float) (ss ll : List ℕ)
    (g : Progress p w t₀ ids₀ co₀ 0 start len t ids co ss ll) where
  pub rows_end : t ≡ laid_over w.rows t₀
  unfolding run_zooms joined
  rows_end = written-end w.rows t₀ start len t (rw append-nil at g.of-rows) (omega (arith, r.room, r.long))

  pub ids-end : ids ≡ laid_over w.ids ids₀
  unfolding run_zooms joined_ids
  ids-end = written-end w.ids ids₀ start len ids (rw (append-nil, ← r.ids_at) at g.of-ids) (omega (arith, r.room, r.ids-long))

  pub co-end : co ≡ laid_over w.co co₀
  unfolding run_zooms joined_co
  co-end = written-end w.co co₀ (start * 2) (len * 2) co (rw (append-nil, ← r.co_at) at g.of-co)
      (omega (arith, r.room, r.co-long))

  pub rows-length-end : length w.rows ≡ start + len
  unfolding run_zooms joined
  rows-length-end = written-length w.rows t₀ start len t (rw append-nil at g.of-rows) (omega (arith, r.room, r.long))

  pub ids-length-end : length w.ids ≡ start + len
  unfolding run_zooms joined_ids
  ids-length-end = written-length w.ids ids₀ start len ids (rw (append-nil, ← r.ids_at) at g.of-ids)
      (omega (arith, r.room, r.ids-long))

  pub co-length-end : length w.co ≡ start * 2 + len * 2
  unfolding run_zooms joined_co
  co-length-end = written-length w.co co₀ (start * 2) (len * 2) co (rw (append-nil, ← r.co_at) at g.of-co)
      (omega (arith, r.room, r.co-long))

  pub ss-end : ss ≡ w.ss
  unfolding run_zooms starts
  ss-end = rw g.ss-at at g.of-ss

  pub ll-end : ll ≡ w.ll
  unfolding run_zooms lens
  ll-end = rw (cur-long p M 0 start len t ids co r, g.ll-at) at g.of-ll

-- what the whole loop leaves: k zooms were done from the table t
pub record Finished (p : Plan) (k : ℕ) (s s' : State) (t : Table) (r r' : Table) (ids ids' : List ℕ) (co co' : List Float) : Type 0 where
  pub of-rows : r' ≡ laid_over (joined (run_zooms p k t)) r
  pub of-ids : ids' ≡ laid_over (joined_ids p.options.node_size (run_zooms p k t)) ids
  pub of-co : co' ≡ laid_over (joined_co p.options.node_size (run_zooms p k t)) co
  pub of-starts : s'.starts ≡ starts (p.options.min_zoom + k) 0 (run_zooms p k t) s.starts
  pub of-lens : s'.lens ≡ lens (p.options.min_zoom + k) (run_zooms p k t) s.lens
  pub of-options : s'.options ≡ s.options
  pub of-count : s'.count ≡ s.count
  pub ids-long : length (joined_ids p.options.node_size (run_zooms p k t)) ≡ length (joined (run_zooms p k t))
  pub co-long : length (joined_co p.options.node_size (run_zooms p k t)) ≡ length (joined (run_zooms p k t)) * 2

-- ---- and the start: all zooms are left

module _ (p : Plan) (k len : ℕ) (t : Table) (ids : List ℕ) (co : List Float) (ss ll : List ℕ)
    (ss-at : set ss (p.options.min_zoom + k) 0 ≡ ss) (ll-at : set ll (p.options.min_zoom + k) len ≡ ll) where
  pub progress_start : Progress p (whole_progress p k (part 0 len t) ss ll) t ids co k 0 len t ids co ss ll
  progress_start =
      record {
        of-rows = record { joins = refl; after = refl };
        of-ids = record { joins = refl; after = refl };
        of-co = record { joins = refl; after = refl };
        of-ss = refl;
        of-ll = refl;
        ss-at = ss-at;
        ll-at = ll-at;
      }
