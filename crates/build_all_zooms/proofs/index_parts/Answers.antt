-- `build_all_zooms::index_parts` meets its contract: the parts lent to the index's build have just room for it, so that what it leaves is
-- the index of the part's points. Assumes nothing.
use Rattle.std.proofs.Common.{◌≡◌, ℕ, ◌+◌, ◌-◌, ◌*◌, ◌++◌, take, drop, ap, sym, ◌∙◌, arith}
use Rattle.kdsort.specs.Cols.{IndexCols, index_cols}
use Rattle.kdbush.specs.Reply.{index_of}
use Rattle.build_tables.specs.Columns.{part}
use Rattle.build_tables.specs.laws.Columns.{part-long}
use Rattle.build_all_zooms.proofs.index_parts.Goals as goal

e1 : (st len : ℕ) → st + len - st ≡ len
e1 st len = omega arith

e2 : (st len : ℕ) → (st + len) * 2 - st * 2 ≡ len * 2
e2 st len = omega arith

pub index_columns-requires-clause-points : goal.index_columns-requires-clause-points
index_columns-requires-clause-points c =
    let a = c.args in
    let h = c.requires.le_len in
    let k = c.requires.fact in
    let lx = part-long a.start a.len a.xs.now k.1 in
    let ly = part-long a.start a.len a.ys.now (omega (arith, k.1, k.0)) in
    rw (e1 a.start a.len) (record {
      size-from = h.3;
      size-to = h.4;
      some = omega (arith, lx, h.0);
      most = omega (arith, lx, h.1);
      paired = ly ∙ sym lx;
      inside = c.requires.inside;
    })

pub index_columns-requires-clause-room : goal.index_columns-requires-clause-room
index_columns-requires-clause-room c =
    let a = c.args in
    let k = c.requires.fact in
    let lx = part-long a.start a.len a.xs.now k.1 in
    let li = part-long a.start a.len a.ids.now k.2 in
    let lc = part-long (a.start * 2) (a.len * 2) a.coords.now (omega (arith, k.3)) in
    rw (e1 a.start a.len, e2 a.start a.len) (li ∙ sym lx, omega (arith, lc, lx))

pub returns : goal.returns
returns c =
    let a = c.args in
    let st = a.start in
    let xs = part st a.len a.xs.now in
    let ys = part st a.len a.ys.now in
    let ids = c.index_columns.new.ids in
    let coords = c.index_columns.new.coords in
    let left : index_cols ids coords ≡ index_of a.size xs ys = rw (e1 st a.len) at c.index_columns.ensures in (
      ap (λ (q : ℕ). take st a.ids.now ++ (ids ++ drop q (drop st a.ids.now))) (e1 st a.len)
          ∙ ap (λ (q : IndexCols). take st a.ids.now ++ (q.ids ++ drop a.len (drop st a.ids.now))) left,
      ap (λ (q : ℕ). take (st * 2) a.coords.now ++ (coords ++ drop q (drop (st * 2) a.coords.now))) (e2 st a.len)
          ∙ ap (λ (q : IndexCols). take (st * 2) a.coords.now ++ (q.co ++ drop (a.len * 2) (drop (st * 2) a.coords.now))) left,
    )
