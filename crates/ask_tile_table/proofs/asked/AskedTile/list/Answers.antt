-- `ask_tile_table::asked::AskedTile::list` meets its contract: the three runs follow each other. Assumes nothing.
use Rattle.std.proofs.Common.{◌≡◌, Result, Some, Err, ℕ, ap, ◌∙◌, rules, arith}
use Rattle.refusals.specs.declared.Refusal.{Refusal}
use Rattle.ask_tile_table.specs.laws.Runs.{left_runs}
use Rattle.ask_tile_table.specs.laws.Three.{own-may, end-may, asked-few, own-ends, east-ends, west-ends}
use Rattle.ask_tile_table.specs.declared.RowEnd.TheVariants.{East, West}
use Rattle.ask_tile_table.proofs.asked.AskedTile.list.Goals as goal

pub list_by-requires-clause-framed : goal.list_by-requires-clause-framed
list_by-requires-clause-framed c = own-may c.args.self.now (Some c.own_range.result) (ap Some c.own_range.ensures)

pub returns-in_err-a : goal.returns-in_err-a
returns-in_err-a c =
    let a = c.args in
    let n = c.list_by.new in
    let e : c.from_residual.result ≡ Err c.in_err-a.field-0.0 = search rules in
    ap (λ (r : Result ℕ Refusal). left_runs r n.out n.px n.py) e
    ∙ own-ends a.self.now a.out.now a.px.now a.py.now (Some c.own_range.result) (ap Some c.own_range.ensures) c.in_err-a.field-0.0
    n.out n.px n.py c.in_err-a.ensures

pub list_by-requires-2-clause-framed : goal.list_by-requires-2-clause-framed
list_by-requires-2-clause-framed c = end-may c.args.self.now East c.strip.result c.strip.ensures

pub list_by-requires-2-clause-room : goal.list_by-requires-2-clause-room
list_by-requires-2-clause-room c =
    let a = c.args in
    omega (
      arith,
      asked-few a.self.now 0 c.in_ok-a.a (Some c.own_range.result) a.out.now c.list_by.new.out a.px.now a.py.now c.list_by.new.px
          c.list_by.new.py c.in_ok-a.ensures,
      a.self.now.most,
    )

pub returns-in_err-b : goal.returns-in_err-b
returns-in_err-b c =
    let a = c.args in
    let n = c.list_by.new in
    let m = c.list_by-2.new in
    let e : c.from_residual-in_err-b.result ≡ Err c.in_err-b.field-0.0 = search rules in
    ap (λ (r : Result ℕ Refusal). left_runs r m.out m.px m.py) e
    ∙ east-ends a.self.now a.out.now a.px.now a.py.now (Some c.own_range.result) (ap Some c.own_range.ensures) c.in_ok-a.a n.out n.px n.py
    c.in_ok-a.ensures c.strip.result c.strip.ensures c.in_err-b.field-0.0 m.out m.px m.py c.in_err-b.ensures

pub list_by-requires-3-clause-framed : goal.list_by-requires-3-clause-framed
list_by-requires-3-clause-framed c = end-may c.args.self.now West c.strip-2.result c.strip-2.ensures

pub list_by-requires-3-clause-room : goal.list_by-requires-3-clause-room
list_by-requires-3-clause-room c =
    let a = c.args in
    let n = c.list_by.new in
    let m = c.list_by-2.new in
    omega (
      arith,
      asked-few a.self.now 0 c.in_ok-a.a (Some c.own_range.result) a.out.now n.out a.px.now a.py.now n.px n.py c.in_ok-a.ensures,
      asked-few a.self.now c.in_ok-a.a c.in_ok-b.b c.strip.result n.out m.out n.px n.py m.px m.py c.in_ok-b.ensures,
      a.self.now.most,
    )

pub returns : goal.returns
returns c =
    let a = c.args in
    let n = c.list_by.new in
    let m = c.list_by-2.new in
    west-ends a.self.now a.out.now a.px.now a.py.now (Some c.own_range.result) (ap Some c.own_range.ensures) c.in_ok-a.a n.out n.px n.py
    c.in_ok-a.ensures c.strip.result c.strip.ensures c.in_ok-b.b m.out m.px m.py c.in_ok-b.ensures c.strip-2.result
    c.strip-2.ensures _ c.list_by-3.ensures
