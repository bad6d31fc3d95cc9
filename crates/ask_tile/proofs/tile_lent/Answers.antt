-- `ask_tile::tile_lent` meets its contract: the list of the tile that is asked for is the state's. Assumes nothing.
use Rattle.std.proofs.Common.{◌≡◌, Ok, Err, ◌++◌, drop, min, length, ap, ◌∙◌, rules}
use Rattle.build_tables.specs.Lent.{tables_held}
use Rattle.ask_base.specs.Answers.{Answer}
use Rattle.ask_tile.specs.Asked.{whole_state, tile_outcome, shortest}
use Rattle.ask_tile.specs.laws.Ends.{ends-asked}
use Rattle.ask_tile.proofs.tile_lent.Goals as goal

pub returns-in_err-listed : goal.returns-in_err-listed
returns-in_err-listed c =
    let a = c.args in
    let n = c.list-listed.new in
    let k = c.min-room.result in
    let room : k ≡ shortest a.places.now a.px.now a.py.now = c.min-room.ensures ∙ ap (min (length a.places.now)) c.min.ensures in
    let e : c.from_residual-in_err-listed.result ≡ Err c.in_err-listed.field-0.0 = search rules in
    ap (λ (r : Answer). tile_outcome r (n.out ++ drop k a.places.now) (n.px ++ drop k a.px.now) (n.py ++ drop k a.py.now)) e
    ∙ ends-asked (whole_state a.s.now) (tables_held a.t.now) a.z a.x a.y a.places.now a.px.now a.py.now c.in_ok-a.a c.in_ok-a.ensures
    k room (Err c.in_err-listed.field-0.0) n.out n.px n.py c.in_err-listed.ensures

pub returns : goal.returns
returns c =
    let a = c.args in
    let n = c.list-listed.new in
    let k = c.min-room.result in
    let room : k ≡ shortest a.places.now a.px.now a.py.now = c.min-room.ensures ∙ ap (min (length a.places.now)) c.min.ensures in
    ap (λ (r : Answer). tile_outcome r (n.out ++ drop k a.places.now) (n.px ++ drop k a.px.now) (n.py ++ drop k a.py.now)) c.some_of.ensures
    ∙ ends-asked (whole_state a.s.now) (tables_held a.t.now) a.z a.x a.y a.places.now a.px.now a.py.now c.in_ok-a.a c.in_ok-a.ensures
    k room (Ok c.in_ok-listed.field-0) n.out n.px n.py c.in_ok-listed.ensures
