-- `ask_tile_table::asked::AskedTile::tally_by` meets its contract: a turn of the walk is its end, an entry that ends the tally, or one more
-- that is counted. Assumes nothing.
use Rattle.std.proofs.Common.{◌≡◌, Option, Result, Some, Err, List, ◌∷◌, ℕ, length, replicate, refl, sym, ap, ◌∙◌, rules, arith}
use Rattle.kdpages.specs.Pages.{next-slot, next-end}
use Rattle.ask_tile_table.specs.declared.TileSearch.{TileSearch}
use Rattle.ask_tile_table.specs.declared.Running.{Running}
use Rattle.ask_tile_table.specs.declared.Cut.{Cut}
use Rattle.ask_tile_table.specs.laws.Home.{weight_by}
use Rattle.ask_tile_table.specs.laws.Counting.{held_marks, places_in, places_of, counted, counted_none, count-end, count-stop, count_next}
use Rattle.ask_tile_table.specs.laws.Asked.{table_of, places_ahead, begins-visits, begins-few, begins-below}
use Rattle.ask_tile_table.specs.laws.Added.{counted_by}
use Rattle.ask_tile_table.proofs.asked.AskedTile.tally_by.Goals as goal

pub returns-in_default-clause-held : goal.returns-in_default-clause-held
returns-in_default-clause-held c =
    let a = c.args in
    counted_none a.few (weight_by a.h.now) (table_of a.self.now) a.r.count a.r.sum a.marks.now
    ∙ ap (λ (s : Option TileSearch). counted_by a.self.now a.few a.h.now s a.r.count a.r.sum a.marks.now) (sym c.in_default.is)

pub loop-p-init : goal.loop-p-init
loop-p-init c =
    let a = c.args in
    let t = a.self.now.table in
    let page = replicate 16 0 in
    let p = c.begin-pages.result in
    let b = c.begin-pages.ensures in
    let n = length t.entries.x.now in
    record {
      below = begins-below c.over-s.result page p b;
      room = omega (arith, begins-few c.over-s.result c.in-Some.g n t.index.coords.now c.over-s.ensures t.index.ids.now page p b);
      bound = c.requires.count_bound.1;
      counts =
          ap (λ (ps : List ℕ). counted a.few (weight_by a.h.now) (table_of a.self.now) a.r.count a.r.sum ps a.marks.now)
          (sym (places_of c.in-Some.g _)
          ∙ ap places_in (begins-visits a.self.now c.in-Some.g a.search c.in-Some.is c.over-s.result c.over-s.ensures page p b));
    }

pub returns-in_err-a-clause-held : goal.returns-in_err-a-clause-held
returns-in_err-a-clause-held c =
    let a = c.args in
    let k = c.loop-p in
    let p = c.in-Some-next_place.p in
    let ids = a.self.now.table.index.ids.now in
    let left = places_ahead c.over-s.result ids k.page k.pages in
    let onward = places_ahead c.over-s.result ids c.next_place.new.page c.next_place.new.pages in
    let step = c.in-Some-next_place.ensures in
    let moves : left ≡ p ∷ onward = next-slot left onward (Some p) p refl step.value step.left in
    let e : c.from_residual.result ≡ Err c.in_err-a.field-0.0 = search rules in
    ap (λ (r : Result Running Cut). held_marks r c.tally_one.new.marks) e
    ∙ count-stop a.few (weight_by a.h.now) (table_of a.self.now) k.a.count k.a.sum left k.marks p onward moves
    c.tally_one.new.marks c.in_err-a.field-0.0 c.in_err-a.ensures.held
    ∙ k.invariant.counts

pub loop-p-preserved : goal.loop-p-preserved
loop-p-preserved c =
    let a = c.args in
    let k = c.loop-p in
    let p = c.in-Some-next_place.p in
    let ids = a.self.now.table.index.ids.now in
    let left = places_ahead c.over-s.result ids k.page k.pages in
    let onward = places_ahead c.over-s.result ids c.next_place.new.page c.next_place.new.pages in
    let step = c.in-Some-next_place.ensures in
    let moves : left ≡ p ∷ onward = next-slot left onward (Some p) p refl step.value step.left in
    record {
      below = c.next_place.ensures.below;
      room = omega (arith, ap length moves, k.invariant.room, c.in_ok-a.ensures.bound);
      bound = c.in_ok-a.ensures.bound.1;
      counts =
          count_next a.few (weight_by a.h.now) (table_of a.self.now) k.a.count k.a.sum left k.marks p onward moves
          c.tally_one.new.marks c.in_ok-a.a c.in_ok-a.ensures.held
          ∙ k.invariant.counts;
    }

pub returns-clause-held : goal.returns-clause-held
returns-clause-held c =
    let a = c.args in
    let k = c.loop-p in
    let ids = a.self.now.table.index.ids.now in
    let left = places_ahead c.over-s.result ids k.page k.pages in
    count-end a.few (weight_by a.h.now) (table_of a.self.now) k.a.count k.a.sum left k.marks
    (next-end left c.next_place.result c.in_default-next_place.not-Some c.next_place.ensures.value)
    ∙ k.invariant.counts
