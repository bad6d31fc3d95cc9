-- `ask_cluster::expansion_zoom` meets its contract: the id leads to a refusal, or to a place from which the cluster is expanded. Assumes
-- nothing.
use mathlib.Core.Bool.{true}
use mathlib.Core.Path.{◌≡◌, refl, sym, ap, ◌∙◌}
use Prim.Native.Nat.{ℕ, ◌+◌, ◌-◌}
use Rattle.std.specs.Prelude.{Ok}
use Rattle.std.proofs.lemmas.Result.{err_from_is_err_and}
use Rattle.build_tables.specs.declared.State.{State}
use Rattle.build_tables.specs.Room.{Columns}
use Rattle.build_tables.specs.Lent.{tables_held}
use Rattle.ask_base.specs.Ids.{Target, origin}
use Rattle.ask_cluster.specs.Expansion.{Expansion, expand, zoom_at, zoom_of}
use Rattle.ask_cluster.proofs.Led.{Led, leads, reached}
use Rattle.ask_cluster.proofs.expansion_zoom.Goals as goal

-- the definition where the id leads
module _ {s : State} {l : Columns} {id cap : ℕ} {t : Target} (q : Led s l id cap t) where
  abbrev zoom : Target → Expansion
  zoom u = zoom_at u (λ t o. expand s l (s.options.max_zoom + 1 - (t - 1)) (Ok (origin t o)) id (t - 1) true)

  gives : (u : Target) → t ≡ u → (r : Expansion) → r ≡ zoom u → r ≡ zoom_of s l id
  unfolding zoom_of
  gives u d r e = e ∙ ap zoom (sym (leads q u d))

pub returns-in_err-at : goal.returns-in_err-at
returns-in_err-at c =
    let a = c.args in
    let l = tables_held a.t.now in
    let q : Led a.s l a.cid c.room.result c.find_target.result = record { room = c.room.ensures; target = c.find_target.ensures } in
    let p = err_from_is_err_and c.from_residual.result c.from_residual.ensures.1 in
    rw (p.1, p.2) (gives q _ c.in_err-at.was _ refl)

pub expand_from-requires : goal.expand_from-requires
expand_from-requires c =
    let a = c.args in
    let l = tables_held a.t.now in
    let q : Led a.s l a.cid c.room.result c.find_target.result = record { room = c.room.ensures; target = c.find_target.ensures } in
    reached q c.in_ok-at.at c.in_ok-at.was

pub returns : goal.returns
returns c =
    let a = c.args in
    let l = tables_held a.t.now in
    let q : Led a.s l a.cid c.room.result c.find_target.result = record { room = c.room.ensures; target = c.find_target.ensures } in
    gives q _ c.in_ok-at.was _ c.expand_from.ensures
