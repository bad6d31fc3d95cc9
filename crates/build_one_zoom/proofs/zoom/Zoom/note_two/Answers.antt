-- `build_one_zoom::zoom::Zoom::note_two` meets its contract: where the search says that it found something, the column holds all that is
-- answered. Assumes nothing.
use Rattle.std.proofs.Common.{ℕ, List, [], ◌∷◌, get_or, ap, sym, ◌∙◌}
use Rattle.kdslots.specs.declared.Query.TheVariants.{Within}
use Rattle.build_one_zoom.specs.laws.Notes.{few-found}
use Rattle.build_one_zoom.proofs.zoom.Zoom.note_two.Goals as goal

pub returns-in-Ok : goal.returns-in-Ok
returns-in-Ok c =
    let a = c.args in
    let z = a.self.now in
    let f = few-found z.node_size z.len z.index.ids.now z.index.coords.now c.requires.searchable.promised (Within a.qx a.qy z.radius)
    (0 ∷ 0 ∷ []) _ (sym c.in-Ok.ensures.value) in
    c.note_of.ensures _ _ c.requires.two (ap (λ (l : List ℕ). get_or l 0 0) (sym (c.in-Ok.ensures.out_value ∙ f.1)))
    (ap (λ (l : List ℕ). get_or l 1 0) (sym (c.in-Ok.ensures.out_value ∙ f.1)))
