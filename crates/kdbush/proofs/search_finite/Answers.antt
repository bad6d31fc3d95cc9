-- `kdbush::search_finite` meets its contract: a query that is fine is searched, another is refused, after an index that is. Assumes
-- nothing.
use Rattle.std.proofs.Common.{◌≡◌, sym, ◌∙◌, length}
use Rattle.kdbush.specs.Reply.{searched, column_after}
use Rattle.kdbush.proofs.Replies.{finite-fine, finite-spoiled, finite-box}
use Rattle.kdbush.proofs.search_finite.Goals as goal
use Rattle.kdbush.proofs.search_finite.Goals.{else-is_index-via-then-is_index+else-not-is_ok, else-is_index-via-else-is_index}

pub returns-then-not-is_ok : goal.returns-then-not-is_ok
returns-then-not-is_ok c =
    let a = c.args in
    let ids = a.index.now.ids.now in
    let coords = a.index.now.coords.now in
    let h = finite-box a.query a.node_size a.n ids coords a.out.now (sym c.if-not-is_ok.ensures)
    (sym c.is_index.ensures ∙ c.if-is_index.true) in
    record { value = h.0; out_value = h.1 }

pub returns : goal.returns
returns c =
    let a = c.args in
    let ids = a.index.now.ids.now in
    let coords = a.index.now.coords.now in
    let h : (c.search.result ≡ searched a.query a.node_size a.n ids coords (length a.out.now))
    × (c.search.new.out ≡ column_after a.query a.node_size a.n ids coords a.out.now) =
    elim c.else-is_index.branch [
      | else-is_index-via-then-is_index+else-not-is_ok w ↦
          finite-fine a.query a.node_size a.n ids coords a.out.now
          (sym w.is_ok.ensures ∙ w.if-not-is_ok.false) c.search.result c.search.new.out c.search.ensures.value c.search.ensures.out_value
      | else-is_index-via-else-is_index w ↦
          finite-spoiled a.query a.node_size a.n ids coords a.out.now (sym c.is_index.ensures ∙ w.if-is_index.false)
          c.search.result c.search.new.out c.search.ensures.value c.search.ensures.out_value
    ] in
    record { value = h.0; out_value = h.1 }
