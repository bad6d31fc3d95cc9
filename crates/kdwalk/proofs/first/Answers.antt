-- `kdwalk::first` meets its contract, by its ways out: what is narrowed to answers what the whole answers. Assumes nothing.
use Rattle.std.proofs.Common.{◌≡◌, ap, ◌∙◌, Err, rules}
use Rattle.kdwalk.specs.laws.Cursor.{head_of}
use Rattle.kdwalk.proofs.Steps.{first-refused, first_found}
use Rattle.kdwalk.proofs.first.Goals as goal

pub returns-in_err-check : goal.returns-in_err-check
returns-in_err-check c =
    let s = c.args.s.now in
    let r = c.in_err-check.field-0.0 in
    let e : c.from_residual.result ≡ Err r = search rules in
    e ∙ first-refused s.query s.node_size s.n s.coords.now r c.in_err-check.ensures

pub returns : goal.returns
returns c =
    let s = c.args.s.now in
    first_found s.query s.node_size s.n s.coords.now c.in_ok-check.ensures c.first_in.result
    (c.first_in.ensures ∙ ap head_of (rw c.most.ensures at c.narrow-v.ensures.hi_value))
