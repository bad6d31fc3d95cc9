-- `kdbush::search` meets its contract, by its ways out: what is narrowed to answers what the whole answers. Assumes nothing.
use Rattle.std.proofs.Common.{◌≡◌, sym, refl, ap, ◌∙◌, List, ℕ, Some, None, Err, arith, rules}
use Rattle.refusals.specs.declared.Refusal.TheVariants.{Spoiled}
use Rattle.kdbush.specs.laws.Run.{run}
use Rattle.kdbush.specs.Run.{places}
use Rattle.kdbush.proofs.Runs.{same_ran}
use Rattle.kdbush.proofs.Replies.{search-spoiled, search-past, search-no-room, search-found}
use Rattle.kdbush.proofs.search.Goals as goal

pub returns-then-not-is_index : goal.returns-then-not-is_index
returns-then-not-is_index c =
    let s = c.args.s.now in
    let h = search-spoiled s.query s.node_size s.n c.args.ids.now s.coords.now c.args.out.now (sym c.if-not-is_index.ensures) in
    record { value = h.0; out_value = h.1 }

pub returns-in_err-k : goal.returns-in_err-k
returns-in_err-k c =
    let s = c.args.s.now in
    let e : c.from_residual.result ≡ Err Spoiled = search rules in
    let f : c.part.result ≡ None = search rules in
    let h = search-past s.query s.node_size s.n c.args.ids.now s.coords.now c.args.out.now (sym c.if-not-is_index.ensures) c.part.new.out
    (same_ran (sym f) refl ∙ c.part.ensures
    ∙ ap (λ (l : List ℕ). run s.n 0 (places c.args.ids.now l) c.args.out.now) (rw c.most.ensures at c.narrow.ensures.hi_value)) in
    record { value = e ∙ h.0; out_value = h.1 }

pub returns-then-out-k : goal.returns-then-out-k
returns-then-out-k c =
    let s = c.args.s.now in
    let f : c.part.result ≡ Some c.in_ok-k.k = search rules in
    let h = search-no-room s.query s.node_size s.n c.args.ids.now s.coords.now c.args.out.now (sym c.if-not-is_index.ensures) c.in_ok-k.k
    c.part.new.out
    (same_ran (sym f) refl ∙ c.part.ensures
    ∙ ap (λ (l : List ℕ). run s.n 0 (places c.args.ids.now l) c.args.out.now) (rw c.most.ensures at c.narrow.ensures.hi_value)) (omega arith) in
    record { value = h.0; out_value = h.1 }

pub returns : goal.returns
returns c =
    let s = c.args.s.now in
    let f : c.part.result ≡ Some c.in_ok-k.k = search rules in
    let h = search-found s.query s.node_size s.n c.args.ids.now s.coords.now c.args.out.now (sym c.if-not-is_index.ensures) c.in_ok-k.k
    c.part.new.out
    (same_ran (sym f) refl ∙ c.part.ensures
    ∙ ap (λ (l : List ℕ). run s.n 0 (places c.args.ids.now l) c.args.out.now) (rw c.most.ensures at c.narrow.ensures.hi_value)) (omega arith) in
    record { value = h.0; out_value = h.1 }
