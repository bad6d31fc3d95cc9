-- `kdpages::fill_page` meets its contract, by from where the walk goes on; what is narrowed to answers what the whole answers. Assumes
-- nothing.
use Rattle.std.proofs.Common.{sym, ap, ◌∙◌, List, ℕ, ◌+◌, arith}
use Rattle.kdpages.specs.declared.Onward.{Onward}
use Rattle.kdslots.specs.laws.Bounds.{both_true, first-false, second-false}
use Rattle.kdslots.specs.Query.{query_ok}
use Rattle.kdslots.specs.Slots.{over}
use Rattle.kdslots.specs.laws.Intervals.{slots-leaf}
use Rattle.kdpages.specs.Pages.{onward_of, stored, store}
use Rattle.kdpages.proofs.Stores.{none_more}
use Rattle.kdpages.proofs.Turns.{page-refused, page-start, page-after, page-past}
use Rattle.kdpages.proofs.fill_page.Goals as goal

pub returns-then-not-is_sound : goal.returns-then-not-is_sound
returns-then-not-is_sound c =
    let s = c.args.s.now in
    page-refused s.query s.node_size s.n s.coords.now (first-false (query_ok s.query) (sym c.if-not-is_sound.ensures)) c.args.from
    c.args.page.now

pub returns-then-not-is_ok : goal.returns-then-not-is_ok
returns-then-not-is_ok c =
    let s = c.args.s.now in
    page-refused s.query s.node_size s.n s.coords.now (second-false (sym c.if-not-is_sound.ensures) (sym c.if-not-is_ok.ensures)) c.args.from
    c.args.page.now

pub returns-then-len-most : goal.returns-then-len-most
returns-then-len-most c =
    let s = c.args.s.now in
    let page = c.args.page.now in
    let v = c.narrow-v.result in
    page-start s.query s.node_size s.n s.coords.now (both_true (sym c.if-not-is_sound.ensures) (sym c.if-not-is_ok.ensures)) page
    (stored c.fill_from.result c.fill_from.new.page)
    (c.fill_from.ensures ∙ ap (λ (l : List ℕ). store 0 l page)
    (sym (slots-leaf (over s.query s.coords.now) v.axis (s.node_size + 1) v.lo v.hi (omega arith)) ∙ (rw c.most.ensures at c.narrow-v.ensures.hi_value)))
    ∙ sym (ap (λ (x : Onward). store 0 (onward_of s.query s.node_size s.n s.coords.now x) page) c.in-Start.is)

pub returns-else-len-most : goal.returns-else-len-most
returns-else-len-most c =
    let s = c.args.s.now in
    let page = c.args.page.now in
    page-start s.query s.node_size s.n s.coords.now (both_true (sym c.if-not-is_sound.ensures) (sym c.if-not-is_ok.ensures)) page
    (stored c.fill_in.result c.fill_in.new.page)
    (c.fill_in.ensures ∙ ap (λ (l : List ℕ). store 0 l page) (rw c.most.ensures at c.narrow-v.ensures.hi_value))
    ∙ sym (ap (λ (x : Onward). store 0 (onward_of s.query s.node_size s.n s.coords.now x) page) c.in-Start.is)

pub returns-then-s-c : goal.returns-then-s-c
returns-then-s-c c =
    let s = c.args.s.now in
    let page = c.args.page.now in
    page-past s.query s.node_size s.n s.coords.now (both_true (sym c.if-not-is_sound.ensures) (sym c.if-not-is_ok.ensures)) c.in-After.c
    c.if-s-c.true page
    ∙ sym (ap (λ (x : Onward). store 0 (onward_of s.query s.node_size s.n s.coords.now x) page) c.in-After.is)

pub returns-else-s-c : goal.returns-else-s-c
returns-else-s-c c =
    let s = c.args.s.now in
    let page = c.args.page.now in
    page-after s.query s.node_size s.n s.coords.now (both_true (sym c.if-not-is_sound.ensures) (sym c.if-not-is_ok.ensures)) c.in-After.c
    c.if-s-c.false page (stored c.fill_rest.result c.fill_rest.new.page) c.fill_rest.ensures
    ∙ sym (ap (λ (x : Onward). store 0 (onward_of s.query s.node_size s.n s.coords.now x) page) c.in-After.is)

pub returns-in-Nothing : goal.returns-in-Nothing
returns-in-Nothing c =
    let s = c.args.s.now in
    let page = c.args.page.now in
    none_more 0 page ∙ sym (ap (λ (x : Onward). store 0 (onward_of s.query s.node_size s.n s.coords.now x) page) c.in-Nothing.is)
