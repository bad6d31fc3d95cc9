-- `build_owners::Build::lead` meets its contract: at the head of the loop the entry with the id c began with the same lamp, come to in so
-- many steps as are left. Assumes nothing.
use Rattle.std.proofs.Common.{◌≡◌, ℕ, ◌+◌, ◌-◌, sym, ap, ap₂, ◌∙◌, subst, arith, get_or}
use Rattle.build_tables.specs.Entries.{entry}
use Rattle.build_tables.specs.Ids.{origin_of, table_of}
use Rattle.build_tables.specs.declared.Entry.{Entry}
use Rattle.build_tables.specs.Lent.{held}
use Rattle.build_tables.specs.laws.Rows.{rows-length}
use Rattle.build_owners.specs.laws.Climbs.{rows_of, origin_id, lead_of, Chain}
use Rattle.build_owners.specs.laws.Leads.{lead-lamp}
use Rattle.build_owners.specs.laws.Steps.{step, chain-end}
use Rattle.build_owners.proofs.Build.lead.Goals as goal

pub returns-then-c-n : goal.returns-then-c-n
returns-then-c-n c =
    let b = c.args.self.now in
    let l = c.loop in
    sym (lead-lamp b.state.now.count b.state.now.starts (rows_of b) (32 - l.counter) l.c c.if-c-n.true) ∙ l.invariant.1

pub overflow_add-at : goal.overflow_add-at
overflow_add-at c =
    let b = c.args.self.now in
    let s = b.state.now in
    let l = c.loop in
    let t = step s.count s.starts (rows_of b) (32 - l.counter) l.c c.if-c-n.false l.invariant.0 in
    let w = ap (λ (k : ℕ). get_or s.starts k 0) c.table_of-t.ensures in
    omega (arith, w, c.origin_of.ensures, t.inside, rows-length (held b.entries))

pub at-e-requires : goal.at-e-requires
at-e-requires c =
    let b = c.args.self.now in
    let s = b.state.now in
    let l = c.loop in
    let t = step s.count s.starts (rows_of b) (32 - l.counter) l.c c.if-c-n.false l.invariant.0 in
    let w = ap (λ (k : ℕ). get_or s.starts k 0) c.table_of-t.ensures in
    omega (arith, w, c.origin_of.ensures, t.inside, rows-length (held b.entries))

pub loop-preserved : goal.loop-preserved
loop-preserved c =
    let b = c.args.self.now in
    let l = c.loop in
    let n = b.state.now.count in
    let ss = b.state.now.starts in
    let R = rows_of b in
    let t = step n ss R (32 - l.counter) l.c c.if-c-n.false l.invariant.0 in
    let one : 32 - l.counter - 1 ≡ 32 - (l.counter + 1) = omega arith in
    let w : get_or ss c.table_of-t.result 0 + c.origin_of.result ≡ get_or ss (table_of n l.c) 0 + origin_of n l.c =
    ap₂ (λ (p q : ℕ). p + q) (ap (λ (k : ℕ). get_or ss k 0) c.table_of-t.ensures) c.origin_of.ensures in
    let e : origin_id n ss R l.c ≡ c.at-e.result.id =
    ap (λ (k : ℕ). (entry R k).id) (sym w) ∙ sym (ap (λ (v : Entry). v.id) c.at-e.ensures) in (
      (subst (λ (f : ℕ). Chain n ss R f c.at-e.result.id) one (subst (λ (k : ℕ). Chain n ss R (32 - l.counter - 1) k) e t.rest)),
      sym (λ k. lead_of n ss R (one k) (e k)) ∙ t.same ∙ l.invariant.1,
      omega (arith, c.at-e.type_inv),
    )

pub returns : goal.returns
returns c =
    let b = c.args.self.now in
    let s = b.state.now in
    let l = c.loop in
    let c-lamp = chain-end s.count s.starts (rows_of b) (32 - l.counter) l.c (omega arith) l.invariant.0 in
    sym (lead-lamp s.count s.starts (rows_of b) (32 - l.counter) l.c c-lamp) ∙ l.invariant.1
