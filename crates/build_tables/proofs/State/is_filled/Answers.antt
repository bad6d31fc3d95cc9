-- `State::is_filled` meets its contract: past the test of the finest table, what is left to test from a table on is the whole test.
-- Assumes nothing.
use Rattle.std.proofs.Common.{◌≡◌, Bool, ◌&&◌, ℕ, ◌+◌, eqb, sym, ◌∙◌, arith, eq-eqb}
use Rattle.build_tables.specs.declared.State.{State}
use Rattle.build_tables.specs.Options.{table_count}
use Rattle.build_tables.specs.State.{len_of}
use Rattle.build_tables.specs.Sound.{packed}
use Rattle.build_tables.specs.laws.Sound.{packed-next, packed-last, table_is}
use Rattle.build_tables.proofs.State.is_filled.Goals as goal

-- the whole contract, from the tables' part of it
whole : (s : State) (cap : ℕ) (b : Bool) → len_of s (s.options.max_zoom + 1) ≡ s.count → b ≡ packed s cap (table_count s.options) 0
    → b ≡ (eqb (len_of s (s.options.max_zoom + 1)) s.count && packed s cap (table_count s.options) 0)
whole s cap b f e = e ∙ sym (simp (eq-eqb _ _ f))

pub returns-then-not-is_table : goal.returns-then-not-is_table
returns-then-not-is_table c =
    let s = c.args.self.now in
    let l = c.loop-left in
    whole s c.args.cap _ c.if-self-o.false
    (sym (packed-next s c.args.cap l.left l.at c.loop-left-test.true ∙ simp (sym c.is_table.ensures ∙ c.if-not-is_table.true))
    ∙ l.invariant.1)

pub loop-left-preserved : goal.loop-left-preserved
loop-left-preserved c =
    let s = c.args.self.now in
    let l = c.loop-left in
    let i = sym c.is_table.ensures ∙ c.if-not-is_table.false in
    let t = table_is s _ _ i in (
      omega (arith, t, l.invariant.0, c.requires, c.loop-left-test.true),
      sym (packed-next s c.args.cap l.left l.at c.loop-left-test.true ∙ simp i) ∙ l.invariant.1,
    )

pub returns : goal.returns
returns c =
    let s = c.args.self.now in
    let l = c.loop-left in
    whole s c.args.cap _ c.if-self-o.false (sym (packed-last s c.args.cap l.left l.at c.loop-left-test.false) ∙ l.invariant.1)
