-- `lister_text::Reader::more` meets its contract: what is left of the number decides. Assumes nothing.
use Rattle.std.proofs.Common.{sym, ◌∙◌, ap, ◌+◌, ◌-◌, ◌*◌, arith, List, ℕ, drop, eq-eqb, ne_eqb, lt-ltb, le-ltb}
use Rattle.lister_text.specs.laws.Scan.{more_text, more-byte, more-end}
use Rattle.lister_text.specs.laws.Reading.{digit}
use Rattle.lister_text.proofs.Reader.more.Goals as goal

pub returns-in_err-c-clause-read : goal.returns-in_err-c-clause-read
returns-in_err-c-clause-read c =
    rw c.from_residual.ensures (sym (more-end _ _ c.in_err-c.ensures.read c.loop-c.v) ∙ c.loop-c.invariant.1)

pub returns-then-c-eq10-clause-read : goal.returns-then-c-eq10-clause-read
returns-then-c-eq10-clause-read c =
    sym (more-byte _ _ _ _ c.in_ok-c.ensures.read c.loop-c.v ∙ simp (eq-eqb _ _ c.if-c-eq10.true)) ∙ c.loop-c.invariant.1

pub returns-then-not-is_ascii_digit-clause-read : goal.returns-then-not-is_ascii_digit-clause-read
returns-then-not-is_ascii_digit-clause-read c =
    let no = sym c.is_ascii_digit.ensures.value ∙ c.if-not-is_ascii_digit.true in
    sym (more-byte _ _ _ _ c.in_ok-c.ensures.read c.loop-c.v ∙ simp (ne_eqb _ _ c.if-c-eq10.false, no)) ∙ c.loop-c.invariant.1

pub returns-then-v-lt1-clause-read : goal.returns-then-v-lt1-clause-read
returns-then-v-lt1-clause-read c =
    let yes = sym c.is_ascii_digit.ensures.value ∙ c.if-not-is_ascii_digit.false in
    sym (more-byte _ _ _ _ c.in_ok-c.ensures.read c.loop-c.v
    ∙ simp (ne_eqb _ _ c.if-c-eq10.false, yes, lt-ltb _ _ c.if-v-lt1.true)) ∙ c.loop-c.invariant.1

pub returns-then-v-gt999999-clause-read : goal.returns-then-v-gt999999-clause-read
returns-then-v-gt999999-clause-read c =
    let yes = sym c.is_ascii_digit.ensures.value ∙ c.if-not-is_ascii_digit.false in
    sym (more-byte _ _ _ _ c.in_ok-c.ensures.read c.loop-c.v
    ∙ simp (ne_eqb _ _ c.if-c-eq10.false, yes, le-ltb _ _ c.if-v-lt1.false, lt-ltb _ _ c.if-v-gt999999.true))
    ∙ c.loop-c.invariant.1

pub loop-c-preserved : goal.loop-c-preserved
loop-c-preserved c =
    let yes = sym c.is_ascii_digit.ensures.value ∙ c.if-not-is_ascii_digit.false in (
      c.in_ok-c.ensures.text ∙ c.loop-c.invariant.0,
      ap (λ (l : List ℕ). more_text (c.loop-c.v * 10 + (c.in_ok-c.c - 48)) c.byte.new.self.at (drop c.byte.new.self.at l))
          (λ k. (c.in_ok-c.ensures.text k).now)
          ∙ sym (more-byte _ _ _ _ c.in_ok-c.ensures.read c.loop-c.v
          ∙ simp (ne_eqb _ _ c.if-c-eq10.false, yes, le-ltb _ _ c.if-v-lt1.false, le-ltb _ _ c.if-v-gt999999.false))
          ∙ c.loop-c.invariant.1,
      omega (arith, digit c.in_ok-c.c yes),
    )
