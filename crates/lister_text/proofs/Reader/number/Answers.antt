-- `lister_text::Reader::number` meets its contract: a first digit, and what follows it. Assumes nothing.
use Rattle.std.proofs.Common.{sym, ◌∙◌, ap, List, ℕ, drop, ◌-◌}
use Rattle.lister_text.specs.laws.Scan.{more_text, number-byte, number-end}
use Rattle.lister_text.proofs.Reader.number.Goals as goal

pub returns-in_err-c-clause-read : goal.returns-in_err-c-clause-read
returns-in_err-c-clause-read c = rw c.from_residual.ensures (sym (number-end _ _ c.in_err-c.ensures.read))

pub returns-then-not-is_ascii_digit-clause-read : goal.returns-then-not-is_ascii_digit-clause-read
returns-then-not-is_ascii_digit-clause-read c =
    let no = sym c.is_ascii_digit.ensures.value ∙ c.if-not-is_ascii_digit.true in
    sym (number-byte _ _ _ _ c.in_ok-c.ensures.read ∙ simp no)

pub returns-clause-read : goal.returns-clause-read
returns-clause-read c =
    let yes = sym c.is_ascii_digit.ensures.value ∙ c.if-not-is_ascii_digit.false in
    let to = c.byte.new.self.at in
    c.more.ensures.read ∙ ap (λ (l : List ℕ). more_text (c.in_ok-c.c - 48) to (drop to l)) (λ k. (c.in_ok-c.ensures.text k).now)
    ∙ sym (number-byte c.args.self.now.text.now c.args.self.now.at c.in_ok-c.c to c.in_ok-c.ensures.read ∙ simp yes)
