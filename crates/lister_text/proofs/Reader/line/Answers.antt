-- `lister_text::Reader::line` meets its contract: a line is read where its key stands and its number is at most max. Assumes nothing.
use Rattle.std.proofs.Common.{◌≡◌, sym, ◌∙◌, ap, List, ℕ, ◌-◌, length, take, drop, eqb, le-ltb, le-leb}
use Rattle.std.proofs.lemmas.List.{take_rest}
use Rattle.std.specs.List.{starts_with}
use Rattle.std.proofs.lemmas.Bool.{lt-leb}
use Rattle.lister_text.specs.laws.Scan.{line_of, at_most}
use Rattle.lister_text.proofs.Reader.line.Goals as goal

-- the text from a place on, as indexing gives it
whole : (key s : List ℕ) (at : ℕ) → starts_with eqb (drop at s) key ≡ starts_with eqb (take (length s - at) (drop at s)) key
whole key s at = ap (λ (l : List ℕ). starts_with eqb l key) (sym (take_rest s at))

pub returns-then-not-starts_with-clause-read : goal.returns-then-not-starts_with-clause-read
unfolding line_of
returns-then-not-starts_with-clause-read c =
    sym (simp (
      le-ltb _ _ c.args.self.now.within,
      whole c.args.key.now c.args.self.now.text.now c.args.self.now.at ∙ sym c.starts_with.ensures.value ∙ c.if-not-starts_with.true,
    ))

pub returns-in_err-v-clause-read : goal.returns-in_err-v-clause-read
unfolding line_of at_most
returns-in_err-v-clause-read c =
    rw c.from_residual.ensures (sym (simp (
      le-ltb _ _ c.args.self.now.within,
      whole c.args.key.now c.args.self.now.text.now c.args.self.now.at ∙ sym c.starts_with.ensures.value ∙ c.if-not-starts_with.false,
      sym c.in_err-v.ensures.read,
    )))

pub returns-then-max-v-clause-read : goal.returns-then-max-v-clause-read
unfolding line_of at_most
returns-then-max-v-clause-read c =
    sym (simp (
      le-ltb _ _ c.args.self.now.within,
      whole c.args.key.now c.args.self.now.text.now c.args.self.now.at ∙ sym c.starts_with.ensures.value ∙ c.if-not-starts_with.false,
      sym c.in_ok-v.ensures.read,
      lt-leb _ _ c.if-max-v.true,
    ))

pub returns-clause-read : goal.returns-clause-read
unfolding line_of at_most
returns-clause-read c =
    sym (simp (
      le-ltb _ _ c.args.self.now.within,
      whole c.args.key.now c.args.self.now.text.now c.args.self.now.at ∙ sym c.starts_with.ensures.value ∙ c.if-not-starts_with.false,
      sym c.in_ok-v.ensures.read,
      le-leb _ _ c.if-max-v.false,
    ))
