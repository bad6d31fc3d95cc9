-- `Options::extent_ok` meets its contract: the two tests are those of `extent_ok`. Assumes nothing.
use mathlib.Core.Path.{sym, ap, ◌∙◌}
use mathlib.Core.Bool.{Bool, ◌&&◌}
use lib.Ieee.{le, of_bits}
use Rattle.floats.specs.Numbers.{pow16}
use Rattle.build_tables.proofs.Options.extent_ok.Goals as goal

pub returns-then-self : goal.returns-then-self
unfolding of_bits
returns-then-self c = sym (ap (λ (b : Bool). b && le c.args.self.extent pow16) c.if-self.true)

pub returns-else-self : goal.returns-else-self
unfolding of_bits
returns-else-self c = c.if-self.false ∙ sym (ap (λ (b : Bool). b && le c.args.self.extent pow16) c.if-self.false)
