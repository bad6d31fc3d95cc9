-- Two replies that meet a contract which says what the reply is are equal. Each public function's own line of this stands in its crate.
-- Assumes nothing.
use Rattle.std.specs.Prelude.{◌≡◌}
use Rattle.std.proofs.Common.{sym, ◌∙◌}

pub same-reply : {A : Type 0} {answer r s : A} → r ≡ answer → s ≡ answer → r ≡ s
same-reply p q = p ∙ sym q
