-- Any two replies that meet the contract of a public function of this crate are equal. Assumes nothing.
use Rattle.std.specs.Prelude.{◌≡◌, ℕ, Result}
use Rattle.std.proofs.Common.{sym, ◌∙◌}
use Rattle.refusals.specs.declared.Refusal.{Refusal}
use Rattle.refusals.specs.Refusals.{number_of, carried_of, number, carried, refusal_carried}

-- the functions of a whole reply
pub number-replies : {A : Type 0} (a : Result A Refusal) (r t : ℕ) → r ≡ number a → t ≡ number a → r ≡ t
number-replies a r t p q = p ∙ sym q

pub carried-replies : (a : Result ℕ Refusal) (r t : ℕ) → r ≡ carried a → t ≡ carried a → r ≡ t
carried-replies a r t p q = p ∙ sym q

pub refusal-carried-replies : {A : Type 0} (a : Result A Refusal) (r t : ℕ) → r ≡ refusal_carried a → t ≡ refusal_carried a → r ≡ t
refusal-carried-replies a r t p q = p ∙ sym q

-- the methods of a refusal
pub number-of-replies : (e : Refusal) (r t : ℕ) → r ≡ number_of e → t ≡ number_of e → r ≡ t
number-of-replies e r t p q = p ∙ sym q

pub carried-of-replies : (e : Refusal) (r t : ℕ) → r ≡ carried_of e → t ≡ carried_of e → r ≡ t
carried-of-replies e r t p q = p ∙ sym q
