-- Any two replies that meet the contract of a public function of this crate are equal. Assumes nothing.
use Rattle.std.specs.Prelude.{◌≡◌, List, ℕ, Float}
use Rattle.floats.specs.laws.Replies.{same-reply}
use Rattle.kdslots.specs.declared.Query.{Query}
use Rattle.kdwalk.specs.Reply.{Step, step_carried, first_step, after_step}

pub first-replies : (q : Query) (size n : ℕ) (co : List Float) (r t : Step) → r ≡ first_step q size n co → t ≡ first_step q size n co → r ≡ t
first-replies q size n co r t = same-reply

pub after-replies : (q : Query) (size n : ℕ) (co : List Float) (c : ℕ) (r t : Step) → r ≡ after_step q size n co c
    → t ≡ after_step q size n co c → r ≡ t
after-replies q size n co c r t = same-reply

-- what a step carries; its number is that of any reply (`number-replies` of refusals)
pub carried-replies : (s : Step) (r t : ℕ) → r ≡ step_carried s → t ≡ step_carried s → r ≡ t
carried-replies s r t = same-reply
