-- Any two replies that meet the contract of a public method of the options or the state, or of `new_state`, are equal. Assumes nothing.
use Rattle.std.specs.Prelude.{◌≡◌, Bool, ℕ}
use Rattle.floats.specs.laws.Replies.{same-reply}
use Rattle.build_tables.specs.declared.Options.{Options}
use Rattle.build_tables.specs.declared.State.{State}
use Rattle.build_tables.specs.declared.columns.Tables.{Tables}
use Rattle.build_tables.specs.declared.columns.TablesMut.{TablesMut}
use Rattle.build_tables.specs.Options.{options_ok, zoom_used}
use Rattle.build_tables.specs.State.{new_state}
use Rattle.build_tables.specs.Sound.{state_ok}
use Rattle.build_tables.specs.Lent.{tables_held, tables_held_mut}

pub options-replies : (o : Options) (r t : Bool) → r ≡ options_ok o → t ≡ options_ok o → r ≡ t
options-replies o r t = same-reply

pub zoom-replies : (o : Options) (zoom r t : ℕ) → r ≡ zoom_used o zoom → t ≡ zoom_used o zoom → r ≡ t
zoom-replies o zoom r t = same-reply

pub sound-replies : (s : State) (cap : ℕ) (r t : Bool) → r ≡ state_ok s cap → t ≡ state_ok s cap → r ≡ t
sound-replies s cap r t = same-reply

pub new-replies : (o : Options) (n : ℕ) (r t : State) → r ≡ new_state o n → t ≡ new_state o n → r ≡ t
new-replies o n r t = same-reply

-- the columns of a build, to be read: what any two replies hold is equal
pub lent-replies : (m : TablesMut) (r t : Tables) → tables_held r ≡ tables_held_mut m → tables_held t ≡ tables_held_mut m
    → tables_held r ≡ tables_held t
lent-replies m r t = same-reply
