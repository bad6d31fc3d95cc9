-- What stands behind a reference as a function is called, and as it returns: behind a `&`, which only reads, and behind a `&mut`.
-- Definitions only.
use Rattle.std.specs.Prelude.{List}
use Rattle.std.specs.Borrow.{Bor, MutBor}
use denote.Triple.Both.{Both}

-- a slice behind a `&`, as a `requires` has it, and as an `ensures` has it: at the entry and at the exit
abbrev pub Slice : Type 0 → Type 0
Slice A = Bor (List A)

abbrev pub Lent : Type 0 → Type 0
Lent A = Both (Slice A) (Slice A)

-- the same behind a `&mut`
abbrev pub SliceMut : Type 0 → Type 0
SliceMut A = MutBor (List A)

abbrev pub LentMut : Type 0 → Type 0
LentMut A = Both (SliceMut A) (SliceMut A)

-- what stood there as the function was called
abbrev pub old : {A X : Type 0} → Both (Bor A) X → A
old x = x.entry.now

-- what stands there as it returns
abbrev pub new : {A X : Type 0} → Both X (MutBor A) → A
new x = x.exit.now
