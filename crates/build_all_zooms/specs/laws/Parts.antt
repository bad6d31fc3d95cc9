-- Parts of columns that are written anew. Assumes nothing.
use Rattle.std.specs.Prelude.{◌≡◌, List, ◌++◌, ℕ, ◌+◌, ◌≤◌, length, take, drop}
use Rattle.std.proofs.Common.{ap, sym, ◌∙◌, arith, length-append, take-append-drop, take_at, drop_at, length-take-le, drop-drop}
use Rattle.build_tables.specs.Columns.{part}

-- a part of a column, written anew
abbrev pub put_at : {A : Type 0} → ℕ → ℕ → List A → List A → List A
put_at at len p l = take at l ++ (p ++ drop len (drop at l))

module _ {A : Type 0} (at len : ℕ) (p l : List A) (h : at + len ≤ length l) (e : length p ≡ len) where
  long : length (take at l) ≡ at
  long = length-take-le at l (omega arith)

  pub take_put : take at (put_at at len p l) ≡ take at l
  take_put = take_at (take at l) (p ++ drop len (drop at l)) at long

  pub part-put : part at len (put_at at len p l) ≡ p
  part-put = rw (drop_at (take at l) (p ++ drop len (drop at l)) at long) (take_at p (drop len (drop at l)) len e)

  pub drop-put : drop (at + len) (put_at at len p l) ≡ drop (at + len) l
  drop-put =
      sym (drop-drop len at (put_at at len p l))
      ∙ rw (drop_at (take at l) (p ++ drop len (drop at l)) at long) (drop_at p (drop len (drop at l)) len e)
      ∙ drop-drop len at l

-- a part that comes back as long as it was lent leaves the column as long as it was
pub put-long : {A : Type 0} (at len : ℕ) (p l : List A) → length p ≡ length (part at len l) → length (put_at at len p l) ≡ length l
put-long at len p l e =
    let r = drop len (drop at l) in
    let whole : length (take at l ++ drop at l) ≡ length l = ap length (take-append-drop at l) in
    let rest : length (take len (drop at l) ++ r) ≡ length (drop at l) = ap length (take-append-drop len (drop at l)) in
    omega (
      arith,
      e,
      length-append (take at l) (p ++ r),
      length-append p r,
      length-append (take at l) (drop at l),
      length-append (take len (drop at l)) r,
      whole,
      rest,
    )
