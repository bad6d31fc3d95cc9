-- Each reply of a search over an index that may be searched, as how it came out. Assumes nothing.
use mathlib.Core.Path.{◌≡◌, refl, sym, ◌∙◌}
use mathlib.Core.Bool.{Bool, true, false, cond}
use mathlib.Core.List.{List}
use Prim.Native.Nat.{ℕ}
use lib.Dec.{leb}
use lib.ListN.{length}
use lib.Ieee.{Float}
use Rattle.std.specs.Prelude.{Ok, Err}
use Rattle.kdslots.specs.declared.Query.{Query}
use Rattle.refusals.specs.declared.Refusal.{Refusal}
use Rattle.refusals.specs.declared.Refusal.TheVariants.{NoRoom, Spoiled}
use Rattle.kdbush.specs.Run.{sound, whole, filled}
use Rattle.kdbush.specs.Reply.{found, index_ok, told_search, listed, listed_column}
use Rattle.ask_base.specs.Answers.{Answer}
use Rattle.ask_box.specs.laws.Joined.{part_of}

found-all : (b c : Bool) (k l : ℕ) → Ok k ≡ cond b (cond c (Ok l) (Err (NoRoom l))) (Err Spoiled) → Ok k ≡ part_of b l
found-all true true k l e = e
found-all true false k l e = cc
found-all false c k l e = cc

no_room : (b c : Bool) (k l : ℕ) → Err (NoRoom k) ≡ cond b (cond c (Ok l) (Err (NoRoom l))) (Err Spoiled) → Ok k ≡ part_of b l
no_room true true k l e = cc
no_room true false k l e = cc
no_room false c k l e = cc

past : (b c : Bool) (x : Refusal) (l : ℕ) → ((i : ℕ) → x ≡ NoRoom i → ⊥) → Err x ≡ cond b (cond c (Ok l) (Err (NoRoom l))) (Err Spoiled)
    → Err Spoiled ≡ part_of b l
past true true x l h e = cc
past true false x l h e = let y : x ≡ NoRoom l = cc in absurd (h l y)
past false c x l h e = refl

module _ (q : Query) (size n : ℕ) (ids : List ℕ) (co : List Float) (e : index_ok size n ids co ≡ true) (out : List ℕ) (r : Answer)
    (v : r ≡ listed q size n ids co (length out)) where
  abbrev l : List ℕ
  l = found q size n ids co

  told : r ≡ told_search (whole n l) (length l) (length out)
  unfolding listed
  told = v ∙ rw e

  pub came-all : (k : ℕ) → r ≡ Ok k → Ok k ≡ part_of (whole n l) (length l)
  came-all k d = found-all (whole n l) (leb (length l) (length out)) k (length l) (sym d ∙ told)

  pub came_no_room : (k : ℕ) → r ≡ Err (NoRoom k) → Ok k ≡ part_of (whole n l) (length l)
  came_no_room k d = no_room (whole n l) (leb (length l) (length out)) k (length l) (sym d ∙ told)

  pub came-past : (x : Refusal) → r ≡ Err x → ((i : ℕ) → x ≡ NoRoom i → ⊥) → Err Spoiled ≡ part_of (whole n l) (length l)
  came-past x d h = past (whole n l) (leb (length l) (length out)) x (length l) h (sym d ∙ told)

pub left_there : (q : Query) (size n : ℕ) (ids : List ℕ) (co : List Float) → index_ok size n ids co ≡ true → (out : List ℕ)
    → listed_column q size n ids co out ≡ filled (sound n (found q size n ids co)) out
unfolding listed_column
left_there q size n ids co e out = rw e
