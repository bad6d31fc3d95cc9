-- How the first steps of a question make its answer: the room of the columns, where the id leads, the refusals that write nothing, and the
-- children that are listed there. Assumes nothing.
use mathlib.Core.Bool.{true, false}
use mathlib.Core.Path.{◌≡◌, refl, sym, ap, ◌∙◌}
use mathlib.Core.List.{List, [], ◌∷◌}
use Prim.Native.Nat.{ℕ}
use native.Mathlib.Nat.{le_refl}
use native.Mathlib.Omega.{arith}
use lib.ListN.{length}
use Rattle.std.specs.Prelude.{Ok, Err}
use Rattle.kdbush.specs.Run.{filled}
use Rattle.build_tables.specs.declared.State.{State}
use Rattle.build_tables.specs.Room.{Columns, room_of}
use Rattle.refusals.specs.declared.Refusal.{Refusal}
use Rattle.refusals.specs.declared.Refusal.TheVariants.{Spoiled}
use Rattle.ask_base.specs.declared.Origin.{Origin}
use Rattle.ask_base.specs.Answers.{Answer}
use Rattle.ask_base.specs.Asked.{Asked, refused, answer_of, column_of}
use Rattle.ask_base.specs.Ids.{Target, target_of}
use Rattle.ask_base.specs.laws.Reached.{Reached, target-reached}
use Rattle.ask_base.specs.laws.Around.{Around, ring_at}
use Rattle.ask_child_walk.specs.Kids.{kids_at, clean_at}
use Rattle.ask_child_walk.specs.laws.Next.{kids_reply, Listed, listed-around, all-is, refused-is}
use Rattle.ask_cluster.specs.Children.{at_target}

pub none_is : (l : List ℕ) → length l ≡ 0 → l ≡ []
none_is [] e = refl
none_is (a ∷ l) e = absurd (omega arith)

-- code that answers r, and leaves out' where out was, answers the question a
abbrev pub Gives : Asked → Answer → List ℕ → List ℕ → Type 0
Gives a r out out' = (r ≡ answer_of a (length out)) × (out' ≡ column_of a out)

pub gives : (a b : Asked) (r : Answer) (out out' : List ℕ) → a ≡ b → Gives b r out out' → Gives a r out out'
gives a b r out out' e g = (g.0 ∙ ap (λ (x : Asked). answer_of x (length out)) (sym e), g.1 ∙ ap (λ (x : Asked). column_of x out) (sym e))

-- the id leads to t, over columns of cap entries
pub record Led (s : State) (c : Columns) (id cap : ℕ) (t : Target) : Type 0 where
  pub room : cap ≡ room_of c
  pub target : t ≡ target_of s cap id

module _ {s : State} {c : Columns} {id cap : ℕ} {t : Target} (q : Led s c id cap t) where
  pub leads : (u : Target) → t ≡ u → target_of s (room_of c) id ≡ u
  leads u d = sym (q.target ∙ ap (λ (n : ℕ). target_of s n id) q.room) ∙ d

  pub reached : (a : Origin) → t ≡ Ok a → Reached s (room_of c) a.table a.place
  reached a d = target-reached s (room_of c) id a.table a.place (leads (Ok a) d)

  -- the id leads to a refusal
  pub gives-refused : (e : Refusal) (f : ℕ → ℕ → Asked) → t ≡ Err e → (out : List ℕ)
      → Gives (at_target (target_of s (room_of c) id) f) (Err e) out out
  gives-refused e f d out =
      gives (at_target (target_of s (room_of c) id) f) (refused e) (Err e) out out (ap (λ (x : Target). at_target x f) (leads (Err e) d))
      (refl, refl)

-- a search around the entry o of zoom z's table for the children of the cluster id replied r, and left out' where out was
pub record Looked (s : State) (c : Columns) (id z o : ℕ) (out : List ℕ) (r : Answer) (out' : List ℕ) : Type 0 where
  pub reply : r ≡ kids_reply (clean_at s c z o) (length (kids_at s c id z o))
  pub column : out' ≡ filled (kids_at s c id z o) out

-- it did, where the entry was reached
pub looked : (s : State) (c : Columns) (id z o : ℕ) → Reached s (room_of c) z o → (g : Around) → g ≡ ring_at s c z o
    → (out : List ℕ) (r : Answer) (out' : List ℕ) → Listed g id out r out' → Looked s c id z o out r out'
looked s c id z o h g e out r out' l =
    let w = listed-around s c (room_of c) z o h (le_refl (room_of c)) g e id out r out' l in
    record { reply = w.0; column = w.1 }

module _ {s : State} {c : Columns} {id z o : ℕ} {out : List ℕ} {r : Answer} {out' : List ℕ} (q : Looked s c id z o out r out') where
  pub looked-refused : (x : Refusal) → r ≡ Err x → (clean_at s c z o ≡ false) × (x ≡ Spoiled)
  looked-refused x v = refused-is (clean_at s c z o) _ x (sym v ∙ q.reply)

  pub looked-all : (n : ℕ) → r ≡ Ok n → (clean_at s c z o ≡ true) × (n ≡ length (kids_at s c id z o))
  looked-all n v = all-is (clean_at s c z o) _ n (sym v ∙ q.reply)
