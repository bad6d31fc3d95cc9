-- The loops over the slots of a ring: what one slot says of the next child, and, where children are listed, that those listed and those
-- ahead are all of them. Assumes nothing.
use mathlib.Core.Bool.{Bool, true, false}
use mathlib.Core.Path.{◌≡◌, refl, sym, ap, subst, ◌∙◌}
use mathlib.Core.List.{List, [], ◌∷◌, ◌++◌, append-nil}
use Rattle.std.specs.Prelude.{Option, Some, Ok, Err}
use Prim.Native.Nat.{ℕ, ◌+◌, ◌<◌, ◌≤◌}
use native.Mathlib.Omega.{arith}
use lib.ListN.{length, get_or, set, length-append}
use lib.Seq.{append_snoc}
use Rattle.kdpages.specs.declared.Pages.{Pages}
use Rattle.kdwalk.specs.laws.Cursor.{head_of}
use Rattle.kdpages.specs.Pages.{tail_of}
use Rattle.kdslots.specs.laws.All.{AllBelow}
use Rattle.kdbush.specs.Run.{filled}
use Rattle.build_tables.specs.declared.Entry.{Entry}
use Rattle.build_tables.specs.Entries.{entry}
use Rattle.ask_base.specs.laws.Filled.{filled_none, filled_next, filled-length}
use Rattle.ask_base.specs.laws.Around.{Around, slots_of, ahead_in, ring-below, ring-next, ring-end, slots-few}
use Rattle.refusals.specs.declared.Refusal.{Refusal}
use Rattle.refusals.specs.declared.Refusal.TheVariants.{Spoiled}
use Rattle.ask_child_walk.specs.laws.Next.{kids_in, clean_in, kids_reply, Listed, child, no_child, past, next_in, Further}
use Rattle.ask_child_walk.specs.laws.Next.{next-none, next_past, next-kid, next-other}

-- ---- one step of the walk

-- of the slots l the first is i, which lies in the table and names the place p, and the others are l'
pub record Met (g : Around) (l : List ℕ) (i : ℕ) (l' : List ℕ) (p : ℕ) : Type 0 where
  pub first : l ≡ i ∷ l'
  pub inside : i < g.len
  pub below : AllBelow g.len l'
  pub place : p ≡ get_or g.ids i 0

-- the step r, with what was ahead of it and what is ahead now
module _ (g : Around) (page : List ℕ) (at : Pages) (r : Option ℕ) (page' : List ℕ) (at' : Pages) (f : r ≡ head_of (ahead_in g page at))
    (w : ahead_in g page' at' ≡ tail_of (ahead_in g page at)) where
  pub ended : ((i : ℕ) → r ≡ Some i → ⊥) → ahead_in g page at ≡ []
  ended h = ring-end g page at r f h

  pub met : (i : ℕ) → r ≡ Some i → AllBelow g.len (ahead_in g page at)
      → Met g (ahead_in g page at) i (ahead_in g page' at') (get_or g.ids i 0)
  met i d b =
      let n = ring-next g page at r f page' at' w i d b in
      record { first = n.0; inside = n.1; below = n.2; place = refl }

-- ---- the search for the next child

module _ (g : Around) (id : ℕ) where
  pub end_none : (l : List ℕ) → l ≡ [] → next_in g id l ≡ no_child
  end_none l e = ap (next_in g id) e ∙ next-none g.table g.ids g.len id

  module _ (l : List ℕ) (i : ℕ) (l' : List ℕ) (p : ℕ) (m : Met g l i l' p) where
    pub met-past : g.len ≤ p → next_in g id l ≡ past Spoiled
    met-past h = ap (next_in g id) m.first ∙ next_past g.table g.ids g.len id i l' p m.place h

    module _ (y : Entry) (f : y ≡ entry g.table p) (h : p < g.len) where
      pub met-kid : y.parent ≡ id → next_in g id l ≡ child p y l'
      met-kid k = ap (next_in g id) m.first ∙ next-kid g.table g.ids g.len id i l' p m.place y f h k

      pub met-other : (y.parent ≡ id → ⊥) → next_in g id l ≡ next_in g id l'
      met-other k = ap (next_in g id) m.first ∙ (next-other g.table g.ids g.len id i l' p m.place y f h k).0

-- ---- the children listed

module _ (g : Around) (id : ℕ) (out₀ : List ℕ) where
  -- what is listed, and the slots l that are ahead
  pub record Going (out : List ℕ) (k : ℕ) (l : List ℕ) : Type 0 where
    pub below : AllBelow g.len l
    pub done : List ℕ
    pub count : k ≡ length done
    pub column : out ≡ filled done out₀
    pub few : k + length l ≤ g.len
    pub kids : done ++ kids_in g id l ≡ kids_in g id (slots_of g)
    pub clean : clean_in g l ≡ clean_in g (slots_of g)

  pub going-first : (l : List ℕ) → l ≡ slots_of g → Going out₀ 0 l
  going-first l e =
      record {
        below = subst (AllBelow g.len) (sym e) (ring-below g);
        done = [];
        count = refl;
        column = sym (filled_none out₀);
        few = omega (arith, ap length e, slots-few g);
        kids = ap (kids_in g id) e;
        clean = ap (clean_in g) e;
      }

  module _ (out : List ℕ) (k : ℕ) (l : List ℕ) (w : Going out k l) where
    pub going-length : length out ≡ length out₀
    going-length = ap length w.column ∙ filled-length w.done out₀

    -- one child more
    module _ (p : ℕ) (y : Entry) (l' : List ℕ) (f : Further g id l p y l') where
      pub going-room : k < g.len
      going-room = omega (arith, w.few, f.less)

      pub going_on : (out' : List ℕ) → out' ≡ set out k p → Going out' (k + 1) l'
      going_on out' d =
          record {
            below = f.below w.below;
            done = w.done ++ (p ∷ []);
            count = omega (arith, w.count, length-append w.done (p ∷ []));
            column = d ∙ rw (w.column, w.count) (filled_next w.done p out₀);
            few = omega (arith, w.few, f.less);
            kids = append_snoc w.done p (kids_in g id l') ∙ ap (λ (m : List ℕ). w.done ++ m) (sym f.kids) ∙ w.kids;
            clean = sym f.clean ∙ w.clean;
          }

    -- none is ahead
    ends : (b : Bool) → (kids_in g id l ≡ []) × (clean_in g l ≡ b) → Listed g id out₀ (kids_reply b k) out
    ends b h =
        let d = sym (append-nil w.done) ∙ ap (λ (m : List ℕ). w.done ++ m) (sym h.0) ∙ w.kids in
        (simp (sym (sym h.1 ∙ w.clean), sym (w.count ∙ ap length d)), w.column ∙ ap (λ (m : List ℕ). filled m out₀) d)

    pub going_done : (kids_in g id l ≡ []) × (clean_in g l ≡ true) → Listed g id out₀ (Ok k) out
    going_done h = ends true h

    pub going-refused : (x : Refusal) → (x ≡ Spoiled) × (kids_in g id l ≡ []) × (clean_in g l ≡ false) → Listed g id out₀ (Err x) out
    going-refused x h = rw h.0 (ends false (h.1, h.2))
