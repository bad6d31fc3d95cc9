-- How the comparisons of the code are those of the definitions, over plain values. Assumes nothing.
use mathlib.Core.Bool.{Bool, ◌&&◌}
use mathlib.Core.List.{List}
use mathlib.Core.Path.{◌≡◌, refl, ap, sym, ◌∙◌}
use Prim.Native.Nat.{ℕ}
use lib.IntN.{ℤ}
use lib.ListN.{length}
use Rattle.build_tables.specs.declared.State.{State}
use Rattle.std.specs.Prelude.{Result}
use Rattle.refusals.specs.declared.Refusal.{Refusal}
use Rattle.ask_base.specs.Answers.{Answer}
use Rattle.ask_base.specs.Asked.{Asked, answer_of, column_of}
use Rattle.build_tables.specs.Room.{Columns}
use Rattle.ask_cluster.specs.Expansion.{Expansion}
use Rattle.ask_tile.specs.Asked.{TileOutcome, tile_outcome}
use Rattle.replay_vectors.specs.Chain.{◌and◌}
use Rattle.replay_vectors.specs.Same.{same_places}
use Rattle.replay_questions.specs.declared.Listing.{Listing}
use Rattle.replay_questions.specs.declared.Reply.{Reply}
use Rattle.replay_questions.specs.Same.{asked_of, same_reply, same_tile, lists_to, zooms_to, tiles_to}

-- a question of a known form
pub asks : (p q : Listing) (s : State) (c : Columns) (out : List ℕ) (r : Answer) (o : List ℕ) → p ≡ q
    → r ≡ answer_of (asked_of q s c) (length out) → o ≡ column_of (asked_of q s c) out
    → (r ≡ answer_of (asked_of p s c) (length out)) × (o ≡ column_of (asked_of p s c) out)
asks p q s c out r o e g h = (
  g ∙ ap (λ (v : Listing). answer_of (asked_of v s c) (length out)) (sym e),
  h
      ∙ ap (λ (v : Listing). column_of (asked_of v s c) out) (sym e),
)

-- a reply w, compared as m: r
module _ (reply : Reply) (m w : Result ℕ Refusal) (r : Bool) (h : r ≡ same_reply reply m) (e : m ≡ w) where
  told : (v : Result ℕ Refusal) → w ≡ v → r ≡ same_reply reply v
  told v g = h ∙ ap (same_reply reply) (e ∙ g)

  pub zoom-told : (d : Expansion) → w ≡ d → r ≡ zooms_to reply d
  unfolding zooms_to
  zoom-told d g = told d g

  -- a question that lists came to a
  pub lists-told : (want : List ℕ) (a : Asked) (out got : List ℕ) (q : Bool)
      → w ≡ answer_of a (length out) → got ≡ column_of a out → q ≡ same_places want got → (r && q) ≡ lists_to reply want a out
  unfolding lists_to
  lists-told want a out got q g f p = told (answer_of a (length out)) g and (p ∙ ap (same_places want) f)

  -- a tile left these columns
  pub tile-told : (want : List ℕ) (wx wy : List ℤ) (places : List ℕ) (xs ys : List ℤ) (o : TileOutcome) (q : Bool)
      → tile_outcome w places xs ys ≡ o → q ≡ same_tile want wx wy places xs ys → (r && q) ≡ tiles_to reply want wx wy o
  unfolding tiles_to
  tile-told want wx wy places xs ys o q f p = (told w refl and p) ∙ ap (tiles_to reply want wx wy) f
