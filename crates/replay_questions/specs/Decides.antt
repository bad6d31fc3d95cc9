-- What it says that a question agrees: the stored reply and the stored columns are those of the definition, and none else. Assumes nothing.
use Rattle.std.specs.Prelude.{true, ◌&&◌, List, ◌≡◌, refl, ℕ, eqb, ℤ, length, Result}
use Rattle.std.proofs.Common.{ap, ◌∙◌, eqb-true, eq-eqb}
use Rattle.kdslots.specs.laws.Bounds.{and_both}
use Rattle.refusals.specs.declared.Refusal.{Refusal}
use Rattle.refusals.specs.Refusals.{number, carried}
use Rattle.ask_base.specs.Asked.{Asked, answer_of, column_of}
use Rattle.ask_cluster.specs.Expansion.{Expansion}
use Rattle.ask_tile.specs.Asked.{TileOutcome}
use Rattle.replay_vectors.specs.Same.{same_places, same_longs}
use Rattle.replay_vectors.specs.Equal.{places-equal, places-self, longs-equal, longs-self}
use Rattle.replay_questions.specs.declared.Reply.{Reply}
use Rattle.replay_questions.specs.Same.{same_reply, same_tile, lists_to, zooms_to, tiles_to, sums_to}

-- the reply of this number that carries so much
abbrev pub reply_of : ℕ → ℕ → Reply
reply_of n k = record { number = n; carried = k }

-- that of an answer, an expansion zoom or a tally
abbrev pub answer_reply : Result ℕ Refusal → Reply
answer_reply a = reply_of (number a) (carried a)

reply-one : (r : Reply) (a : Result ℕ Refusal) → same_reply r a ≡ true → r ≡ answer_reply a
unfolding same_reply
reply-one r a e =
    let w = and_both (eqb r.number (number a)) (eqb r.carried (carried a)) e in
    ap (λ (v : ℕ). reply_of v r.carried) (eqb-true r.number (number a) w.0)
    ∙ ap (λ (v : ℕ). reply_of (number a) v) (eqb-true r.carried (carried a) w.1)

reply-self : (a : Result ℕ Refusal) → same_reply (answer_reply a) a ≡ true
unfolding same_reply
reply-self a = rw (eq-eqb (number a) (number a) refl) (eq-eqb (carried a) (carried a) refl)

-- an expansion zoom, and a tally
pub zoom-one : (r : Reply) (e : Expansion) → zooms_to r e ≡ true → r ≡ answer_reply e
unfolding zooms_to
zoom-one r e = reply-one r e

pub zoom-self : (e : Expansion) → zooms_to (answer_reply e) e ≡ true
unfolding zooms_to
zoom-self e = reply-self e

pub sum_one : (r : Reply) (t : Result ℕ Refusal) → sums_to r t ≡ true → r ≡ answer_reply t
unfolding sums_to
sum_one r t = reply-one r t

pub sum_self : (t : Result ℕ Refusal) → sums_to (answer_reply t) t ≡ true
unfolding sums_to
sum_self t = reply-self t

-- a question that lists
pub lists-one : (r : Reply) (want : List ℕ) (a : Asked) (out : List ℕ) → lists_to r want a out ≡ true
    → (r ≡ answer_reply (answer_of a (length out))) × (want ≡ column_of a out)
unfolding lists_to
lists-one r want a out e =
    let v = answer_of a (length out) in
    let w = and_both (same_reply r v) (same_places want (column_of a out)) e in
    (reply-one r v w.0, places-equal want (column_of a out) w.1)

pub lists-self : (a : Asked) (out : List ℕ) → lists_to (answer_reply (answer_of a (length out))) (column_of a out) a out ≡ true
unfolding lists_to
lists-self a out = rw (reply-self (answer_of a (length out))) (places-self (column_of a out))

-- a tile
pub tile-one : (r : Reply) (want : List ℕ) (wx wy : List ℤ) (o : TileOutcome) → tiles_to r want wx wy o ≡ true
    → (r ≡ answer_reply o.answer) × (want ≡ o.places) × (wx ≡ o.xs) × (wy ≡ o.ys)
unfolding tiles_to same_tile
tile-one r want wx wy o e =
    let w = and_both (same_reply r o.answer) (same_tile want wx wy o.places o.xs o.ys) e in
    let u = and_both (same_places want o.places && same_longs wx o.xs) (same_longs wy o.ys) w.1 in
    let v = and_both (same_places want o.places) (same_longs wx o.xs) u.0 in
    (reply-one r o.answer w.0, places-equal want o.places v.0, longs-equal wx o.xs v.1, longs-equal wy o.ys u.1)

pub tile-self : (o : TileOutcome) → tiles_to (answer_reply o.answer) o.places o.xs o.ys o ≡ true
unfolding tiles_to same_tile
tile-self o =
    rw (reply-self o.answer)
    (rw (places-self o.places) (rw (longs-self o.xs) (longs-self o.ys)))
