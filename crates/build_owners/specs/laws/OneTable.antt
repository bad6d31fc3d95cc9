-- From table z + 1 to table z: what `send` and `climb` are asked holds of a state that is climbable, and what they leave are the owners in
-- table z. Assumes nothing.
use Rattle.std.specs.Prelude.{◌≡◌, refl, ◌⊎◌, List, ℕ, suc, ◌+◌, ◌-◌, ◌<◌, ◌≤◌, length, get_or, take, drop}
use Rattle.std.proofs.Common.{sym, ap, ◌∙◌, subst, add-one, le_trans, arith, length-drop, get_or-take, get_or-drop, length-take-le}
use Rattle.build_tables.specs.declared.State.{State}
use Rattle.build_tables.specs.Entries.{Table, entry, unset}
use Rattle.build_tables.specs.State.{start_of, len_of}
use Rattle.supercluster.specs.laws.Held.{held_by}
use Rattle.build_owners.specs.OwnerColumn.{owner_in}
use Rattle.build_owners.specs.laws.Climbs.{seat_of, owner_on, lead_at, finer, Climbs, Climbable}
use Rattle.build_owners.specs.laws.Fills.{Wrote, wrote_as, lead_from, Sends, Sent, next_owner, Sits}

-- lamps that share an owner share the next
pub owner-same : (s : State) (R : Table) (z : ℕ) → z ≤ s.options.max_zoom → (l m : ℕ) → finer s R z l ≡ finer s R z m
    → owner_on s R z l ≡ owner_on s R z m
unfolding owner_in
owner-same s R z h l m e =
    let i = s.options.max_zoom + 1 - suc z in
    let q : s.options.max_zoom + 1 - z ≡ suc (s.options.max_zoom + 1 - suc z) = omega arith in
    ap (λ (k : ℕ). owner_in (held_by s R) k l) q ∙ next (held_by s R) i l m e ∙ sym (ap (λ (k : ℕ). owner_in (held_by s R) k m) q)
  where
    next : (ts : List Table) (i l m : ℕ) → owner_in ts i l ≡ owner_in ts i m → owner_in ts (suc i) l ≡ owner_in ts (suc i) m
    next ts i l m e = rw e refl

module _ (s : State) (R : Table) (z : ℕ) (C : Climbable s R) (lo : s.options.min_zoom ≤ z) (hi : z ≤ s.options.max_zoom)
    (owners : List ℕ) (at : ℕ) (room : at + s.count + s.count ≤ length owners)
    (own : (l : ℕ) → l < s.count → get_or owners (at + l) 0 ≡ finer s R z l) where
  W : Climbs s R z
  W = C.climbs z lo hi

  -- the finer table's part of the column
  abbrev part : List ℕ
  part = take (at + s.count - at) (drop at owners)

  part-long : length part ≡ s.count
  part-long =
      let d = length-drop at owners in
      let n : at + s.count - at ≡ s.count = omega arith in
      length-take-le (at + s.count - at) (drop at owners) (omega arith) ∙ n

  part_at : (l : ℕ) → l < s.count → get_or part l 0 ≡ finer s R z l
  part_at l h = get_or-take (at + s.count - at) (drop at owners) l 0 (omega arith) ∙ get_or-drop at owners l 0 ∙ own l h

  -- where the entry d of table z is from
  spot-at : (d : ℕ) → d < len_of s z → get_or part (lead_at s R z d) 0 ≡ finer s R z (lead_at s R z d)
  spot-at d h = part_at (lead_at s R z d) (W.led d h)

  pub sends-here : (m : ℕ) → m ≡ s.count → Sends s.count s.starts R (start_of s z) (len_of s z) part m
  sends-here m q =
      record {
        few = le_trans W.few C.few;
        inside = W.inside;
        small = C.starts-small z lo (omega arith);
        chained = W.chained;
        led = λ d h. (let a = W.led d h in let b = part-long in omega arith);
        room = λ d h. (let a = spot-at d h in let b = W.finer-there (lead_at s R z d) (W.led d h) in let c = W.finer-few in omega arith);
        once = λ d f h g v.
            sym (W.owned d h)
            ∙ owner-same s R z hi (lead_at s R z d) (lead_at s R z f) (sym (spot-at d h) ∙ v ∙ spot-at f g)
            ∙ W.owned f g;
      }

  -- lamp l's owner in table z + 1, among the rows
  sits-at : (m : ℕ) → m ≡ s.count → Sits s.count R (start_of s (suc z)) m owners at
  sits-at m q =
      record {
        few = C.few;
        small = C.starts-small (suc z) (omega arith) (omega arith);
        long = room;
        inside = λ l h. (let a = own l h in let b = W.finer-there l h in let c = W.finer-inside in omega arith);
        parent-set = λ l h.
            subst (λ (k : ℕ). ((entry R (start_of s (suc z) + k)).parent ≡ unset) ⊎ (s.count ≤ (entry R (start_of s (suc z) + k)).parent))
            (sym (own l h)) (W.parent-set l h);
        room = λ l h.
            (let a = seat-at l h in
            let b = W.finer-there (lead_at s R z (owner_on s R z l)) (W.led (owner_on s R z l) (W.there l h)) in
            let c = W.finer-few in
            omega arith);
      }
    where
      seat-at : (l : ℕ) → l < s.count → seat_of s.count (entry R (start_of s (suc z) + get_or owners (at + l) 0)) (get_or owners (at + l) 0)
          ≡ finer s R z (lead_at s R z (owner_on s R z l))
      seat-at l h = ap (λ (k : ℕ). seat_of s.count (entry R (start_of s (suc z) + k)) k) (own l h) ∙ W.seated l h

  pub sits_here : (m : ℕ) → m ≡ s.count → Sits s.count R (start_of s (z + 1)) m owners at
  sits_here m q = subst (λ (y : ℕ). Sits s.count R (start_of s y) m owners at) (sym (add-one z)) (sits-at m q)

  -- where it goes
  next-at : (to : List ℕ) → Sent (λ d. get_or part (lead_from s.count s.starts R (start_of s z) d) 0) (len_of s z) to
      → (l : ℕ) → l < s.count → next_owner s.count R (start_of s (suc z)) to owners at l ≡ owner_on s R z l
  next-at to t l h =
      let d = owner_on s R z l in
      ap (λ (j : ℕ). get_or to (seat_of s.count (entry R (start_of s (suc z) + j)) j) 0) (own l h)
      ∙ ap (λ (j : ℕ). get_or to j 0) (W.seated l h ∙ sym (spot-at d (W.there l h)))
      ∙ t d (W.there l h)

  pub climbed-here : (to b : List ℕ) → Sent (λ d. get_or part (lead_from s.count s.starts R (start_of s z) d) 0) (len_of s z) to
      → Wrote (at + s.count) s.count (next_owner s.count R (start_of s (z + 1)) to owners at) owners b
      → Wrote (at + s.count) s.count (owner_on s R z) owners b
  climbed-here to b t w =
      wrote_as (at + s.count) s.count _ (owner_on s R z) owners b w
      (λ l h. ap (λ (y : ℕ). next_owner s.count R (start_of s y) to owners at l) (add-one z) ∙ next-at to t l h)
