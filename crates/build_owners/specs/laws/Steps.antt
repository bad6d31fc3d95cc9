-- From a cluster to the entry at its origin, and so on down to the lamp that it began with: one step of the way. And with which place of
-- its
-- table a place goes. Assumes nothing.
use mathlib.Core.Path.{◌≡◌, sym, ap, ◌∙◌, subst}
use Rattle.std.proofs.Common.{inl, inr, eq-eqb, ne_eqb}
use Rattle.std.specs.Prelude.{List, length, get_or}
use Prim.Native.Nat.{ℕ, zero, suc, ◌+◌, ◌-◌, ◌<◌, ◌≤◌}
use native.Mathlib.Omega.{arith}
use Rattle.build_tables.specs.declared.Entry.{Entry}
use Rattle.build_tables.specs.Entries.{Table, unset}
use Rattle.build_tables.specs.Ids.{origin_of, table_of}
use Rattle.build_owners.specs.laws.Climbs.{origin_id, lead_of, Chain, seat_of}
use Rattle.build_owners.specs.laws.Leads.{lead-cluster}

module _ (n : ℕ) (ss : List ℕ) (R : Table) where
  -- a cluster's origin is one of the rows, and both began with the same lamp
  pub record Step (f c : ℕ) : Type 0 where
    pub some : 1 ≤ f
    pub inside : get_or ss (table_of n c) 0 + origin_of n c < length R
    pub rest : Chain n ss R (f - 1) (origin_id n ss R c)
    pub same : lead_of n ss R (f - 1) (origin_id n ss R c) ≡ lead_of n ss R f c

  pub step : (f c : ℕ) → n ≤ c → Chain n ss R f c → Step f c
  unfolding Chain
  step zero c h k = absurd (omega arith)
  step (suc f) c h (inl k) = absurd (omega arith)
  step (suc f) c h (inr k) =
      let e : f ≡ suc f - 1 = omega arith in
      record {
        some = omega arith;
        inside = k.1;
        rest = subst (λ (g : ℕ). Chain n ss R g (origin_id n ss R c)) e k.2;
        same = ap (λ (g : ℕ). lead_of n ss R g (origin_id n ss R c)) (sym e) ∙ sym (lead-cluster n ss R f c h);
      }

  -- where no step is left, the way has ended
  pub chain-end : (f c : ℕ) → f ≤ 0 → Chain n ss R f c → c < n
  unfolding Chain
  chain-end zero c h k = k
  chain-end (suc f) c h k = absurd (omega arith)

-- ---- with which place a place goes

pub seat-self : (n k : ℕ) (e : Entry) → e.parent ≡ unset → k ≡ seat_of n e k
seat-self n k e h = rw (eq-eqb e.parent unset h) mathlib.Core.Path.refl

pub seat-origin : (n k : ℕ) (e : Entry) → (e.parent ≡ unset → ⊥) → origin_of n e.parent ≡ seat_of n e k
seat-origin n k e h = rw (ne_eqb e.parent unset h) mathlib.Core.Path.refl
