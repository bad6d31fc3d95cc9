-- What `load` replies and leaves, where it refuses nothing, has one owner for every lamp, and the owner column has it. Assumes nothing.
use Rattle.std.specs.Prelude.{◌≡◌, true, List, ℕ, suc, ◌+◌, ◌-◌, ◌*◌, ◌<◌, ◌≤◌, min, length, get_or, Result, Ok}
use Rattle.std.proofs.Math.Path.{refl}
use Rattle.std.proofs.Common.{sym, ap, ◌∙◌, subst, arith}
use borrow.Author.Tests.{lt-ltb, le-leb}
use Rattle.build_tables.specs.Options.{table_count, zoom_used}
use Rattle.build_tables.specs.State.{len_of}
use Rattle.build_tables.specs.laws.Bounds.{options-are}
use Rattle.build_tables.specs.laws.Sound.{used-between}
use Rattle.build_all_zooms.specs.Zooms.{laid_over, zooms_of}
use Rattle.refusals.specs.declared.Refusal.{Refusal}
use Rattle.refusals.specs.Refusals.{number}
use Rattle.build_tables.specs.declared.State.{State}
use Rattle.supercluster.specs.Build.{BuildColumns, Outcome, need, checked_in, unless_refused, by_reply}
use Rattle.supercluster.specs.laws.Load.{replies, verdict_of}
use Rattle.supercluster.specs.laws.Over.{over-length}
use Rattle.supercluster.specs.laws.Right.{tables-count}
use Rattle.law_builds.specs.Given.{Given, AcceptedBuild, points, min_z, max_z, tables_of_build}
use Rattle.law_lamps.specs.Owner.{owner}
use Rattle.law_lamps.specs.laws.Owners.{owner-in}
use Rattle.law_answers.specs.Stored.{columns_of}
use Rattle.law_answers.specs.laws.Stored.{state_by, columns_by, long-is, fits, sound-in}
use Rattle.build_owners.specs.OwnerColumn.{owner_column}
use Rattle.build_owners.specs.laws.ClimbableBuilds.{owner-kept}
use Rattle.build_owners.specs.laws.Fills.{column-at, column-long}
use Rattle.ask_owner.specs.Asked.{owners_reach, owner_spot, owner_within, owner_asked}
use Rattle.owners.specs.Owners.{Owners}
use Rattle.owners.specs.KeptOwners.{KeptOwners}
use Rattle.owners.specs.LoadedWith.{room_with, OwnedOutcome, loaded_with}
use Rattle.owners.specs.laws.Keeping.{done-accepted, done_full}
use Rattle.owners.specs.laws.Proved.{owners}

-- of an accepted build, in a column that has room for it
module _ (G : Given) (a : AcceptedBuild G) (own : List ℕ) (r : need G.options (points G) ≤ length own) where
  abbrev kept : List ℕ
  kept = laid_over (owner_column (points G) (tables_of_build G)) own

  many : length (tables_of_build G) ≡ suc (zooms_of G.options)
  many = tables-count G.options G.xs G.ys G.energies

  low : min_z G ≤ max_z G
  low = (options-are G.options a.options).zooms

  pub kept-long : length (laid_over (owner_column (points G) (tables_of_build G)) own) ≡ length own
  kept-long =
      let n : table_count G.options ≡ length (tables_of_build G) = omega (arith, many, low) in
      let e : need G.options (points G) ≡ length (tables_of_build G) * points G = ap (λ (k : ℕ). k * points G) n in
      over-length (owner_column (points G) (tables_of_build G)) own (omega (arith, column-long (points G) (tables_of_build G), e, r))

  pub stored_at : (z l : ℕ) → min_z G ≤ z → z ≤ max_z G + 1 → l < points G
      → get_or (laid_over (owner_column (points G) (tables_of_build G)) own) (owner_spot (state_by G) l z) 0 ≡ owner G z l
  stored_at z l h k w =
      column-at (points G) (tables_of_build G) (max_z G + 1 - z) l own (omega (arith, many, low, h)) w ∙ owner-kept G a z h k l w

  reached : let n = length (laid_over (owner_column (points G) (tables_of_build G)) own) in owners_reach (state_by G) n n ≡ true
  reached =
      let n = kept-long in
      rw (
        sound-in G a (length kept) (omega (arith, fits G a, r, n)),
        le-leb (need G.options (points G)) (length kept) (omega (arith, r, n)),
      ) refl

  pub kept-owners : KeptOwners (state_by G) (laid_over (owner_column (points G) (tables_of_build G)) own) (owner G)
  unfolding owner_asked
  kept-owners = record { stored = λ z l b h. stored_at z l b.low b.high h; answered = answer }
    where
      answer : (zoom l : ℕ) → l < points G → owner_asked (state_by G) (laid_over (owner_column (points G) (tables_of_build G)) own) l zoom
          ≡ Ok (owner G (zoom_used G.options zoom) l)
      answer zoom l h =
          let z = zoom_used G.options zoom in
          let u = used-between G.options zoom low in
          let p = owner-in G a z u.0 u.1 l h in
          let q = long-is G a z u.0 u.1 in
          let w : owner_within (owner G z l) (len_of (state_by G) z) ≡ Ok (owner G z l) =
          rw (lt-ltb (owner G z l) (len_of (state_by G) z) (omega (arith, p, q))) refl in
          rw (reached, lt-ltb l (points G) h) (ap (λ (v : ℕ). owner_within v (len_of (state_by G) z)) (stored_at z l u.0 u.1 h) ∙ w)

-- so of any outcome that meets the contract of `load`, where it is no refusal
pub loaded-owners : (G : Given) (l : BuildColumns) (own : List ℕ) (x : OwnedOutcome)
    → x ≡ loaded_with G.options G.xs G.ys G.energies l own → (s : State) → x.build.reply ≡ Ok s
    → Owners s (columns_of x.build.columns) G.energies (owner G) × KeptOwners s x.owners (owner G)
unfolding loaded_with
loaded-owners G l own x e s d =
    let o = G.options in
    let reply = checked_in o G.xs G.ys G.energies (room_with l own) in
    let c : checked_in o G.xs G.ys G.energies (room_with l own) ≡ Ok tt =
    sym (replies o G.xs G.ys G.energies l reply) ∙ sym (ap (λ (y : OwnedOutcome). verdict_of y.build.reply) e) ∙ ap verdict_of d in
    let h = done-accepted o G.xs G.ys G.energies l own (min (length l.near) (length own)) refl c in
    let f = done_full o G.xs G.ys G.energies l own (min (length l.near) (length own)) refl c in
    let b : x.build ≡ by_reply o G.xs G.ys G.energies l (Ok tt) =
    ap (λ (y : OwnedOutcome). y.build) e ∙ ap (by_reply o G.xs G.ys G.energies l) c in
    let q : Ok (state_by G) ≡ Ok s = sym (ap (λ (y : Outcome). y.reply) b) ∙ d in
    let t : state_by G ≡ s = cc in
    let w : x.owners ≡ laid_over (owner_column (points G) (tables_of_build G)) own =
    ap (λ (y : OwnedOutcome). y.owners) e
    ∙ ap (λ (y : Result (Unit {0}) Refusal).
    unless_refused (number y) (laid_over (owner_column (points G) (tables_of_build G)) own) own) c in (
      subst (λ (y : Outcome). Owners s (columns_of y.columns) G.energies (owner G)) (sym b)
          (subst (λ (t : State). Owners t (columns_by G l) G.energies (owner G)) t (owners G h.0 l f)),
      subst (λ (t : State). KeptOwners t x.owners (owner G)) t
          (subst (λ (y : List ℕ). KeptOwners (state_by G) y (owner G)) (sym w) (kept-owners G h.0 own h.2)),
    )
