-- What runs has demand 3: the C name `supercluster_load`, in the numbers and arrays that it gives to its caller, and the lister's
-- build, in the columns from which it prints. Each by its own contract. Assumes nothing.
use Rattle.std.specs.Prelude.{◌≡◌, refl, List, ℕ, Result, Ok, Err}
use Rattle.std.proofs.Math.Path.{sym, ap}
use Rattle.std.proofs.Common.{ap₂, ◌∙◌, subst, arith}
use Rattle.build_tables.specs.declared.State.{State}
use Rattle.build_tables.specs.State.{state_of}
use Rattle.refusals.specs.declared.Refusal.{Refusal}
use Rattle.refusals.specs.Refusals.{number as number_in}
use Rattle.supercluster.specs.Build.{BuildColumns, checked_in, by_reply}
use Rattle.supercluster.specs.laws.Load.{replies, verdict_of, number-done}
use Rattle.law_answers.specs.Stored.{columns_of}
use Rattle.law_answers.specs.laws.Stored.{state_by, loaded_of, of-load}
use Rattle.law_lamps.specs.Owner.{owner}
use Rattle.owners.specs.Owners.{Owners}
use Rattle.owners.specs.KeptOwners.{KeptOwners}
use Rattle.owners.specs.LoadedWith.{room_with, OwnedOutcome, loaded_with}
use Rattle.owners.specs.laws.KeptProved.{loaded-owners}
use Rattle.owners.specs.laws.Proved.{one-owner}
use Rattle.lister_text.specs.Values.{options_of}
use Rattle.lister_text.specs.Text.{Input, head_is, given_xs, given_ys, given_energies}
use Rattle.lister_report.specs.Report.{Lending, left}
use Rattle.exports.specs.Laid.{Laid, replied, replied_of, laid, laid_of}
use Rattle.law_builds.specs.Given.{Given, given_build, points}

module _ (G : Given) (l : BuildColumns) where
  -- where the build replies no refusal, its state is that of its tables
  state-is : (s : State) → (loaded_of G l).reply ≡ Ok s → s ≡ state_by G
  state-is s e = of-load (λ t c. t ≡ state_by G) G l (λ a r. refl) s e

-- the number that a C caller is told is that of the reply
number-told : (r : Result State Refusal) (starts lens : List ℕ) → (replied_of r starts lens).number ≡ number_in r
number-told (Ok s) starts lens = refl
number-told (Err e) starts lens = refl

-- `supercluster_load` by its contract: where it answers 0, the options, N and what it leaves in its two arrays are a state that has one
-- owner for every lamp in the columns that it leaves, and in the owner column
module _ (G : Given) (l : BuildColumns) (own : List ℕ) where
  abbrev asked : OwnedOutcome
  asked = loaded_with G.options G.xs G.ys G.energies l own

  owned-state : (s : State) → (loaded_with G.options G.xs G.ys G.energies l own).build.reply ≡ Ok s → s ≡ state_by G
  unfolding loaded_with
  owned-state s d =
      let o = G.options in
      let r = checked_in o G.xs G.ys G.energies (room_with l own) in
      let c : r ≡ Ok tt = sym (replies o G.xs G.ys G.energies l r) ∙ ap verdict_of d in
      let q : Ok s ≡ Ok (state_by G) = sym d ∙ ap (λ (q : Result (Unit {0}) Refusal). (by_reply o G.xs G.ys G.energies l q).reply) c in
      cc

  pub c-name-owners : (number carried : ℕ) (starts lens starts' lens' own' : List ℕ) (c : BuildColumns)
      → laid (replied number carried starts' lens') c own' ≡ laid_of (loaded_with G.options G.xs G.ys G.energies l own) starts
      lens
      → number ≡ 0
      → Owners (state_of G.options (points G) starts' lens') (columns_of c) G.energies (owner G)
      × KeptOwners (state_of G.options (points G) starts' lens') own' (owner G)
  c-name-owners number carried ss ns ss' ns' own' c e z =
      let x = asked in
      let n : number_in x.build.reply ≡ 0 =
      sym (ap (λ (q : Laid). q.told.number) e ∙ number-told x.build.reply ss ns) ∙ z in
      let found = number-done x.build.reply (omega (arith, n)) in
      let s = found.0 in
      let done = found.1 in
      let is = owned-state s done in
      let a : ss' ≡ (state_by G).starts =
      ap (λ (q : Laid). q.told.starts) e
      ∙ ap (λ (r : Result State Refusal). (replied_of r ss ns).starts) done
      ∙ ap (λ (t : State). t.starts) is in
      let b : ns' ≡ (state_by G).lens =
      ap (λ (q : Laid). q.told.lens) e
      ∙ ap (λ (r : Result State Refusal). (replied_of r ss ns).lens) done
      ∙ ap (λ (t : State). t.lens) is in
      let k = sym (ap (λ (q : Laid). q.columns) e) in
      let w = sym (ap (λ (q : Laid). q.owners) e) in
      let t : s ≡ state_of G.options (points G) ss' ns' =
      is ∙ ap₂ (λ (u v : List ℕ). state_of G.options (points G) u v) (sym a) (sym b) in
      let p = loaded-owners G l own x refl s done in (
        subst (λ (y : BuildColumns). Owners (state_of G.options (points G) ss' ns') (columns_of y) G.energies (owner G)) k
            (subst (λ (y : State). Owners y (columns_of x.build.columns) G.energies (owner G)) t p.0),
        subst (λ (y : List ℕ). KeptOwners (state_of G.options (points G) ss' ns') y (owner G)) w
            (subst (λ (y : State). KeptOwners y x.owners (owner G)) t p.1),
      )

-- what the lister's build of an input is given
abbrev pub given_by : Input → Given
given_by i = given_build (options_of (head_is i)) (given_xs i) (given_ys i) (given_energies i)

-- the lister: where the build of an input is not refused, it has one owner for every lamp in the columns that `report` leaves and prints
pub lister-owners : (i : Input) (d : Lending) (s : State) → (loaded_of (given_by i) d.columns).reply ≡ Ok s
    → Owners (state_by (given_by i)) (columns_of (left i d).columns) (given_energies i) (owner (given_by i))
unfolding left
lister-owners i d s e =
    subst (λ (t : State). Owners t (columns_of (loaded_of (given_by i) d.columns).columns) (given_energies i) (owner (given_by i)))
    (state-is (given_by i) d.columns s e) (one-owner (given_by i) d.columns s e)
