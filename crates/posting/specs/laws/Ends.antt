-- What `posted` comes to, case by case, in the order of its refusals. Assumes nothing.
use Rattle.std.specs.Prelude.{◌≡◌, Bool, true, false, ◌&&◌, List, ℕ, ◌+◌, ◌<◌, ◌≤◌, length, Ok, Err}
use Rattle.std.proofs.Math.Path.{refl}
use Rattle.std.proofs.Common.{sym, ap, ap₂, ◌∙◌}
use borrow.Author.Tests.{lt-ltb, le-ltb, le-leb, lt-leb, eq-eqb, ne_eqb}
use Rattle.build_tables.specs.declared.State.{State}
use Rattle.build_tables.specs.Options.{table_count}
use Rattle.supercluster.specs.Build.{most_energy}
use Rattle.ask_owner.specs.Asked.{owners_reach}
use Rattle.refusals.specs.declared.Refusal.TheVariants.{Lamp, Energy, Spoiled}
use Rattle.posting.specs.Post.{owner_by, figure_of, mendable, mended, all_mend, post_asked, posting, posted}
use Rattle.posting.specs.laws.Mends.{Ready}

module _ (s : State) (energy owners : List ℕ) (lamp figure : ℕ) where
  pub not-reached : owners_reach s (length energy) (length owners) ≡ false → posting (Err Spoiled) energy ≡ posted s energy owners lamp figure
  unfolding posted post_asked
  not-reached e = rw e refl

  pub no-lamp : owners_reach s (length energy) (length owners) ≡ true → s.count ≤ lamp
      → posting (Err Lamp) energy ≡ posted s energy owners lamp figure
  unfolding posted post_asked
  no-lamp e h = rw (e, le-ltb lamp s.count h) refl

  -- of a lamp of the build
  module _ (r : Ready s (length energy) (length owners) lamp) where
    pub too_much : most_energy < figure → posting (Err (Energy lamp)) energy ≡ posted s energy owners lamp figure
    unfolding posted post_asked
    too_much h = rw (r.0, lt-ltb lamp s.count r.1, lt-leb figure most_energy h) refl

    -- and a figure that is taken
    module _ (f : figure ≤ most_energy) where
      spoiled-by : all_mend s owners lamp figure energy ≡ false → posting (Err Spoiled) energy ≡ posted s energy owners lamp figure
      unfolding posted post_asked
      spoiled-by e = rw (r.0, lt-ltb lamp s.count r.1, le-leb figure most_energy f, e) refl

      done-by : all_mend s owners lamp figure energy ≡ true
          → posting (Ok tt) (mended s owners lamp (figure_of s energy lamp) figure energy (table_count s.options))
          ≡ posted s energy owners lamp figure
      unfolding posted post_asked
      done-by e = rw (r.0, lt-ltb lamp s.count r.1, le-leb figure most_energy f, e) refl

      pub another : (owner_by s owners lamp (s.options.max_zoom + 1) ≡ lamp → ⊥)
          → posting (Err Spoiled) energy ≡ posted s energy owners lamp figure
      another n =
          spoiled-by (ap (λ (b : Bool). b && mendable s owners lamp (figure_of s energy lamp) figure energy (table_count s.options))
          (ne_eqb _ _ n))

      -- the lamp is its own owner in the finest table, and `before` the figure that stands there
      module _ (q : owner_by s owners lamp (s.options.max_zoom + 1) ≡ lamp) (before : ℕ) (b : before ≡ figure_of s energy lamp) where
        all-is : (c : Bool) → mendable s owners lamp before figure energy (table_count s.options) ≡ c
            → all_mend s owners lamp figure energy ≡ c
        all-is c e =
            ap₂ (λ (i j : Bool). i && j) (eq-eqb _ _ q)
            (ap (λ (v : ℕ). mendable s owners lamp v figure energy (table_count s.options)) (sym b) ∙ e)

        pub unable : mendable s owners lamp before figure energy (table_count s.options) ≡ false
            → posting (Err Spoiled) energy ≡ posted s energy owners lamp figure
        unable e = spoiled-by (all-is false e)

        pub able : (left : List ℕ) → left ≡ mended s owners lamp before figure energy (table_count s.options)
            → mendable s owners lamp before figure energy (table_count s.options) ≡ true
            → posting (Ok tt) left ≡ posted s energy owners lamp figure
        able left w e =
            ap (posting (Ok tt)) (w ∙ ap (λ (v : ℕ). mended s owners lamp v figure energy (table_count s.options)) b)
            ∙ done-by (all-is true e)
