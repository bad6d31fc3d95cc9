-- #102 holds of every build that `load` accepts: `effort-of-build`. The box without an effort is answered whole there, and what an
-- allowance finds begins what it lists. Assumes nothing.
use Rattle.std.specs.Prelude.{◌≡◌, refl, Bool, true, false, cond, List, [], ℕ, leb, length, Float, Ok, Err}
use Rattle.std.proofs.Common.{sym, ap, ◌∙◌, arith}
use Rattle.kdslots.specs.laws.Bounds.{yes}
use Rattle.kdbush.specs.Run.{whole}
use Rattle.build_tables.specs.declared.State.{State}
use Rattle.build_tables.specs.Options.{zoom_used}
use Rattle.build_tables.specs.State.{len_of}
use Rattle.build_tables.specs.Sound.{state_ok}
use Rattle.ask_base.specs.Asked.{Asked, refused, told, answer_of}
use Rattle.build_tables.specs.Room.{index_room}
use Rattle.ask_box_plan.specs.Rule.{plan_of, box_ok}
use Rattle.ask_box.specs.Lists.{walked, box_asked}
use Rattle.ask_box.specs.laws.Joined.{first_past}
use Rattle.supercluster.specs.Build.{BuildColumns, need}
use Rattle.supercluster.specs.laws.Load.{Holds}
use Rattle.law_answers.specs.laws.Stored.{state_by, columns_by, of-load}
use Rattle.law_answers.specs.laws.Boxed.{fits-somehow, index-sound, box-told}
use Rattle.ask_effort_tests.specs.declared.Effort.{Effort}
use Rattle.ask_effort_tests.specs.declared.EffortRefusal.TheVariants.{Box, NoRoom, Spoiled}
use Rattle.ask_effort_tests.specs.Trials.{Mark, hits, items}
use Rattle.ask_effort_tests.specs.Reply.{effort_number, effort_of, effort_fitted, answer}
use Rattle.ask_effort_tests.specs.laws.Promise.{items-of-all}
use Rattle.ask_effort.specs.Effort.{EffortAsked, effort_reply_of, effort_asked}
use Rattle.ask_effort.specs.StatedEffort.{tests_of}
use Rattle.ask_effort.specs.laws.Proved.{tests_at, unlimited-box}
use Rattle.law_builds.specs.Given.{Given, AcceptedBuild, points}
use Rattle.law_effort.specs.OfBuild.{EffortAnswered, effort_at, EffortOfBuild}

-- ---- of any tests, where all that they find is walked to its end

module _ (n : ℕ) (ms : List Mark) (l : List ℕ) (e : walked n (hits ms) ≡ told true l) where
  items-whole : (a : ℕ) → whole n (items a ms) ≡ true
  items-whole a = go (whole n (items a ms)) refl
    where
      go : (b : Bool) → whole n (items a ms) ≡ b → whole n (items a ms) ≡ true
      go true f = f
      go false f =
          let w = items-of-all a ms in
          absurd (fits-somehow (length l) 0
          (sym ((first_past n (items a ms) w.0 [] f).0 ∙ ap (λ (x : List ℕ). answer_of (walked n x) 0) (sym w.1)
          ∙ ap (λ (x : Asked). answer_of x 0) e)))

  told-whole : (a room : ℕ) → answer n ms a room ≡ effort_fitted (effort_of a ms) room
  told-whole a room = yes (whole n (items a ms)) (effort_fitted (effort_of a ms) room) (Err Spoiled) (items-whole a)

-- what fits or not is not 11
not-spoiled : (e : Effort) (room : ℕ) → effort_fitted e room ≡ Err Spoiled → ⊥
not-spoiled e room = go (leb e.items room)
  where
    go : (b : Bool) → cond b (Ok e) (Err (NoRoom e)) ≡ Err Spoiled → ⊥
    go true f = omega (arith, ap effort_number f)
    go false f = omega (arith, ap effort_number f)

-- ---- of a question whose state is sound, and whose box is answered whole

module _ (st : State) (ids : List ℕ) (co : List Float) (zoom : ℕ) (west least east greatest : Float)
    (good : state_ok st (index_room ids co) ≡ true) where
  refused-box : box_ok st.options.coordinate_system west least east greatest ≡ false
      → effort_asked st ids co zoom west least east greatest ≡ refused Box
  unfolding effort_asked
  refused-box f = rw (good, f)

  taken : box_ok st.options.coordinate_system west least east greatest ≡ true → (l : List ℕ)
      → box_asked st ids co zoom west least east greatest ≡ told true l
      → (a room : ℕ) → effort_reply_of (effort_asked st ids co zoom west least east greatest) a room
      ≡ effort_fitted (effort_of a (tests_of (effort_asked st ids co zoom west least east greatest))) room
  unfolding effort_asked box_asked
  taken f l g a room =
      let qs = plan_of st.options.coordinate_system west least east greatest in
      let h = unlimited-box st ids co zoom qs ∙ (rw (good, f) at g) in
      rw (good, f) (told-whole (len_of st (zoom_used st.options zoom)) (tests_at st ids co zoom qs) l h a room)

  answered : (box_ok st.options.coordinate_system west least east greatest ≡ true
      → (l : List ℕ) × (box_asked st ids co zoom west least east greatest ≡ told true l))
      → EffortAnswered st.options.coordinate_system west least east greatest (effort_asked st ids co zoom west least east greatest)
  answered t =
      record {
        taken = λ f a room. let x = t f in taken f x.0 x.1 a room;
        refused-box = refused-box;
        never-spoiled = λ a room. by a room (box_ok st.options.coordinate_system west least east greatest) refl;
      }
    where
      by : (a room : ℕ) (b : Bool) → box_ok st.options.coordinate_system west least east greatest ≡ b
          → effort_reply_of (effort_asked st ids co zoom west least east greatest) a room ≡ Err Spoiled → ⊥
      by a room true f h =
          let x = t f in
          not-spoiled (effort_of a (tests_of (effort_asked st ids co zoom west least east greatest))) room
          (sym (taken f x.0 x.1 a room) ∙ h)
      by a room false f h = let z = sym (ap (λ (q : EffortAsked). effort_reply_of q a room) (refused-box f))
          ∙ h in omega (arith, ap effort_number z)

-- ---- of every build that `load` accepts

module _ (G : Given) (acc : AcceptedBuild G) (l : BuildColumns) (h : Holds (need G.options (points G)) l) (zoom : ℕ)
    (west least east greatest : Float) where
  build-answered : EffortAnswered G.options.coordinate_system west least east greatest
      (effort_at (state_by G) (columns_by G l) zoom west least east greatest)
  build-answered =
      answered (state_by G) (columns_by G l).ids (columns_by G l).coords zoom west least east greatest (index-sound G acc l h)
      (box-told G acc l h zoom west least east greatest)

pub effort-of-build : EffortOfBuild
effort-of-build G l s d zoom west least east greatest =
    of-load (λ st c. EffortAnswered G.options.coordinate_system west least east greatest
    (effort_at st c zoom west least east greatest)) G l
    (λ a h. build-answered G a l h zoom west least east greatest) s d
