-- #102 holds of every state and all columns: `stated-effort`. The tests of the question find what the box without an effort lists
-- (`unlimited-box`); the rest is said of any tests. Assumes nothing.
use Rattle.std.specs.Prelude.{◌≡◌, refl, Bool, true, false, cond, not, ◌⊎◌, List, [], ℕ, ◌*◌, ◌≤◌, ◌<◌, leb, length, Float, Ok, Err}
use Rattle.std.proofs.Common.{sym, ap, ◌∙◌, subst, ⊎_elim, arith, le-ltb, ltb-true, ltb-false}
use Rattle.range.specs.declared.CoordinateSystem.{CoordinateSystem}
use Rattle.kdslots.specs.declared.Query.{Query}
use Rattle.kdbush.specs.Run.{sound, whole, filled}
use Rattle.build_tables.specs.declared.State.{State}
use Rattle.build_tables.specs.Options.{zoom_used}
use Rattle.build_tables.specs.State.{len_of}
use Rattle.build_tables.specs.Sound.{state_ok}
use Rattle.build_tables.specs.laws.Sound.{used-stands}
use Rattle.refusals.specs.declared.Refusal.{Refusal}
use Rattle.refusals.specs.declared.Refusal.TheVariants.{Box as Refusal-as-Box, NoRoom as Refusal-as-NoRoom, Spoiled as Refusal-as-Spoiled}
use Rattle.ask_base.specs.Answers.{fitted as plainly}
use Rattle.ask_base.specs.Asked.{Asked, refused, told, answer_of}
use Rattle.build_tables.specs.Room.{index_room}
use Rattle.ask_base.specs.Columns.{ids_at, coords_at}
use Rattle.ask_box_plan.specs.Rule.{plan_of, box_ok}
use Rattle.ask_box_plan.specs.laws.Queries.{plan-short}
use Rattle.ask_box.specs.Lists.{walked, listed_at, box_asked}
use Rattle.ask_box.specs.laws.Joined.{whole-sound}
use Rattle.ask_effort_tests.specs.declared.Effort.{Effort}
use Rattle.ask_effort_tests.specs.declared.EffortRefusal.{EffortRefusal}
use Rattle.ask_effort_tests.specs.declared.EffortRefusal.TheVariants.{Box, NoRoom, Spoiled}
use Rattle.ask_effort_tests.specs.Trials.{Mark, hits, trials, items}
use Rattle.ask_effort_tests.specs.Reply.{effort_carried, effort_of, effort_fitted, answer}
use Rattle.ask_effort_tests.specs.laws.Promise.{not_stopped, given-begin, given-of-all, trials-found, trials-most}
use Rattle.ask_effort.specs.Effort.{sought_at, effort_asked}
use Rattle.ask_effort.specs.StatedEffort.{plain, Carries, Stated, StatedEffort}

-- ---- of any tests, in a table of n entries

module _ (n : ℕ) (ms : List Mark) where
  -- a reply that carries an effort carries that of the tests, and no place that they found is past the table
  carries : (a room : ℕ) → Carries (answer n ms a room)
      → (whole n (items a ms) ≡ true) × (effort_carried (answer n ms a room) ≡ effort_of a ms)
  carries a room c = go (whole n (items a ms)) refl (leb (length (items a ms)) room) c
    where
      go : (b : Bool) → whole n (items a ms) ≡ b → (f : Bool)
          → Carries (cond b (cond f (Ok (effort_of a ms)) (Err (NoRoom (effort_of a ms)))) (Err Spoiled))
          → (whole n (items a ms) ≡ true)
          × (effort_carried (cond b (cond f (Ok (effort_of a ms)) (Err (NoRoom (effort_of a ms)))) (Err Spoiled)) ≡ effort_of a ms)
      go true e true c = (e, refl)
      go true e false c = (e, refl)
      go false e f c = absurd (⊎_elim (λ h. omega (arith, h)) (λ h. omega (arith, h)) c)

  -- where every test is made
  module _ (a : ℕ) (h : length ms ≤ a) where
    all-items : items a ms ≡ hits ms
    all-items = (not_stopped a ms (le-ltb a (length ms) h)).0

    full-reply : (room : ℕ) → plain (answer n ms a room) ≡ answer_of (walked n (hits ms)) room
    full-reply room = go (whole n (hits ms)) refl
      where
        by-room : (f : Bool)
            → plain (cond f (Ok (effort_of a ms)) (Err (NoRoom (effort_of a ms))))
            ≡ cond f (Ok (length (items a ms))) (Err (Refusal-as-NoRoom (length (items a ms))))
        by-room true = refl
        by-room false = refl

        go : (b : Bool) → whole n (hits ms) ≡ b → plain (answer n ms a room) ≡ answer_of (walked n (hits ms)) room
        go true e =
            ap (λ (b : Bool). plain (cond b (effort_fitted (effort_of a ms) room) (Err Spoiled))) (ap (whole n) all-items ∙ e)
            ∙ by-room (leb (length (items a ms)) room)
            ∙ ap (λ (l : List ℕ). plainly (length l) room) (all-items ∙ sym (whole-sound n (hits ms) e))
            ∙ sym (ap (λ (b : Bool). answer_of (told b (sound n (hits ms))) room) e)
        go false e =
            ap (λ (b : Bool). plain (cond b (effort_fitted (effort_of a ms) room) (Err Spoiled))) (ap (whole n) all-items ∙ e)
            ∙ sym (ap (λ (b : Bool). answer_of (told b (sound n (hits ms))) room) e)

  stated-sought : (count : ℕ) → length ms ≤ 2 * count → Stated (told n ms) (walked n (hits ms)) count
  stated-sought count m =
      record {
        items = λ a room c. let w = carries a room c in ap (λ (e : Effort). e.items) w.1
            ∙ ap length (sym (whole-sound n (items a ms) w.0));
        tested = λ a room c. ap (λ (e : Effort). e.tested) (carries a room c).1;
        stopped = λ a room c s. ltb-true a (length ms) (sym (ap (λ (e : Effort). e.stopped) (carries a room c).1) ∙ s);
        not_stopped = λ a room c s. ltb-false a (length ms) (sym (ap (λ (e : Effort). e.stopped) (carries a room c).1) ∙ s);
        kept = λ a b h. given-begin n a b ms h;
        begins = λ a ok l e. let w = given-of-all n a ms in let f : l ≡ sound n (hits ms) = cc in (w.0, f ∙ w.1);
        full = λ a h out. (full-reply a h (length out), ap (λ (l : List ℕ). filled (sound n l) out) (all-items a h));
        most = m;
      }

-- ---- of a refusal before any test

nothing-carried : (k : ℕ) → 0 < k → (k ≡ 10 → ⊥) → (k ≡ 0) ⊎ (k ≡ 10) → ⊥
nothing-carried k h g c = ⊎_elim (λ e. omega arith) g c

no-list : (r : Refusal) (ok : Bool) (l : List ℕ) → refused r ≡ told ok l → ⊥
no-list r ok l e = let z : ◌≡◌ {A = ℕ} 0 1 = cc in omega arith

stated-refused : (r : EffortRefusal) (q : Refusal) (count : ℕ) → plain (Err r) ≡ Err q → (Carries (Err r) → ⊥) → Stated (refused r) (refused q) count
stated-refused r q count p none =
    record {
      items = λ a room c. absurd (none c);
      tested = λ a room c. absurd (none c);
      stopped = λ a room c s. absurd (none c);
      not_stopped = λ a room c s. absurd (none c);
      kept = λ a b h. ([], refl);
      begins = λ a ok l e. absurd (no-list q ok l e);
      full = λ a h out. (p, refl);
      most = omega arith;
    }

-- ---- of the question

module _ (st : State) (ids : List ℕ) (co : List Float) (zoom : ℕ) where
  abbrev used : ℕ
  used = zoom_used st.options zoom

  abbrev pub tests_at : List Query → List Mark
  tests_at qs = trials qs st.options.node_size (len_of st used) (ids_at st ids used) (coords_at st co used)

  -- the tests of queries find what the box without an effort walks over
  pub unlimited-box : (qs : List Query) → walked (len_of st used) (hits (tests_at qs)) ≡ listed_at st ids co used qs
  unlimited-box qs =
      ap (walked (len_of st used)) (trials-found st.options.node_size (len_of st used) (ids_at st ids used) (coords_at st co used) qs)

  stated-plan : state_ok st (index_room ids co) ≡ true → (qs : List Query) → length qs ≤ 2
      → Stated (sought_at st ids co used qs) (listed_at st ids co used qs) st.count
  stated-plan g qs h =
      let m : length (tests_at qs) ≤ 2 * st.count =
      omega (
        arith,
        trials-most st.options.node_size (len_of st used) (ids_at st ids used) (coords_at st co used) 2 qs h,
        (used-stands st (index_room ids co) g zoom).0.most,
      ) in
      subst (λ (x : Asked). Stated (sought_at st ids co used qs) x st.count) (unlimited-box qs)
      (stated-sought (len_of st used) (tests_at qs) st.count m)

pub stated-effort : StatedEffort
unfolding effort_asked box_asked
stated-effort st ids co zoom west least east greatest = go (state_ok st (index_room ids co)) refl (box_ok c west least east greatest)
  where
    c : CoordinateSystem
    c = st.options.coordinate_system

    qs : List Query
    qs = plan_of c west least east greatest

    go : (a : Bool) → state_ok st (index_room ids co) ≡ a → (b : Bool)
        → Stated (cond (not a) (refused Spoiled) (cond (not b) (refused Box) (sought_at st ids co (used st ids co zoom) qs)))
        (cond (not a) (refused Refusal-as-Spoiled)
        (cond (not b) (refused Refusal-as-Box) (listed_at st ids co (used st ids co zoom) qs))) st.count
    go false g b = stated-refused Spoiled Refusal-as-Spoiled st.count refl (λ c. nothing-carried 11 (omega arith) (λ h. omega arith) c)
    go true g false = stated-refused Box Refusal-as-Box st.count refl (λ c. nothing-carried 9 (omega arith) (λ h. omega arith) c)
    go true g true = stated-plan st ids co zoom g qs (plan-short c west least east greatest)
