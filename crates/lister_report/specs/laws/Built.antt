-- What an accepted build leaves, in columns of the lister's lengths, is what there is to print: its tables, each within the columns, with
-- room for each line. Assumes nothing.
use mathlib.Core.List.{List, map}
use Rattle.std.specs.Prelude.{◌≡◌, refl, ℕ, ◌+◌, ◌/◌, ◌≤◌, min, leb, Result, Ok, Err}
use Rattle.std.proofs.Math.Path.{ap, sym}
use Rattle.std.proofs.Common.{◌∙◌, subst, arith}
use Rattle.std.proofs.Math.ListN.{length}
use Rattle.std.proofs.lemmas.List.{length-map}
use Rattle.kdbush.specs.Reply.{first_outside}
use Rattle.build_tables.specs.laws.Bounds.{options-are}
use Rattle.build_tables.specs.Entries.{Table}
use Rattle.build_tables.specs.Options.{options_ok}
use Rattle.build_tables.specs.laws.Rows.{kept-even}
use Rattle.build_tables.specs.Room.{room_by}
use Rattle.build_tables.specs.declared.Entry.{Entry}
use Rattle.build_tables.specs.declared.Options.{Options}
use Rattle.build_tables.specs.declared.State.{State}
use Rattle.build_all_zooms.specs.Zooms.{joined, laid_over}
use Rattle.refusals.specs.declared.Refusal.{Refusal}
use Rattle.refusals.specs.Refusals.{number_of, carried_of}
use Rattle.supercluster.specs.Build.{converted_all, BuildColumns, written, built_state, need, first_over, triple_ok, ordered}
use Rattle.supercluster.specs.Build.{checked, by_reply, Outcome, outcome, loaded}
use Rattle.supercluster.specs.laws.Held.{held_by, built-held, built-within}
use Rattle.supercluster.specs.laws.Load.{accepted, holds, rows_in, EvenIn}
use Rattle.supercluster.specs.laws.Over.{over-length}
use Rattle.supercluster.specs.laws.Right.{tables-room}
use Rattle.lister_text.specs.Text.{PointCols}
use Rattle.lister_report.specs.Lines.{tables_text, refusal_text}
use Rattle.lister_report.specs.Report.{lister_columns, tables_by, checked_by, loaded_by, answer_text, answer_room, build_text}
use Rattle.lister_report.specs.laws.Held.{Holding}

-- columns of the lister's lengths
pub record Sized (l : BuildColumns) : Type 0 where
  pub x : length l.table.x ≡ 1152
  pub even : EvenIn l
  pub ids : length l.ids ≡ 1152
  pub coords : length l.coords ≡ 2304
  pub near : length l.near ≡ 1152

-- ---- the reply

-- a build in other columns of the same lengths has the same reply
checked-sized : (o : Options) (p : PointCols) (l m : BuildColumns) → Sized l → Sized m → checked_by o p l ≡ checked_by o p m
unfolding checked
checked-sized o p l m s t =
    let ps = converted_all o.coordinate_system p.xs p.ys in
    let k = kept-even m.table l.table t.even s.even (s.x ∙ sym t.x) in
    let d = s.ids ∙ sym t.ids in
    let c = s.coords ∙ sym t.coords in
    let n = s.near ∙ sym t.near in
    λ i. ordered (options_ok o) (triple_ok p.xs p.ys p.energies)
    (first_outside (map (λ p. p.x) ps) (map (λ p. p.y) ps) 0) (first_over p.energies 0)
    (leb (need o (length p.xs))
    (min (room_by (k.kx i) (k.ky i) (k.ks i) (k.ki i) (k.kp i) (k.kn i) (k.kw i) (min (d i) (c i / 2))) (n i)))

columns-sized : Sized lister_columns
unfolding lister_columns
columns-sized =
    let even : EvenIn lister_columns = record { ey = refl; es = refl; ei = refl; ep = refl; en = refl; ew = refl } in
    record { x = refl; even = even; ids = refl; coords = refl; near = refl }

-- what was checked of a build, by what it replies
abbrev pub Told : Result State Refusal → Result (Unit {0}) Refusal → Type 0
Told (Ok s) r = r ≡ Ok tt
Told (Err e) r = r ≡ Err e

told-by : (o : Options) (p : PointCols) (l l' : BuildColumns) (b : Result State Refusal) (r : Result (Unit {0}) Refusal)
    → outcome b l' ≡ by_reply o p.xs p.ys p.energies l r → Told b r
told-by o p l l' (Ok s) (Ok d) e = refl
told-by o p l l' (Ok s) (Err x) e =
    let q : ◌≡◌ {A = Result State Refusal} (Ok s) (Err x) = ap (λ (q : Outcome). q.reply) e in
    let z : ◌≡◌ {A = ℕ} 0 1 = cc in absurd (omega arith)
told-by o p l l' (Err x) (Ok d) e =
    let q : ◌≡◌ {A = Result State Refusal} (Err x) (Ok (built_state o (length p.xs) (tables_by o p))) = ap (λ (q : Outcome). q.reply) e in
    let z : ◌≡◌ {A = ℕ} 0 1 = cc in absurd (omega arith)
told-by o p l l' (Err x) (Err y) e =
    let q : ◌≡◌ {A = Result State Refusal} (Err x) (Err y) = ap (λ (q : Outcome). q.reply) e in
    let z : x ≡ y = cc in ap (λ (k : Refusal). Err k) (sym z)

-- the reply of `load` in such columns is the one that the text goes by
pub reply-is : (o : Options) (p : PointCols) (l l' : BuildColumns) (b : Result State Refusal) → Sized l → outcome b l' ≡ loaded_by o p l
    → Told b (checked_by o p lister_columns)
unfolding loaded
reply-is o p l l' b s e = subst (Told b) (checked-sized o p l lister_columns s columns-sized) (told-by o p l l' b (checked_by o p l) e)

-- what is printed for a refusal
pub refused-text : (o : Options) (p : PointCols) (e : Refusal) → checked_by o p lister_columns ≡ Err e
    → build_text o p ≡ refusal_text (number_of e) (carried_of e)
unfolding build_text
refused-text o p e q = ap (answer_text o p) q

-- ---- an accepted build

-- what `put_tables` asks, and what it prints
pub record Printable (o : Options) (p : PointCols) (s : State) (l : BuildColumns) : Type 0 where
  pub even : EvenIn l
  pub holding : Holding s (rows_in l) answer_room
  pub text : tables_text (s.options.max_zoom + 1) (held_by s (rows_in l)) ≡ build_text o p

module _ (o : Options) (p : PointCols) (l : BuildColumns) (s : Sized l) (done : checked_by o p l ≡ Ok tt) where
  abbrev n : ℕ
  n = length p.xs

  abbrev ts : List Table
  ts = tables_by o p

  entries : length (joined ts) ≤ 1152
  entries =
      let a = accepted o p.xs p.ys p.energies l done in
      omega (arith, tables-room o p.xs p.ys p.energies a.0, (holds (need o n) l a.1).table.hx, s.x)

  -- a column that is as long as x is so after the build
  column : {A B : Type 0} (f : Entry → A) (g : Entry → B) (d : List A) (x : List B) → length d ≡ length x → length x ≡ 1152
      → length (laid_over (map f (joined ts)) d) ≡ length (laid_over (map g (joined ts)) x)
  column f g d x e k =
      over-length (map f (joined ts)) d (omega (arith, entries, length-map (joined ts) f, e, k)) ∙ e
      ∙ sym (over-length (map g (joined ts)) x (omega (arith, entries, length-map (joined ts) g, k)))

  even-built : EvenIn (written o.node_size n ts l)
  unfolding written
  even-built =
      let c = l.table in
      let v = s.even in
      record {
        ey = column (λ e. e.y) (λ e. e.x) c.y c.x v.ey s.x;
        es = column (λ e. e.seen) (λ e. e.x) c.seen c.x v.es s.x;
        ei = column (λ e. e.id) (λ e. e.x) c.id c.x v.ei s.x;
        ep = column (λ e. e.parent) (λ e. e.x) c.parent c.x v.ep s.x;
        en = column (λ e. e.num) (λ e. e.x) c.num c.x v.en s.x;
        ew = column (λ e. e.energy) (λ e. e.x) c.energy c.x v.ew s.x;
      }

  built-printable : Printable o p (built_state o n ts) (written o.node_size n ts l)
  unfolding build_text
  built-printable =
      let a = (accepted o p.xs p.ys p.energies l done).0 in
      let z = options-are o a.options in
      let h = built-held o p.xs p.ys p.energies a l in
      let text : build_text o p ≡ tables_text (o.max_zoom + 1) ts =
      ap (answer_text o p) (sym (checked-sized o p l lister_columns s columns-sized) ∙ done) in
      record {
        even = even-built;
        holding = record {
          zooms = z.zooms;
          top = z.zoom-to;
          within = built-within o p.xs p.ys p.energies a l;
          fits = omega (arith, ap (λ (q : List Table). length (joined q)) h, entries);
        };
        text = ap (tables_text (o.max_zoom + 1)) h ∙ sym text;
      }

pub printable : (o : Options) (p : PointCols) (l l' : BuildColumns) (s : State) → Sized l → outcome (Ok s) l' ≡ loaded_by o p l
    → Printable o p s l'
unfolding loaded
printable o p l l' s z e =
    let done : checked_by o p l ≡ Ok tt = told-by o p l l' (Ok s) (checked_by o p l) e in
    let is : outcome (Ok s) l' ≡ by_reply o p.xs p.ys p.energies l (Ok tt) = e ∙ ap (by_reply o p.xs p.ys p.energies l) done in
    let q : ◌≡◌ {A = Result State Refusal} (Ok s) (Ok (built_state o (length p.xs) (tables_by o p))) = ap (λ (x : Outcome). x.reply) is in
    let same : s ≡ built_state o (length p.xs) (tables_by o p) = cc in
    subst (λ (x : State). Printable o p x l') (sym same)
    (subst (Printable o p (built_state o (length p.xs) (tables_by o p))) (sym (ap (λ (x : Outcome). x.columns) is))
    (built-printable o p l z done))
