-- One turn of the loop over the zooms, at the code's z and z - 1. Assumes nothing.
use Rattle.std.specs.Prelude.{◌≡◌, List, ℕ, suc, ◌+◌, ◌-◌, ◌<◌, ◌≤◌, length, set, Float}
use Rattle.std.proofs.Common.{ap, sym, ◌∙◌, subst, arith}
use Rattle.build_tables.specs.Columns.{part}
use Rattle.build_tables.specs.Entries.{Table}
use Rattle.build_tables.specs.declared.State.{State}
use Rattle.build_all_zooms.specs.Zooms.{Plan}
use Rattle.build_all_zooms.specs.laws.Progress.{Whole, whole_progress, Progress, Finished, progress_step, progress_start, rows_end}
use Rattle.build_all_zooms.specs.laws.Progress.{ids-end, co-end}
use Rattle.build_all_zooms.specs.laws.Progress.{ss-end, ll-end, rows-length-end, ids-length-end, co-length-end}
use Rattle.build_all_zooms.specs.laws.Running.{Running, Advanced, running-step}

module _ (p : Plan) (M z start len : ℕ) (t : Table) (ids : List ℕ) (co : List Float) (lz : p.options.min_zoom < z)
    (r : Running p M (z - p.options.min_zoom) start len t ids co) where
  one_less : z - p.options.min_zoom ≡ suc (z - 1 - p.options.min_zoom)
  one_less = omega arith

  zk : z - 1 ≡ p.options.min_zoom + (z - 1 - p.options.min_zoom)
  zk = omega arith

  pub turn-ready : Running p M (suc (z - 1 - p.options.min_zoom)) start len t ids co
  turn-ready = subst (λ (q : ℕ). Running p M q start len t ids co) one_less r

  module _ (d : ℕ) (t' : Table) (ids' : List ℕ) (co' : List Float) (v : Advanced p (z - 1) start len d t t' ids ids' co co')
      (et : length t' ≡ length t) (ei : length ids' ≡ length ids) (ec : length co' ≡ length co) where
    v' : Advanced p (p.options.min_zoom + (z - 1 - p.options.min_zoom)) start len d t t' ids ids' co co'
    v' = subst (λ (q : ℕ). Advanced p q start len d t t' ids ids' co co') zk v

    pub turn-running : Running p M (z - 1 - p.options.min_zoom) (start + len) d t' ids' co'
    turn-running = running-step p M (z - 1 - p.options.min_zoom) start len t ids co turn-ready d t' ids' co' v' et ei ec

    pub turn-progress : (w : Whole) (t₀ : Table) (ids₀ : List ℕ) (co₀ : List Float) (ss ll ss' ll' : List ℕ)
        → Progress p w t₀ ids₀ co₀ (z - p.options.min_zoom) start len t ids co ss ll → ss' ≡ set ss (z - 1) (start + len)
        → ll' ≡ set ll (z - 1) d
        → Progress p w t₀ ids₀ co₀ (z - 1 - p.options.min_zoom) (start + len) d t' ids' co' ss' ll'
    turn-progress w t₀ ids₀ co₀ ss ll ss' ll' g a b =
        let h = progress_step p M (z - 1 - p.options.min_zoom) start len t ids co turn-ready d t' ids' co' v' et ei ec w t₀ ids₀ co₀ ss
        ll
        (subst (λ (q : ℕ). Progress p w t₀ ids₀ co₀ q start len t ids co ss ll) one_less g) in
        let a' : set ss (p.options.min_zoom + (z - 1 - p.options.min_zoom)) (start + len) ≡ ss' =
        ap (λ (q : ℕ). set ss q (start + len)) (sym zk) ∙ sym a in
        let b' : set ll (p.options.min_zoom + (z - 1 - p.options.min_zoom)) d ≡ ll' = ap (λ (q : ℕ). set ll q d) (sym zk) ∙ sym b in
        subst (λ (q : List ℕ). Progress p w t₀ ids₀ co₀ (z - 1 - p.options.min_zoom) (start + len) d t' ids' co' q ll') a'
        (subst (λ (q : List ℕ). Progress p w t₀ ids₀ co₀ (z - 1 - p.options.min_zoom) (start + len) d t' ids' co'
        (set ss (p.options.min_zoom + (z - 1 - p.options.min_zoom)) (start + len)) q) b' h)

pub turn-start : (p : Plan) (z len : ℕ) (t : Table) (ids : List ℕ) (co : List Float) (ss ll : List ℕ) → p.options.min_zoom ≤ z
    → set ss z 0 ≡ ss → set ll z len ≡ ll
    → Progress p (whole_progress p (z - p.options.min_zoom) (part 0 len t) ss ll) t ids co (z - p.options.min_zoom) 0 len t ids co ss
    ll
turn-start p z len t ids co ss ll h a b =
    let e : p.options.min_zoom + (z - p.options.min_zoom) ≡ z = omega arith in
    progress_start p (z - p.options.min_zoom) len t ids co ss ll (rw e a) (rw e b)

pub turn_end : (p : Plan) (M z k start len n : ℕ) (t : Table) (ids : List ℕ) (co : List Float) (t₀ : Table) (ids₀ : List ℕ)
    (co₀ : List Float) (s s' : State) → z ≤ p.options.min_zoom
    → Running p M (z - p.options.min_zoom) start len t ids co
    → Progress p (whole_progress p k (part 0 n t₀) s.starts s.lens) t₀ ids₀ co₀ (z - p.options.min_zoom) start len t ids co
    s'.starts s'.lens
    → s'.options ≡ s.options → s'.count ≡ s.count
    → Finished p k s s' (part 0 n t₀) t₀ t ids₀ ids co₀ co
turn_end p M z k start len n t ids co t₀ ids₀ co₀ s s' h r g eo ec =
    let e : z - p.options.min_zoom ≡ 0 = omega arith in
    let w = whole_progress p k (part 0 n t₀) s.starts s.lens in
    let r' = subst (λ (q : ℕ). Running p M q start len t ids co) e r in
    let g' = subst (λ (q : ℕ). Progress p w t₀ ids₀ co₀ q start len t ids co s'.starts s'.lens) e g in
    let lr = rows-length-end p M start len t ids co r' w t₀ ids₀ co₀ s'.starts s'.lens g' in
    let li = ids-length-end p M start len t ids co r' w t₀ ids₀ co₀ s'.starts s'.lens g' in
    let lc = co-length-end p M start len t ids co r' w t₀ ids₀ co₀ s'.starts s'.lens g' in
    record {
      of-rows = rows_end p M start len t ids co r' w t₀ ids₀ co₀ s'.starts s'.lens g';
      of-ids = ids-end p M start len t ids co r' w t₀ ids₀ co₀ s'.starts s'.lens g';
      of-co = co-end p M start len t ids co r' w t₀ ids₀ co₀ s'.starts s'.lens g';
      of-starts = ss-end p M start len t ids co r' w t₀ ids₀ co₀ s'.starts s'.lens g';
      of-lens = ll-end p M start len t ids co r' w t₀ ids₀ co₀ s'.starts s'.lens g';
      of-options = eo;
      of-count = ec;
      ids-long = li ∙ sym lr;
      co-long = omega (arith, lc, lr);
    }
