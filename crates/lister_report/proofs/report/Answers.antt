-- `lister_report::report` meets its contract: what `parse` refuses is the writing of no input; what it reads is the input's head and
-- points. Assumes nothing.
use Rattle.std.proofs.Common.{◌≡◌, List, ℕ, ap, refl, ◌∙◌, arith, length, replicate, map}
use Rattle.std.proofs.lemmas.List.{length-replicate}
use Rattle.std.proofs.Math.Seq.{length-sets}
use Rattle.lister_text.specs.declared.LampText.{LampText}
use lib.Ieee.{of_bits}
use Rattle.refusals.specs.declared.Refusal.{Refusal}
use Rattle.refusals.specs.Refusals.{number_of, carried_of}
use Rattle.floats.specs.Numbers.{zero}
use Rattle.build_all_zooms.specs.Zooms.{laid_over}
use Rattle.lister_text.specs.Lent.{held_lamps}
use Rattle.lister_text.specs.Text.{PointCols, point_cols, put_points, front_of, Reads, x_of, y_of, wh_of}
use Rattle.lister_text.specs.Values.{options_of}
use Rattle.lister_text.specs.laws.Whole.{Wide, Front, reads-front}
use Rattle.lister_report.specs.Lines.{refusal_text}
use Rattle.lister_report.specs.Report.{lister_held, loaded_by, build_text, lines_of, lending, left, read, refused_report, refused_line}
use Rattle.lister_report.specs.laws.Put.{puts}
use Rattle.lister_report.proofs.report.Goals as goal

-- the columns of the points, before `parse`
abbrev points : PointCols
points = point_cols (replicate 1152 zero) (replicate 1152 zero) (replicate 1152 0)

-- the columns are as long as they were
put-wide : (c : PointCols) (ps : List LampText) → c ≡ put_points points 0 ps → Wide c
put-wide c ps e =
    record {
      x = ap (λ (d : PointCols). length d.xs) e ∙ length-sets points.xs 0 (map x_of ps) ∙ length-replicate 1152 zero;
      y = ap (λ (d : PointCols). length d.ys) e ∙ length-sets points.ys 0 (map y_of ps) ∙ length-replicate 1152 zero;
      energy = ap (λ (d : PointCols). length d.energies) e ∙ length-sets points.energies 0 (map wh_of ps)
          ∙ length-replicate {A = ℕ} 1152 0;
    }

pub returns-in-Ok : goal.returns-in-Ok
unfolding left lines_of of_bits
returns-in-Ok c =
    let a = c.args in
    let h = c.in-Ok.h in
    let after = held_lamps c.parse.new.lamps in
    let r : Reads a.text.now points h after = c.in-Ok.ensures in
    let front : Front r.input h.count after = reads-front _ _ h after r (put-wide after r.input.points r.stored) in
    let f = front.is in
    let columns = lister_held a.columns.now in
    let t : build_text (options_of h) (front_of h.count after) ≡ lines_of r.input = λ k. build_text (options_of (r.head k)) (f k) in
    let l =
    ◌∙◌ {b = (loaded_by (options_of h) (front_of h.count after) columns).columns} c.report_read.ensures.left
    (λ k. (loaded_by (options_of (r.head k)) (f k) columns).columns) in
    let o = c.report_read.ensures.text in
    let told = o.over ∙ ap (λ (b : List ℕ). laid_over b a.out.now) t in
    read r.input r.valid r.is (o.many ∙ ap length t) (λ k. lending (l k) (told k))

pub returns-in-Err : goal.returns-in-Err
unfolding of_bits
returns-in-Err c =
    let a = c.args in
    let r = c.in-Err.ensures in
    let o = puts c.refusal.ensures refl (omega (arith, c.told-out)) in
    let t : refusal_text (number_of c.in-Err.e) (carried_of c.in-Err.e) ≡ refused_line =
    ap (λ (e : Refusal). refusal_text (number_of e) (carried_of e)) r.0 in
    let told = o.over ∙ ap (λ (b : List ℕ). laid_over b a.out.now) t in
    refused_report r.1.none (o.many ∙ ap length t) (λ k. lending (lister_held a.columns.now) (told k))
