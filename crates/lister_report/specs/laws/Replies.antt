-- Any two replies that meet the contract of `report` are equal, and so is all that they leave in what was lent; and the answer counts
-- bytes of the buffer. Any two columns of zeros are equal. Assumes nothing.
use Rattle.std.specs.Prelude.{List, ◌≡◌, ℕ, ◌≤◌, length, take, drop}
use Rattle.std.proofs.Common.{ap, sym, ◌∙◌, arith, length-append, length-take-le}
use Rattle.floats.specs.laws.Replies.{same-reply}
use Rattle.build_all_zooms.specs.Zooms.{laid_over}
use Rattle.lister_text.specs.laws.OneInput.{text-one}
use Rattle.lister_text.specs.Text.{Input}
use Rattle.supercluster.specs.Build.{BuildColumns}
use Rattle.lister_report.specs.declared.ListerColumns.{ListerColumns}
use Rattle.lister_report.specs.Report.{lines_of, refused_line, Lending, left, Reports, read, refused_report, lister_held, lister_columns}

pub report-replies : (s : List ℕ) (d : Lending) (r t : ℕ) (d' d'' : Lending) → Reports s d r d' → Reports s d t d'' → (r ≡ t) × (d' ≡ d'')
report-replies s d r t d' d'' (read i v e n l) (read j w f m k) =
    let same = text-one i j v w (sym e ∙ f) in
    (n ∙ ap (λ (q : Input). length (lines_of q)) same ∙ sym m, l ∙ ap (λ (q : Input). left q d) same ∙ sym k)
report-replies s d r t d' d'' (read i v e n l) (refused_report no' m k) = absurd (no' i v e)
report-replies s d r t d' d'' (refused_report no' n l) (read j w f m k) = absurd (no' j w f)
report-replies s d r t d' d'' (refused_report no' n l) (refused_report none m k) = (same-reply n m, same-reply l k)

-- what a caller's `&out[..r]` asks
counts : (l o o' : List ℕ) (r : ℕ) → r ≡ length l → o' ≡ laid_over l o → (r ≤ length o') × (r ≡ length (take r o'))
counts l o o' r n e =
    let h : r ≤ length o' = omega (arith, n, ap length e, length-append l (drop (length l) o)) in
    (h, sym (length-take-le r o' h))

pub report-counts : (s : List ℕ) (d : Lending) (r : ℕ) (d' : Lending) → Reports s d r d' → (r ≤ length d'.out)
    × (r ≡ length (take r d'.out))
unfolding left
report-counts s d r d' (read i v e n l) = counts (lines_of i) d.out d'.out r n (ap (λ (q : Lending). q.out) l)
report-counts s d r d' (refused_report no' n l) = counts refused_line d.out d'.out r n (ap (λ (q : Lending). q.out) l)

-- the columns that hold this
abbrev made_of : BuildColumns → ListerColumns
made_of c = record {
  x = c.table.x;
  y = c.table.y;
  seen = c.table.seen;
  id = c.table.id;
  parent = c.table.parent;
  num = c.table.num;
  energy = c.table.energy;
  ids = c.ids;
  coords = c.coords;
  near = c.near;
}

pub zeros-replies : (r t : ListerColumns) → lister_held r ≡ lister_columns → lister_held t ≡ lister_columns → r ≡ t
zeros-replies r t n m = ap made_of (same-reply n m)
