-- The lines of a table, one by one: of a table, and of a part of the rows that is one. Assumes nothing.
use Rattle.std.specs.Prelude.{[], ◌++◌, ◌≡◌, ℕ, suc, ◌+◌, ◌<◌, ◌≤◌, length, drop}
use Rattle.std.proofs.Common.{ap, sym, ◌∙◌, refl, arith, add-one, drop_of_length-le, drop-cons, get_or-take, get_or-drop}
use Rattle.build_tables.specs.declared.Entry.{Entry}
use Rattle.build_tables.specs.Columns.{part}
use Rattle.build_tables.specs.laws.Columns.{part-long}
use Rattle.build_tables.specs.Entries.{Table, entry, none}
use Rattle.lister_report.specs.Lines.{line_text, table_text}

module _ (t : Table) (zoom i : ℕ) where
  -- the line of the entry at i, and then the others
  pub entry-line : (e : Entry) → i < length t → e ≡ entry t i
      → table_text zoom i (drop i t) ≡ line_text zoom i e ++ table_text zoom (i + 1) (drop (i + 1) t)
  unfolding table_text
  entry-line e k same =
      rw (drop-cons t i none k, add-one)
      (ap (λ (d : Entry). line_text zoom i d ++ table_text zoom (suc i) (drop (suc i) t)) (sym same))

  pub entry-none : length t ≤ i → table_text zoom i (drop i t) ≡ []
  unfolding table_text
  entry-none k = rw (drop_of_length-le t k) refl

module _ (start len : ℕ) (t : Table) (h : start + len ≤ length t) where
  -- the line of the next entry, which stands in the rows at start + i, and then the others
  pub line-next : (zoom i : ℕ) (e : Entry) → i < len → e ≡ entry t (start + i)
      → table_text zoom i (drop i (part start len t)) ≡ line_text zoom i e ++ table_text zoom (i + 1) (drop (i + 1) (part start len t))
  line-next zoom i e k same =
      let q : entry (part start len t) i ≡ e = get_or-take len (drop start t) i none k ∙ get_or-drop start t i none ∙ sym same in
      let l = part-long start len t h in
      entry-line (part start len t) zoom i e (omega (arith, k, l)) (sym q)

  pub line-none : (zoom i : ℕ) → len ≤ i → table_text zoom i (drop i (part start len t)) ≡ []
  line-none zoom i k = let l = part-long start len t h in entry-none (part start len t) zoom i (omega (arith, k, l))
