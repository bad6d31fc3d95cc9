-- Only one text is printed for a text, and it is what `report` leaves; so comparing bytes decides whether a case agrees. Assumes nothing.
use Rattle.std.specs.Prelude.{Bool, true, false, List, ◌≡◌, ℕ, length, take, drop}
use Rattle.std.proofs.Common.{ap, sym, subst, ◌∙◌, arith, take_at}
use Rattle.build_all_zooms.specs.Zooms.{laid_over}
use Rattle.lister_text.specs.laws.OneInput.{text-one}
use Rattle.lister_report.specs.Report.{lines_of, refused_line, Lending, left, Reports, read, refused_report}
use Rattle.replay_vectors.specs.Same.{same_places}
use Rattle.replay_vectors.specs.Equal.{places-equal, places-self}
use Rattle.replay_lister.specs.Prints.{Prints, lines, no_text, prints_is}

pub prints-one : (s a b : List ℕ) → Prints s a → Prints s b → a ≡ b
prints-one s a b (lines i v e p) (lines j w f q) = p ∙ ap lines_of (text-one i j v w (sym e ∙ f)) ∙ sym q
prints-one s a b (lines i v e p) (no_text no' q) = absurd (no' i v e)
prints-one s a b (no_text no' p) (lines j w f q) = absurd (no' j w f)
prints-one s a b (no_text no' p) (no_text none' q) = p ∙ sym q

front : (l o o' : List ℕ) (r : ℕ) → r ≡ length l → o' ≡ laid_over l o → take r o' ≡ l
front l o o' r n e = ap (take r) e ∙ take_at l (drop (length l) o) r (sym n)

-- what `report` leaves at the front of its buffer
pub reported : (s : List ℕ) (d : Lending) (r : ℕ) (d' : Lending) → Reports s d r d' → Prints s (take r d'.out)
unfolding left
reported s d r d' (read i v e n l) = lines i v e (front (lines_of i) d.out d'.out r n (ap (λ (q : Lending). q.out) l))
reported s d r d' (refused_report no' n l) = no_text no' (front refused_line d.out d'.out r n (ap (λ (q : Lending). q.out) l))

-- and the comparison with it
pub decides : (s got want : List ℕ) → Prints s got → (b : Bool) → b ≡ same_places want got → prints_is s want b
decides s got want p true e = subst (Prints s) (sym (places-equal want got (sym e))) p
decides s got want p false e = λ q.
    let h : ◌≡◌ {A = Bool} false true = e ∙ ap (λ (l : List ℕ). same_places l got) (prints-one s want got q p) ∙ places-self got in
    let z : ◌≡◌ {A = ℕ} 0 1 = cc in
    omega arith
