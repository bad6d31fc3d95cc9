-- `lister_text::parse` meets its contract: it answers what `parsed_of` does, and the law `parsing` says what that is. Assumes nothing.
use Rattle.std.proofs.Common.{◌≡◌, refl, sym, ◌∙◌, true, false, Option, Some, None, Ok, Err, lt-ltb, le-ltb}
use Rattle.std.proofs.lemmas.Option.{MatchOption-at_some}
use Rattle.std.proofs.lemmas.Result.{err_from_is_err_and}
use Rattle.std.specs.Option.{ok_or}
use Rattle.refusals.specs.declared.Refusal.{Refusal}
use Rattle.refusals.specs.declared.Refusal.TheVariants.{Text}
use Rattle.lister_text.specs.declared.Head.{Head}
use Rattle.lister_text.specs.Lent.{held_lamps}
use Rattle.lister_text.specs.laws.Form.{points_ok, filled_form, parsed_of}
use Rattle.lister_text.specs.laws.Whole.{err-inj, refused-not, parsing}
use Rattle.lister_text.proofs.parse.Goals as goal

no-head : (o : Option Head) (e : Refusal) → ok_or o Text ≡ Err e → (o ≡ None) × (e ≡ Text)
no-head (Some h) e q = absurd (refused-not (sym q))
no-head None e q = (refl, sym (err-inj q))

pub returns-then-s-gt65536 : goal.returns-then-s-gt65536
unfolding parsed_of
returns-then-s-gt65536 c =
    let d = held_lamps c.args.lamps.now in
    parsing c.args.s.now d (Err Text) d (sym (simp (lt-ltb _ _ c.if-s-gt65536.true))) refl

pub returns-in_err-h : goal.returns-in_err-h
unfolding parsed_of
returns-in_err-h c =
    let d = held_lamps c.args.lamps.now in
    let p = err_from_is_err_and c.from_residual.result c.from_residual.ensures.1 in
    let o = no-head c.head.result c.in_err-h.field-0.0 (sym c.ok_or.ensures.value ∙ c.in_err-h.was) in
    rw (p.1, p.2, o.1)
    (parsing c.args.s.now d (Err Text) d (sym (simp (le-ltb _ _ c.if-s-gt65536.false, sym c.head.ensures.read ∙ o.0))) refl)

pub returns-then-not-points_ok : goal.returns-then-not-points_ok
unfolding parsed_of
returns-then-not-points_ok c =
    let d = held_lamps c.args.lamps.now in
    let h = c.in_ok-h.h in
    let is : c.head.result ≡ Some h = c.in_ok-h.ensures.ok_part in
    let next = MatchOption-at_some _ _ h is c.head.ensures.next in
    let ok : points_ok h.count c.args.s.now h.next.at ≡ false = sym (λ k. points_ok h.count (c.head.ensures.text k).now (next.1 k))
    ∙ sym c.points_ok.ensures ∙ c.if-not-points_ok.true in
    parsing c.args.s.now d (Err Text) d (sym (simp (le-ltb _ _ c.if-s-gt65536.false, sym c.head.ensures.read ∙ is, ok))) refl

pub fill-requires : goal.fill-requires
fill-requires c = (MatchOption-at_some _ _ c.in_ok-h.h c.in_ok-h.ensures.ok_part c.head.ensures.next).0

pub returns : goal.returns
unfolding parsed_of
returns c =
    let d = held_lamps c.args.lamps.now in
    let h = c.in_ok-h.h in
    let is : c.head.result ≡ Some h = c.in_ok-h.ensures.ok_part in
    let next = MatchOption-at_some _ _ h is c.head.ensures.next in
    let ok : points_ok h.count c.args.s.now h.next.at ≡ true = sym (λ k. points_ok h.count (c.head.ensures.text k).now (next.1 k))
    ∙ sym c.points_ok.ensures ∙ c.if-not-points_ok.false in
    parsing c.args.s.now d (Ok h) _ (sym (simp (le-ltb _ _ c.if-s-gt65536.false, sym c.head.ensures.read ∙ is, ok)))
    (c.fill.ensures ∙ (λ k. filled_form h.count (c.head.ensures.text k).now (next.1 k) 0 d))
