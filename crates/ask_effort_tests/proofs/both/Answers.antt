-- `both` meets its contract: the second search goes on where the first ended. Assumes nothing.
use Rattle.std.proofs.Common.{◌≡◌, refl, sym, ap, ◌∙◌, true, ℕ, Float, Some, None, Result, Ok, Err, arith, rules, length, leb, leb-true, ◌≤◌}
use mathlib.Core.List.{List, [], ◌++◌, append-nil, flat_map}
use Rattle.kdslots.specs.declared.Query.{Query}
use Rattle.kdslots.specs.Slots.{over}
use Rattle.kdslots.specs.Bounds.{coords_ok}
use Rattle.kdslots.specs.laws.Bounds.{coords-is, and_both}
use Rattle.kdbush.specs.Reply.{index_ok}
use Rattle.ask_box_plan.specs.declared.BoxPlan.{BoxPlan}
use Rattle.ask_box_plan.specs.laws.Queries.{seconds, queries_of}
use Rattle.ask_effort_tests.specs.declared.Spent.{Spent}
use Rattle.ask_effort_tests.specs.declared.End.{End}
use Rattle.ask_effort_tests.specs.Tested.{tests}
use Rattle.ask_effort_tests.specs.Trials.{Mark, marks, trials}
use Rattle.ask_effort_tests.specs.laws.Spend.{fresh, went_tests, spend, spend-then, spend-ended, spend-sum}
use Rattle.ask_effort_tests.proofs.Turns.{same_went}
use Rattle.ask_effort_tests.proofs.both.Goals as goal

-- the plan, over an index
module _ (p : BoxPlan) (size n : ℕ) (ids : List ℕ) (co : List Float) where
  wide_enough : index_ok size n ids co ≡ true → n ≤ length ids
  wide_enough e = leb-true n (length ids) (and_both (coords_ok size n (length co)) (leb n (length ids)) e).1

  -- the tests of one query, of the plan's first and of what comes after it
  abbrev of_query : Query → List Mark
  of_query q = marks (over q co) ids (tests q co size n)

  abbrev after : List Mark
  after = flat_map of_query (seconds p.second)

  in-turn : of_query p.first ++ after ≡ trials (queries_of p) size n ids co
  unfolding flat_map
  in-turn = refl

  after-one : p.second ≡ None → after ≡ []
  unfolding flat_map
  after-one e = rw e

  after-two : (q : Query) → p.second ≡ Some q → of_query q ≡ after
  unfolding flat_map
  after-two q e = sym (rw e (append-nil (of_query q)))

  -- the first search ends
  ended : (a : ℕ) (x : End) (out o : List ℕ) → went_tests (Err x) o ≡ spend n (of_query p.first) (fresh a) out
      → went_tests (Err x) o ≡ spend n (trials (queries_of p) size n ids co) (fresh a) out
  ended a x out o e = spend-ended n (of_query p.first) after (fresh a) x out o e ∙ ap (λ (ms : List Mark). spend n ms (fresh a) out) in-turn

  -- there is no second
  alone : (a : ℕ) (k : Spent) (out o : List ℕ) → went_tests (Ok k) o ≡ spend n (of_query p.first) (fresh a) out → p.second ≡ None
      → went_tests (Ok k) o ≡ spend n (trials (queries_of p) size n ids co) (fresh a) out
  alone a k out o e f =
      e ∙ ap (λ (ms : List Mark). spend n ms (fresh a) out)
      (sym (append-nil (of_query p.first)) ∙ ap (λ (ms : List Mark). of_query p.first ++ ms) (sym (after-one f)) ∙ in-turn)

  -- the second goes on
  on : (q : Query) (a : ℕ) (k : Spent) (r : Result Spent End) (out o y : List ℕ) → went_tests (Ok k) o ≡ spend n (of_query p.first) (fresh a) out
      → went_tests r y ≡ spend n (of_query q) k o → p.second ≡ Some q
      → went_tests r y ≡ spend n (trials (queries_of p) size n ids co) (fresh a) out
  on q a k r out o y e f g =
      spend-then n (of_query p.first) after (fresh a) k r out o y e (f ∙ ap (λ (ms : List Mark). spend n ms k o) (after-two q g))
      ∙ ap (λ (ms : List Mark). spend n ms (fresh a) out) in-turn

pub returns-in_err-k : goal.returns-in_err-k
returns-in_err-k c =
    let a = c.args in
    let x = c.in_err-k.field-0.0 in
    let e : c.from_residual.result ≡ Err x = search rules in
    same_went e refl
    ∙ ended a.p.now a.node_size a.n a.index.now.ids.now a.index.now.coords.now a.allowance x a.out.now c.part.new.out c.in_err-k.ensures

pub returns : goal.returns
returns c =
    let a = c.args in
    alone a.p.now a.node_size a.n a.index.now.ids.now a.index.now.coords.now a.allowance c.in_ok-k.k a.out.now c.part.new.out c.in_ok-k.ensures
    c.in_default.is

pub part-requires-in-Some : goal.part-requires-in-Some
part-requires-in-Some c =
    let a = c.args in
    let ids = a.index.now.ids.now in
    let co = a.index.now.coords.now in
    let w = coords-is a.node_size a.n (length co) (and_both (coords_ok a.node_size a.n (length co)) (leb a.n (length ids)) c.requires).0 in
    let v = wide_enough a.p.now a.node_size a.n ids co c.requires in
    let u = spend-sum a.n (of_query a.p.now a.node_size a.n ids co a.p.now.first) (fresh a.allowance) (Ok c.in_ok-k.k) a.out.now c.part.new.out
    c.in_ok-k.ensures in
    omega (arith, u)

pub returns-in-Some : goal.returns-in-Some
returns-in-Some c =
    let a = c.args in
    on a.p.now a.node_size a.n a.index.now.ids.now a.index.now.coords.now c.in-Some.query a.allowance c.in_ok-k.k c.part-in-Some.result a.out.now c.part.new.out
    c.part-in-Some.new.out c.in_ok-k.ensures c.part-in-Some.ensures c.in-Some.is
