-- What is left of the interval fills what is left of the page. Assumes nothing.
use Rattle.std.proofs.Common.{◌≡◌, ◌-◌, length}
use Rattle.kdslots.specs.Slots.{over, scanned}
use Rattle.kdpages.specs.Pages.{store}
use Rattle.kdpages.proofs.fill_from.Given as goal

abbrev pub invariant-loop-i : goal.invariant-loop-i
invariant-loop-i l =
    let o = over l.s.query l.s.coords.now in
    (length l.page ≡ length l.initial.page)
    × (store l.at (scanned o l.from (l.hi - l.from)) l.initial.page ≡ store l.k (scanned o l.i (l.hi - l.i)) l.page)
