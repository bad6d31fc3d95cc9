-- `build_one_zoom::zoom::forget` meets its contract: at the head of the loop the first notes are zeros. Assumes nothing.
use Rattle.std.proofs.Common.{◌≡◌, ℕ, ◌<◌, get_or}
use Rattle.build_one_zoom.proofs.zoom.forget.Given as goal

abbrev pub invariant-loop-note : goal.invariant-loop-note
invariant-loop-note l = (i : ℕ) → i < l.note-index → get_or l.notes i 0 ≡ 0
