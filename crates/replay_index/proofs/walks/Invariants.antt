-- `replay_index::walks` meets its contract. The loop's invariant: what remains of the walk decides the whole. Assumes nothing.
use Prim.Native.Nat.{◌-◌}
use mathlib.Core.Path.{◌≡◌}
use Rattle.kdwalk.specs.Reply.{after_step}
use Rattle.replay_index.specs.Same.{walked_slots, walks_to}
use Rattle.replay_index.proofs.walks.Given as goal

abbrev pub invariant-loop-i : goal.invariant-loop-i
invariant-loop-i l =
    walked_slots (after_step l.fn.q l.b.node_size l.b.n l.b.index.coords.now) l.b.index.ids.now l.want (l.m - l.i) l.i l.step
    ≡ walks_to l.fn.q l.b.node_size l.b.n l.b.index.ids.now l.b.index.coords.now l.m l.want
