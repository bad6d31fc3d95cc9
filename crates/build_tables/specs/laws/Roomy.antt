-- What the room of the nine columns says of each of them, and the fronts of columns with room. Assumes nothing.
use Rattle.std.proofs.Common.{sym, ◌∙◌, arith, length-take-le}
use Rattle.std.specs.Prelude.{List, ℕ, ◌*◌, ◌/◌, ◌≤◌, min, length, take, Float}
use Rattle.build_tables.specs.Rows.{Cols, each}
use Rattle.build_tables.specs.Room.{Columns, index_room, room_of}
use Rattle.build_tables.specs.laws.Rows.{Even}

-- each column has room for n entries
pub record Roomy (n : ℕ) (c : Cols) : Type 0 where
  pub hx : n ≤ length c.x
  pub hy : n ≤ length c.y
  pub hs : n ≤ length c.seen
  pub hi : n ≤ length c.id
  pub hp : n ≤ length c.parent
  pub hn : n ≤ length c.num
  pub hw : n ≤ length c.energy

pub low : (a b n : ℕ) → n ≤ min a b → n ≤ a
low a b n h = omega arith

pub high : (a b n : ℕ) → n ≤ min a b → n ≤ b
high a b n h = omega arith

pub both : (n a b : ℕ) → n ≤ a → n ≤ b → n ≤ min a b
both n a b p q = omega arith

pub each-roomy : (c : Columns) (n : ℕ) → n ≤ room_of c → Roomy n c.table
each-roomy c n h =
    let a = low _ _ n h in
    let xy = low _ _ n a in
    let si = high _ _ n a in
    let pn = low _ _ n (high _ _ n h) in
    let wi = high _ _ n (high _ _ n h) in
    record {
      hx = low _ _ n xy;
      hy = high _ _ n xy;
      hs = low _ _ n si;
      hi = high _ _ n si;
      hp = low _ _ n pn;
      hn = high _ _ n pn;
      hw = low _ _ n wi;
    }

-- and where each of them has the room, all have
pub roomy-room : (c : Columns) (n : ℕ) → Roomy n c.table → n ≤ index_room c.ids c.coords → n ≤ room_of c
roomy-room c n h i =
    both n _ _ (both n _ _ (both n _ _ h.hx h.hy) (both n _ _ h.hs h.hi))
    (both n _ _ (both n _ _ h.hp h.hn) (both n _ _ h.hw i))

pub roomy-fewer : {c : Cols} (m n : ℕ) → m ≤ n → Roomy n c → Roomy m c
roomy-fewer m n l h =
    record { hx = omega arith; hy = omega arith; hs = omega arith; hi = omega arith; hp = omega arith; hn = omega arith; hw = omega arith }

pub room-index : (c : Columns) (n : ℕ) → n ≤ room_of c → n ≤ index_room c.ids c.coords
room-index c n h = high _ _ n (high _ _ n (high _ _ n h))

pub index-roomy : (ids : List ℕ) (coords : List Float) (n : ℕ) → n ≤ index_room ids coords → (n ≤ length ids) × (2 * n ≤ length coords)
index-roomy ids coords n h =
    let k : n ≤ length coords / 2 = high _ _ n h in
    (low _ _ n h, omega arith)

-- ---- fronts

-- the first m of each column
abbrev pub front_cols : ℕ → Cols → Cols
front_cols m c = each (λ A q. take m q) c

-- they are as long as each other
pub front-even : (m : ℕ) (c : Cols) → Roomy m c → Even (front_cols m c)
front-even m c h =
    let e = sym (length-take-le m c.x h.hx) in
    record {
      ey = length-take-le m c.y h.hy ∙ e;
      es = length-take-le m c.seen h.hs ∙ e;
      ei = length-take-le m c.id h.hi ∙ e;
      ep = length-take-le m c.parent h.hp ∙ e;
      en = length-take-le m c.num h.hn ∙ e;
      ew = length-take-le m c.energy h.hw ∙ e;
    }

-- and have the room
pub front-roomy : (m : ℕ) (c : Cols) → Roomy m c → Roomy m (front_cols m c)
front-roomy m c h =
    record {
      hx = omega (arith, length-take-le m c.x h.hx);
      hy = omega (arith, length-take-le m c.y h.hy);
      hs = omega (arith, length-take-le m c.seen h.hs);
      hi = omega (arith, length-take-le m c.id h.hi);
      hp = omega (arith, length-take-le m c.parent h.hp);
      hn = omega (arith, length-take-le m c.num h.hn);
      hw = omega (arith, length-take-le m c.energy h.hw);
    }
