-- SCOPE's text of the table lister, with the line of each point's energy: the writing of an input, key=value line by line, and what it is
-- to read a text. Definitions only.
use Rattle.std.specs.Prelude.{List, [], ◌∷◌, ◌++◌, map, ◌≡◌, ℕ, ◌+◌, ◌≤◌, length, take, Float, Result, Ok, Err}
use Rattle.std.proofs.lemmas.List.Edits.{sets}
use Rattle.lister_text.specs.declared.Head.{Head}
use Rattle.lister_text.specs.declared.LampText.{LampText}
use Rattle.refusals.specs.declared.Refusal.{Refusal}
use Rattle.refusals.specs.declared.Refusal.TheVariants.{Text}
use Rattle.lister_text.specs.Bytes.{bytes}
use Rattle.lister_text.specs.Digits.{decimal_of}
use Rattle.lister_text.specs.Values.{coord_of}

-- ---- the keys, each with its `=`

abbrev pub min_zoom_key : List ℕ
min_zoom_key = bytes "min_zoom="

abbrev pub max_zoom_key : List ℕ
max_zoom_key = bytes "max_zoom="

abbrev pub min_points_key : List ℕ
min_points_key = bytes "min_points="

abbrev pub radius_key : List ℕ
radius_key = bytes "radius="

abbrev pub extent_key : List ℕ
extent_key = bytes "extent="

abbrev pub node_size_key : List ℕ
node_size_key = bytes "node_size="

abbrev pub count_key : List ℕ
count_key = bytes "count="

abbrev pub x_key : List ℕ
x_key = bytes "x="

abbrev pub y_key : List ℕ
y_key = bytes "y="

abbrev pub wh_key : List ℕ
wh_key = bytes "wh="

-- ---- the writing of an input

-- a line: the key with its `=`, the number, the line's end
unfoldable pub line : List ℕ → ℕ → List ℕ
line key v = key ++ (decimal_of 7 v ++ (10 ∷ []))

pub record Input : Type 0 where
  pub min_zoom : ℕ
  pub max_zoom : ℕ
  pub min_points : ℕ
  pub radius : ℕ
  pub extent : ℕ
  pub node_size : ℕ
  pub points : List LampText

-- the lines of a point, and then t
abbrev pub point_text : LampText → List ℕ → List ℕ
point_text p t = line x_key p.x ++ (line y_key p.y ++ (line wh_key p.wh ++ t))

unfoldable pub points_text : List LampText → List ℕ
points_text [] = []
points_text (p ∷ ps) = point_text p (points_text ps)

-- the first seven lines, and then t
abbrev pub head_text : ℕ → ℕ → ℕ → ℕ → ℕ → ℕ → ℕ → List ℕ → List ℕ
head_text a b m r e n k t =
    line min_zoom_key a ++
    (line max_zoom_key b ++
    (line min_points_key m ++ (line radius_key r ++ (line extent_key e ++ (line node_size_key n ++ (line count_key k ++ t))))))

abbrev pub text : Input → List ℕ
text i =
    head_text i.min_zoom i.max_zoom i.min_points i.radius i.extent i.node_size (length i.points) (points_text i.points)

-- each number of a point has at most seven digits
abbrev pub Small : List LampText → Type 0
Small [] = Unit
Small (p ∷ ps) = ((p.x ≤ 9999999) × (p.y ≤ 9999999) × (p.wh ≤ 9999999)) × Small ps

-- SCOPE's bounds of a text
pub record Valid (i : Input) : Type 0 where
  pub min_zoom : i.min_zoom ≤ 255
  pub max_zoom : i.max_zoom ≤ 255
  pub min_points : i.min_points ≤ 255
  pub radius : i.radius ≤ 9999999
  pub extent : i.extent ≤ 9999999
  pub node_size : i.node_size ≤ 9999999
  pub count : length i.points ≤ 1152
  pub points : Small i.points
  pub short : length (text i) ≤ 65536

-- ---- what it is to read a text

-- these numbers, and the place past them
abbrev pub head_for : ℕ → ℕ → ℕ → ℕ → ℕ → ℕ → ℕ → ℕ → Head
head_for a b m r e n k p =
    record {
      min_zoom = a;
      max_zoom = b;
      min_points = m;
      radius = r;
      extent = e;
      node_size = n;
      count = k;
      next = record { at = p };
    }

-- where the first seven lines end
abbrev pub head_end : ℕ → ℕ → ℕ → ℕ → ℕ → ℕ → ℕ → ℕ
head_end a b m r e n k =
    0 + length (line min_zoom_key a) + length (line max_zoom_key b) + length (line min_points_key m) + length (line radius_key r)
    + length (line extent_key e) + length (line node_size_key n) + length (line count_key k)

-- the head of an input
abbrev pub head_is : Input → Head
head_is i =
    head_for i.min_zoom i.max_zoom i.min_points i.radius i.extent i.node_size (length i.points)
    (head_end i.min_zoom i.max_zoom i.min_points i.radius i.extent i.node_size (length i.points))

-- what is stored of a point
abbrev pub x_of : LampText → Float
x_of p = coord_of p.x

abbrev pub y_of : LampText → Float
y_of p = coord_of p.y

abbrev pub wh_of : LampText → ℕ
wh_of p = p.wh

abbrev pub given_xs : Input → List Float
given_xs i = map x_of i.points

abbrev pub given_ys : Input → List Float
given_ys i = map y_of i.points

abbrev pub given_energies : Input → List ℕ
given_energies i = map wh_of i.points

-- the columns that points are read into
pub record PointCols : Type 0 where
  pub xs : List Float
  pub ys : List Float
  pub energies : List ℕ

abbrev pub point_cols : List Float → List Float → List ℕ → PointCols
point_cols xs ys energies = record { xs = xs; ys = ys; energies = energies }

-- those of an input
abbrev pub points_of : Input → PointCols
points_of i = point_cols (given_xs i) (given_ys i) (given_energies i)

-- the first n of each, and that each holds n
abbrev pub front_of : ℕ → PointCols → PointCols
front_of n c = point_cols (take n c.xs) (take n c.ys) (take n c.energies)

pub record Fits (n : ℕ) (c : PointCols) : Type 0 where
  pub x : n ≤ length c.xs
  pub y : n ≤ length c.ys
  pub energy : n ≤ length c.energies

-- the columns with points from the place k on, and elsewhere what they held
abbrev pub put_points : PointCols → ℕ → List LampText → PointCols
put_points c k ps = point_cols (sets c.xs k (map x_of ps)) (sets c.ys k (map y_of ps)) (sets c.energies k (map wh_of ps))

-- s is the writing of an input; its head is h, and the columns hold its points and past them what they held
pub record Reads (s : List ℕ) (c : PointCols) (h : Head) (c' : PointCols) : Type 0 where
  pub input : Input
  pub valid : Valid input
  pub is : s ≡ text input
  pub head : h ≡ head_is input
  pub stored : c' ≡ put_points c 0 input.points

-- s is the writing of no input, and the columns are as they were
pub record Refuses (s : List ℕ) (c c' : PointCols) : Type 0 where
  pub none : (i : Input) → Valid i → s ≡ text i → ⊥
  pub same : c' ≡ c

-- the only refusal is that of a text, 12
abbrev pub Parsing : List ℕ → PointCols → Result Head Refusal → PointCols → Type 0
Parsing s c (Ok h) c' = Reads s c h c'
Parsing s c (Err e) c' = (e ≡ Text) × Refuses s c c'
