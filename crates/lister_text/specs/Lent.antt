-- The columns that points are read into, in a contract. Definitions only.
use Rattle.lister_text.specs.declared.LampColumns.{LampColumns}
use Rattle.lister_text.specs.Text.{PointCols, point_cols}

abbrev pub held_lamps : LampColumns → PointCols
held_lamps c = point_cols c.xs c.ys c.energies
