-- What a question is lent of the columns that a build leaves. Definitions only.
use Rattle.build_tables.specs.Room.{Columns, columns}
use Rattle.supercluster.specs.Build.{BuildColumns}

-- those of the columns that a build leaves which a question is lent
abbrev pub columns_of : BuildColumns → Columns
columns_of l = columns l.table l.ids l.coords
