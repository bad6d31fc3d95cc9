-- `lister_report::ListerColumns::new` meets its contract: its literals are zeros. Assumes nothing.
use Rattle.std.proofs.Common.{refl}
use lib.Ieee.{of_bits}
use Rattle.lister_report.specs.Report.{lister_columns}
use Rattle.lister_report.proofs.ListerColumns.new.Goals as goal

pub returns : goal.returns
unfolding of_bits lister_columns
returns c = refl
