-- The digits that are left are one less at each call.
use Rattle.lister_report.proofs.Writer.+hex.Given as goal

abbrev pub decreases-hex : goal.decreases-hex
decreases-hex l = l.left
