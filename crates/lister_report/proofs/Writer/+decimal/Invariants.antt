-- The digits that are left are one less at each call.
use Rattle.lister_report.proofs.Writer.+decimal.Given as goal

abbrev pub decreases-decimal : goal.decreases-decimal
decreases-decimal l = l.left
