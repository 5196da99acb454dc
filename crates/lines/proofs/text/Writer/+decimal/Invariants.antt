-- `decimal`: its measure is how many digits it may have.
use Rattle.lines.proofs.text.Writer.+decimal.Given as goal

abbrev pub decreases-decimal : goal.decreases-decimal
decreases-decimal l = l.digits
