-- `check_link` and `check_record`: a link checks its record at its own height, a record its links at least one below. So the measures are 2 height + 1
-- for a link and 2 height for a record.
use Rattle.std.proofs.Common.{◌+◌, ◌*◌}
use Rattle.judge.proofs.walk.+check_link_check_record.Given as goal

abbrev pub decreases-Part::check_link : goal.decreases-Part::check_link
decreases-Part::check_link l = 2 * l.height + 1

abbrev pub decreases-Record::check_record : goal.decreases-Record::check_record
decreases-Record::check_record l = 2 * l.height
