use Rattle.std.proofs.Common.{◌-◌}
use Rattle.dd_alias.proofs.meeting.+meet_between.Given as goal

abbrev pub decreases-meet_between : goal.decreases-meet_between
decreases-meet_between l = l.end - l.first
