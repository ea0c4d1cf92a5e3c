use Rattle.std.proofs.Common.{arith}
use Rattle.dd_alias.proofs.band.ways.Goals as goal

pub returns : goal.returns
returns c = (
  c.gap-gap.result,
  c.lead-up.result,
  c.complement.result,
  record {
    above = c.gap-gap.ensures.above;
    small = c.gap-gap.ensures.small;
    line = c.gap-gap.ensures.line;
    steps = c.gap-gap.ensures.rows;
    near_over = c.lead-up.ensures.small;
    near_under = c.complement.ensures.small;
    leads = c.lead-up.ensures.leads;
    around = (c.complement.ensures.exact c.complement.result).1 (0, omega arith);
    up = c.beyond.ensures;
    down = c.beyond-2.ensures;
  },
)
