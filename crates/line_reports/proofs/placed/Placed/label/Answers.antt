-- Its end is in the range of 32 bits.
use Rattle.line_reports.proofs.placed.Placed.label.Goals as goal

pub primary_at-requires : goal.primary_at-requires
primary_at-requires c = c.args.self.now.short

pub new-requires : goal.new-requires
new-requires c = c.args.self.now.short
