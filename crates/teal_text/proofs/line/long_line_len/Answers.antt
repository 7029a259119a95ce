use Rattle.teal_text.proofs.LineLengths.{ends_at_feed, ends_at_end}
use Rattle.teal_text.proofs.line.long_line_len.Goals as goal

pub returns-in-Some-clause-value : goal.returns-in-Some-clause-value
returns-in-Some-clause-value c = ends_at_feed c.args.bytes.now c.in-Some.place c.in-Some.ensures

pub returns-in-None-clause-value : goal.returns-in-None-clause-value
returns-in-None-clause-value c = ends_at_end c.args.bytes.now c.in-None.ensures
