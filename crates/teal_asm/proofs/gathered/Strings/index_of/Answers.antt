use Rattle.std.proofs.Common.{sym, ◌∙◌, ap}
use Rattle.std.specs.List.{position_or_len}
use Rattle.std.specs.Str.{bytes_eq}
use Rattle.teal_asm.proofs.Gathering.{found_at, not_found}
use Rattle.teal_asm.proofs.gathered.Strings.index_of.Goals as goal

pub returns-in-Some : goal.returns-in-Some
returns-in-Some c = found_at c.args.bytes.now c.self.inside.set.keys c.in-Some.index (sym c.in-Some.ensures.index) ∙ ap (position_or_len (bytes_eq c.args.bytes.now)) c.self.view_is

pub returns-in-None : goal.returns-in-None
returns-in-None c = not_found c.args.bytes.now c.self.inside.set.keys c.len.result (sym c.in-None.ensures.index) c.len.ensures.len ∙ ap (position_or_len (bytes_eq c.args.bytes.now)) c.self.view_is
