use Rattle.std.proofs.Common.{◌∙◌, ap}
use Rattle.std.specs.Map.{lookup}
use Rattle.std.specs.Str.{bytes_eq}
use Rattle.teal_asm.proofs.Gathering.{found_label}
use Rattle.teal_asm.proofs.gathered.Labels.number_of.Goals as goal

pub returns : goal.returns
returns c = c.copied.ensures ∙ c.get.ensures.value ∙ found_label c.args.name.now c.self.inside.table.entries ∙ ap (lookup (bytes_eq c.args.name.now)) c.self.view_is
