use Rattle.std.proofs.Common.{ap, ◌∙◌}
use Rattle.std.specs.Prelude.{is_some}
use Rattle.std.specs.Map.{lookup}
use Rattle.std.specs.Str.{bytes_eq}
use Rattle.teal_asm.proofs.Bodies.{label_there}
use Rattle.teal_asm.proofs.body.Body.has_label.Goals as goal

pub returns : goal.returns
returns c =
    c.is_some.ensures ∙ ap is_some (c.number_of.ensures ∙ ap (lookup (bytes_eq c.args.name.now)) c.requires.labels)
    ∙ label_there 0 c.args.self.now.statements.items c.args.name.now
