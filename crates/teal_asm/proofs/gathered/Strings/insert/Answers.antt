use Rattle.std.proofs.Common.{◌∙◌, ap}
use Rattle.std.specs.Str.{bytes_eq}
use Rattle.teal_source.specs.Statements.{with_new}
use Rattle.teal_asm.proofs.Gathering.{inserted}
use Rattle.teal_asm.proofs.gathered.Strings.insert.Goals as goal

pub returns : goal.returns
returns c =
    inserted c.self.inside.set.keys c.insert.new.self.keys c.in_ok-value.value c.in_ok-insert.ensures.keys
    ∙ ap (λ ks. with_new bytes_eq ks c.in_ok-value.value.items) c.self.view_is ∙ ap (with_new bytes_eq c.args.self.now) c.in_ok-value.ensures.items
