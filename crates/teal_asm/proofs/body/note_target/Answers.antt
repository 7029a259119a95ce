use Rattle.std.proofs.Common.{ap, sym, ◌∙◌, ◌||◌, false}
use Rattle.std.specs.Prelude.{is_some}
use Rattle.std.specs.Map.{lookup}
use Rattle.std.specs.Option.{option_map_or}
use Rattle.std.specs.Str.{bytes_eq}
use Rattle.indexmap.proofs.MapLemmas.{OnOk-map}
use Rattle.teal_asm.proofs.Needless.{one_target_more}
use Rattle.teal_asm.proofs.body.note_target.Goals as goal

pub returns-in-Some : goal.returns-in-Some
returns-in-Some c =
    OnOk-map c.insert.result _ _
    (λ is name e.
    ap (λ l. is_some (lookup (bytes_eq name) c.args.targets.now) || option_map_or (λ label. bytes_eq name label) l false) (sym c.in-Some.ensures)
    ∙ one_target_more c.in-Some.label.now c.args.number c.args.targets.now c.insert.new.self is name e)
    c.insert.ensures
