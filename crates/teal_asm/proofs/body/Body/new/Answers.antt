use Rattle.std.proofs.Common.{[], refl, sym, ap, ◌∙◌, arith, length}
use Rattle.std.specs.Map.{lookup}
use Rattle.std.specs.Prelude.{is_some}
use Rattle.std.specs.Str.{bytes_eq}
use Rattle.teal_asm.specs.Meaning.{labels_from}
use Rattle.teal_asm.proofs.Bodies.{body_is}
use Rattle.teal_asm.proofs.body.Body.new.Goals as goal

pub returns-clause-body : goal.returns-clause-body
unfolding labels_from
returns-clause-body c = body_is _ [] c.new.ensures.items c.new-2.ensures.empty c.new-3.ensures c.new-4.ensures refl refl refl (omega (arith, ap length c.new-2.ensures.empty)) (omega (arith, ap length c.new-3.ensures))
    (λ name e. sym (ap (λ ls. is_some (lookup (bytes_eq name) ls)) c.new-5.ensures) ∙ e)
    (λ e later. e)
