use Rattle.std.proofs.Common.{sym, subst}
use Rattle.std.proofs.lemmas.List.{reverse-reverse}
use Rattle.json.specs.Tree.{json_tokens}
use Rattle.avm_stepper.specs.Shown.{machine_seen, next_seen}
use Rattle.json_views.specs.Documents.{array_of}
use Rattle.json_views.specs.States.{shown_value}
use Rattle.json_views.specs.Writing.{Adds}
use Rattle.json_views.proofs.Steps.{last, ◌then◌}
use Rattle.json_views.specs.MachineStates.{error_members, state_members}
use Rattle.json_views.proofs.StateTokens.{in_object}
use Rattle.json_views.proofs.machine.put_state.Goals as goal

pub returns : goal.returns
returns c =
    let view = c.args.view.now in
    -- the stack is seen from the top
    let stack = subst (λ vs. Adds c.put_name-2.new.out c.put_values.new.out (json_tokens (array_of shown_value vs))) (sym (reverse-reverse view.stack.now)) c.in_ok-put_values.ensures in
    last c.end_object.result c.end_object.ensures
    (λ ends. in_object (error_members (next_seen view.next)) (state_members c.args.program.now (machine_seen view)) c.in_ok-begin_object.ensures c.in_ok-put_error.ensures
    ((rw (c.from.ensures, c.line_at-line.ensures) at c.in_ok-put_uint_member.ensures) then (rw c.from-2.ensures at c.in_ok-put_uint_member-2.ensures) then c.in_ok-put_name.ensures then (rw c.deref.ensures.value at c.in_ok-put_scratch.ensures) then c.in_ok-put_name-2.ensures
    then stack then ends))
