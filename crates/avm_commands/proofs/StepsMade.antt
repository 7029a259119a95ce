-- Steps of a stepper in the entry of a block, and the command's answer.
use Rattle.std.proofs.Common.{◌≡◌, ◌<◌, ◌+◌, ℕ, List, Option, Some, None, Ok, Err, ap, subst, ◌∙◌, refl, arith}
use Rattle.teal_value.specs.declared.failure.Failure.TheVariants as failure
use Rattle.avm_ledger.specs.Ledgers.{Ledger}
use Rattle.avm_call.specs.Views.{view_after}
use Rattle.avm_block.specs.Blocks.{Block}
use Rattle.avm_stepper.specs.declared.step_fault.StepFault.TheVariants as fault
use Rattle.avm_stepper.specs.Debugging.{Debugged}
use Rattle.avm_stepper.specs.DebugSteps.{StepsTo}
use Rattle.avm_stepper.specs.Opening.{IsOpened, ledger_before}
use Rattle.avm_stepper.proofs.StepsMade.{ended_there, made_more}
use Rattle.avm_commands.specs.DebugCommands.{FindsText, IsEnded, IsFoundReply}
use Rattle.avm_commands.specs.DebugRuns.{HasCome, ShowsText}
use Rattle.avm_input.specs.Replies.{Reply, succeeded}

-- ---- in the entry of a block

-- a debugger that was opened has made no step
pub come_first : (base : Ledger) (b : Block) (number : ℕ) (d : Option Debugged) → IsOpened base b number d → HasCome base b number 0 d
come_first base b number d o = record {
  entry = o.entry;
  there = o.there;
  same_base = o.same_base;
  program = o.program;
  made = record { steps = 0; fault = None; is = o.now; counted = refl; can_go = λ n lt. absurd (omega (arith, lt)); over = tt };
}

-- in the entry of a block too, a step that is made counts as one more
pub come_more : (base : Ledger) (b : Block) (number n : ℕ) (now after : Option Debugged) → HasCome base b number n now → StepsTo now after (Ok tt) → HasCome base b number (n + 1) after
come_more base b number n now after h steps = record {
  entry = h.entry;
  there = h.there;
  same_base = h.same_base;
  program = h.program;
  made = made_more (ledger_before base b h.entry) h.entry.call b.header n now after h.made steps;
}

-- where a step after fewer steps answers `Ended`, the program ends before so many
pub come_ended : (base : Ledger) (b : Block) (number n steps : ℕ) (now after : Option Debugged) → HasCome base b number n now → n < steps → StepsTo now after (Err (failure.Fault fault.Ended)) → IsEnded base b number steps
come_ended base b number n steps now after h lt refused = record {
  entry = h.entry;
  there = h.there;
  same_base = h.same_base;
  program = h.program;
  ends = (n, lt, ended_there (ledger_before base b h.entry) h.entry.call b.header n now after h.made refused);
}

-- ---- the answer

-- the text that is shown after so many steps is what is found
pub come_shown : (base : Ledger) (b : Block) (number steps : ℕ) (now : Option Debugged) (text : List ℕ) → HasCome base b number steps now → ShowsText now text → FindsText (base, b) number steps text
come_shown base b number steps now text h shows =
    let made = h.made in
    let (v, view, is) = subst (λ m. ShowsText m text) made.is shows in (
      v,
      record {
        entry = h.entry;
        there = h.there;
        same_base = h.same_base;
        can_go = made.can_go;
        shown = subst (λ n. view_after (ledger_before base b h.entry) h.entry.call b.header n ≡ Some v) made.counted view;
      },
      is,
    )

-- a reply with the text that is found is the reply to the command
pub found_shown : (input : Ledger × Block) (number steps : ℕ) (text : List ℕ) (reply : Reply) → FindsText input number steps text → reply ≡ record { text = text; status = succeeded } → IsFoundReply number steps (Ok input) reply
found_shown input number steps text reply (v, found, is) shown = (Ok v, found, shown ∙ ap (λ t. record { text = t; status = succeeded }) is)
