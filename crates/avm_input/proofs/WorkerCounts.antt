-- The workers of a command, of which there are one to eight.
use Rattle.std.proofs.Common.{◌≡◌, refl, ℕ, ◌&&◌, Bool, true, false, cond, nat_lt, codes, List, [], ◌∷◌, Option, Some, None, option_and_then, option_map, arith}
use Rattle.std.specs.Str.{bytes_eq}
use Rattle.clap.specs.Words.{App, Kinds, Row, Text, fault_of, subcommand_of}
use Rattle.avm_input.specs.CommandLine.{AreOneToEight, command_among, command_found, command_named, number_in, unless_faulty, worker_count, workers_of}
use Rattle.avm_input.specs.declared.command_line.NodeCommand.{NodeCommand}
use Rattle.avm_input.specs.declared.command_line.NodeCommand.TheVariants.{Asm, Check, Debug, Dis, Propose, Replay, State}

record HasOneToEight (command : Option NodeCommand) : Type 0 where
  workers : AreOneToEight (workers_of command)

none_counted : {command : Option NodeCommand} → workers_of command ≡ None → HasOneToEight command
none_counted e = record { workers = rw e tt }

-- a count within its bounds
counted : (n : ℕ) (low high : Bool) → nat_lt 0 n ≡ low → nat_lt n 9 ≡ high → AreOneToEight (cond (low && high) (Some n) None)
counted n true true above below = (search (arith, above), search (arith, below))
counted n true false above below = tt
counted n false high above below = tt

of_count : (workers : Option ℕ) → AreOneToEight workers → HasOneToEight (option_map Propose workers)
of_count None h = none_counted refl
of_count (Some n) h = record { workers = h }

of_propose : (number : Option ℕ) → HasOneToEight (option_map Propose (option_and_then worker_count number))
of_propose None = none_counted refl
of_propose (Some n) = of_count (worker_count n) (counted n _ _ refl refl)

of_debug : (entry steps : Option ℕ) → HasOneToEight (option_and_then (λ e. option_map (Debug e) steps) entry)
of_debug None steps = none_counted refl
of_debug (Some e) None = none_counted refl
of_debug (Some e) (Some s) = none_counted refl

of_state : (timestamp : Option ℕ) → HasOneToEight (option_map State timestamp)
of_state None = none_counted refl
of_state (Some t) = none_counted refl

either : (test : Bool) (a b : Option NodeCommand) → HasOneToEight a → HasOneToEight b → HasOneToEight (cond test a b)
either true a b of_a of_b = of_a
either false a b of_a of_b = of_b

of_named : (name : Text) (options : List Row) → HasOneToEight (command_named name options)
of_named name options =
    let number = λ (option : Text). number_in option options in
    let propose = either (bytes_eq name (codes "propose")) _ _ (of_propose (number (codes "workers"))) (none_counted refl) in
    let state = either (bytes_eq name (codes "state")) _ _ (of_state (number (codes "at"))) propose in
    let debug = either (bytes_eq name (codes "debug")) _ _ (of_debug (number (codes "entry")) (number (codes "steps"))) state in
    let replay = either (bytes_eq name (codes "replay")) (Some Replay) _ (none_counted refl) debug in
    let check = either (bytes_eq name (codes "check")) (Some Check) _ (none_counted refl) replay in
    let dis = either (bytes_eq name (codes "dis")) (Some Dis) _ (none_counted refl) check in
    either (bytes_eq name (codes "asm")) (Some Asm) _ (none_counted refl) dis

of_found : (rows : Option (Text × List Row)) → HasOneToEight (command_found command_named rows)
of_found None = none_counted refl
of_found (Some (name, options)) = of_named name options

of_unless : (kinds : Kinds) (command : Option NodeCommand) → HasOneToEight command → HasOneToEight (unless_faulty kinds command)
of_unless [] command h = h
of_unless (k ∷ ks) command h = none_counted refl

-- the command that words are has them
pub workers_of-words : (commands : App) (words : List Text) (command : Option NodeCommand) → command ≡ command_among command_named commands words → AreOneToEight (workers_of command)
unfolding command_among
workers_of-words commands words command e = rw e (of_unless (fault_of commands words) _ (of_found (subcommand_of commands words))).workers
