-- Which words are a command.
use Rattle.std.specs.Prelude.{ℕ, ◌^◌, ◌<◌, ◌≤◌, ◌&&◌, Bool, nat_lt, length, ◌∷◌, [], List, Option, Some, None, IfSome, true, codes, if◌then◌else◌, option_and_then, option_map}
use Rattle.std.specs.List.{fold, list_all}
use Rattle.std.specs.Char.{digit_value}
use Rattle.std.specs.Str.{bytes_eq}
use Rattle.std.specs.Str.Parse.{digits_value, without_leading_plus}
use Rattle.clap.specs.declared.builder.action.ArgAction.TheVariants.{Set}
use Rattle.clap.specs.declared.builder.value_parser.ValueParser.TheVariants as parser
use Rattle.clap.specs.Words.{App, Kinds, Row, Rule, Text, fault_of, new_app, new_rule, one_of, subcommand_of, with_rule, with_subcommand}
use Rattle.avm_input.specs.declared.command_line.NodeCommand.{NodeCommand}
use Rattle.avm_input.specs.declared.command_line.NodeCommand.TheVariants.{Asm, Check, Debug, Dis, Propose, Replay, State}

-- an option with a number below 2^64, as `--at T`, which has to be given or need not
abbrev pub number_rule : Bool → Text → Rule
number_rule required name = record (new_rule name) { long = Some name; action = Some Set; parser = Some (parser.Unsigned 0 18446744073709551615); required = required }

-- a program without commands; no word is its name
abbrev pub bare_line : Text → App
bare_line program = let bare = new_app program in record bare { top = record bare.top { no_binary_name = true } }

-- the command of this name, whose options are numbers with these names
abbrev pub numbered : Bool → Text → List Text → App
numbered required name options = fold (λ command option. with_rule command (number_rule required option)) (new_app name) options

-- a program with these commands, each of a name and the names of its options
abbrev pub program_line : Bool → Text → List (Text × List Text) → App
program_line required program commands = fold (λ line (command : Text × List Text). with_subcommand line (numbered required command.0 command.1).top) (bare_line program) commands

-- the commands and their options, which have to be given
abbrev pub command_line : App
command_line = program_line true (codes "avm") (
    (codes "asm", []) ∷ (codes "dis", []) ∷ (codes "check", []) ∷ (codes "replay", [])
    ∷ (codes "debug", codes "entry" ∷ codes "steps" ∷ []) ∷ (codes "state", codes "at" ∷ []) ∷ (codes "propose", codes "workers" ∷ []) ∷ [])

abbrev pub is_digit : ℕ → Bool
is_digit c = nat_lt (digit_value c) 10

-- the number below 2^64 that decimal digits write, behind a plus or none
abbrev pub u64_of : Text → Option ℕ
u64_of text =
    let digits = without_leading_plus text in
    if nat_lt 0 (length digits) && (list_all is_digit digits && nat_lt (digits_value 10 digits) (2 ^ 64)) then Some (digits_value 10 digits) else None

-- the number that an option of this name has
abbrev pub number_in : Text → List Row → Option ℕ
number_in name options = option_and_then u64_of (one_of name options)

-- one to eight
abbrev pub worker_count : ℕ → Option ℕ
worker_count n = if nat_lt 0 n && nat_lt n 9 then Some n else None

abbrev pub debug_command : List Row → Option NodeCommand
debug_command options = option_and_then (λ entry. option_map (Debug entry) (number_in (codes "steps") options)) (number_in (codes "entry") options)

abbrev pub state_command : List Row → Option NodeCommand
state_command options = option_map State (number_in (codes "at") options)

abbrev pub propose_command : List Row → Option NodeCommand
propose_command options = option_map Propose (option_and_then worker_count (number_in (codes "workers") options))

-- the command of a name, with its options
abbrev pub command_named : Text → List Row → Option NodeCommand
command_named name options =
    if bytes_eq name (codes "asm") then Some Asm
    else if bytes_eq name (codes "dis") then Some Dis
    else if bytes_eq name (codes "check") then Some Check
    else if bytes_eq name (codes "replay") then Some Replay
    else if bytes_eq name (codes "debug") then debug_command options
    else if bytes_eq name (codes "state") then state_command options
    else if bytes_eq name (codes "propose") then propose_command options
    else None

-- the command of a name and options that were found, if any were
abbrev pub command_found : {C : Type 0} → (Text → List Row → Option C) → Option (Text × List Row) → Option C
command_found named rows = option_and_then (λ (found : Text × List Row). named found.0 found.1) rows

-- nothing, where there is a fault
abbrev pub unless_faulty : {A : Type 0} → Kinds → Option A → Option A
unless_faulty [] value = value
unless_faulty (kind ∷ kinds) value = None

-- the command that words are to clap where these are the commands, of which a request for help is none
unfoldable pub command_among : {C : Type 0} → (Text → List Row → Option C) → App → List Text → Option C
command_among named commands words = unless_faulty (fault_of commands words) (command_found named (subcommand_of commands words))

-- the command of `avm` that the words after the program's name are
abbrev pub command_in : List Text → Option NodeCommand
command_in words = command_among command_named command_line words

-- how many workers the words of `propose` ask for
abbrev pub workers_of : Option NodeCommand → Option ℕ
workers_of (Some (Propose workers)) = Some workers
workers_of _ = None

-- one to eight, if any
abbrev pub AreOneToEight : Option ℕ → Type 0
AreOneToEight workers = IfSome workers (λ n. (0 < n) × (n ≤ 8))
