-- Which words are a command of `avm_json`.
use Rattle.std.specs.Prelude.{false, ◌∷◌, [], List, Option, Some, None, codes, if◌then◌else◌}
use Rattle.std.specs.Str.{bytes_eq}
use Rattle.clap.specs.Words.{App, Row, Text}
use Rattle.avm_input.specs.declared.json_command_line.JsonCommand.{JsonCommand}
use Rattle.avm_input.specs.declared.json_command_line.JsonCommand.TheVariants.{Lines, Page, Run, Show, Trace}
use Rattle.avm_input.specs.CommandLine.{command_among, number_in, program_line}

-- the commands and their options, which need not be given
abbrev pub json_command_line : App
json_command_line = program_line false (codes "avm_json") (
    (codes "lines", []) ∷ (codes "show", []) ∷ (codes "run", [])
    ∷ (codes "trace", codes "entry" ∷ []) ∷ (codes "page", codes "entry" ∷ []) ∷ [])

-- the command of a name, with its options
abbrev pub json_command_named : Text → List Row → Option JsonCommand
json_command_named name options =
    if bytes_eq name (codes "lines") then Some Lines
    else if bytes_eq name (codes "show") then Some Show
    else if bytes_eq name (codes "run") then Some Run
    else if bytes_eq name (codes "trace") then Some (Trace (number_in (codes "entry") options))
    else if bytes_eq name (codes "page") then Some (Page (number_in (codes "entry") options))
    else None

-- the command that the words after the program's name are
abbrev pub json_command_in : List Text → Option JsonCommand
json_command_in words = command_among json_command_named json_command_line words
