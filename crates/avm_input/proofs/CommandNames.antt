-- Commands by clap's reading.
use Rattle.std.proofs.Common.{◌≡◌, ◌∙◌, ap, Bool, true, false, ◌||◌, Option, None, refl, sym, ◌∷◌, [], inl, inr, List}
use Rattle.clap.specs.declared.builder.arg.Arg.{Arg}
use Rattle.clap.specs.declared.builder.command.Command.{Command}
use Rattle.clap.specs.declared.builder.command.Command.TheViews.{out-Command}
use Rattle.clap.specs.declared.error.Error.{Error}
use Rattle.clap.specs.declared.error.kind.ErrorKind.TheVariants as kind
use Rattle.clap.specs.Words.{AddsArg, AddsSubcommand, App, HasKind, Kinds, Row, Text, app_of, fault_of, is_simple, is_simple_and_free, kind_of, subcommand_of, with_subcommand}
use Rattle.clap.proofs.OnLiterals.{clap_on_literals}
use Rattle.avm_input.specs.CommandLine.{command_among, command_found, command_line, unless_faulty}
use Rattle.avm_input.specs.JsonCommandLine.{json_command_line}

no_other : (b other : Bool) → other ≡ false → (b || other) ≡ b
no_other true other e = refl
no_other false other e = e

-- a subcommand more, by its words
pub with_shape : (old sub new : Command) (before app : App) → AddsSubcommand old sub new → (out-Command sub).has_globals ≡ false
    → app_of old ≡ before → app_of sub ≡ app → app_of new ≡ with_subcommand before app.top
with_shape old sub new before app adds local old_is sub_is = adds.shape local ∙ (λ i. with_subcommand (old_is i) (sub_is i).top)

-- an option more that is not global
pub with_local : (old new : Command) (arg : Arg) → AddsArg old arg new → arg.global ≡ false → (out-Command new).has_globals ≡ (out-Command old).has_globals
with_local old new arg adds local = adds.globals ∙ no_other (out-Command old).has_globals arg.global local

pub command_line_is_simple : is_simple command_line ≡ true
unfolding clap_on_literals
command_line_is_simple = refl

pub command_line_is_free : is_simple_and_free command_line ≡ true
unfolding clap_on_literals
command_line_is_free = refl

pub json_command_line_is_simple : is_simple json_command_line ≡ true
unfolding clap_on_literals
json_command_line_is_simple = refl

pub json_command_line_is_free : is_simple_and_free json_command_line ≡ true
unfolding clap_on_literals
json_command_line_is_free = refl

-- an error other than that memory ran out comes only where there is a fault
pub unless_faulty-HasKind : {A : Type 0} (kinds : Kinds) (e : Error) (value : Option A)
    → HasKind kinds e → (kind_of e ≡ kind.OutOfMemory → ⊥) → unless_faulty kinds value ≡ None
unless_faulty-HasKind [] e value (inl h) other = absurd (other h)
unless_faulty-HasKind [] e value (inr h) other = absurd h
unless_faulty-HasKind (k ∷ ks) e value h other = refl

-- words without a fault are the command that was found in them, others are none
pub command_among-found : {C : Type 0} (named : Text → List Row → Option C) (commands : App) (words : List Text) (rows : Option (Text × List Row))
    → fault_of commands words ≡ [] → rows ≡ subcommand_of commands words
    → command_found named rows ≡ command_among named commands words
unfolding command_among
command_among-found named commands words rows no_fault rows_are = rw no_fault (ap (command_found named) rows_are)

pub command_among-faulty : {C : Type 0} (named : Text → List Row → Option C) (commands : App) (words : List Text) (e : Error) (command : Option C)
    → HasKind (fault_of commands words) e → (command ≡ None) × (kind_of e ≡ kind.OutOfMemory → ⊥) → command ≡ command_among named commands words
unfolding command_among
command_among-faulty named commands words e command has (none, other) = none ∙ sym (unless_faulty-HasKind (fault_of commands words) e _ has other)
