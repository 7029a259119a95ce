-- Of two that may be there, one.
use Rattle.std.specs.Prelude.{Option, Some, None}

-- the first, and where there is none the second
abbrev pub or_else : {A : Type 0} → Option A → Option A → Option A
or_else (Some x) other = Some x
or_else None other = other
