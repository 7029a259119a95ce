-- Answers that may be a fault: what a definition gives, and what a function of the program may answer for it.
use Rattle.std.specs.Prelude.{◌≡◌, Result, Ok, Err}
use Rattle.teal_value.specs.declared.failure.Failure.{Failure}
use Rattle.teal_value.specs.declared.failure.Failure.TheVariants as failure

-- goes on with a value, and stops at a fault
infixl 10 ◌>>=◌
abbrev pub ◌>>=◌ : {A B F : Type 0} → Result A F → (A → Result B F) → Result B F
(Ok x) >>= f = f x
(Err e) >>= f = Err e

-- a failure of the program, where this is meant: that very fault, or that memory was refused
abbrev pub Fails : {A F : Type 0} → Failure F → Result A F → Type 0
Fails failure.Memory meant = Unit {0}
Fails (failure.Fault f) meant = meant ≡ Err f

-- an answer of the program, seen by view, is the value that is meant; a fault is the fault that is meant
abbrev pub Gives : {X A F : Type 0} → (X → A) → Result X (Failure F) → Result A F → Type 0
Gives view (Ok x) meant = meant ≡ Ok (view x)
Gives view (Err e) meant = Fails e meant

-- a call that leaves a changed value where it succeeds: the value that is meant, or the fault that is meant
abbrev pub Leaves : {X A F : Type 0} → Result X (Failure F) → A → Result A F → Type 0
Leaves (Ok x) left meant = meant ≡ Ok left
Leaves (Err e) left meant = Fails e meant

-- what is said of the fault, where there is one
abbrev pub ForFault : {F : Type 0} → Failure F → (F → Type 0) → Type 0
ForFault failure.Memory _ = Unit {0}
ForFault (failure.Fault f) P = P f

-- the second failure is the first one with its fault replaced by one that stands in the relation R to it
abbrev pub IsMapped : {F G : Type 0} → (F → G → Type 0) → Failure F → Failure G → Type 0
IsMapped _ failure.Memory failure.Memory = Unit {0}
IsMapped R (failure.Fault f) (failure.Fault g) = R f g
IsMapped _ _ _ = ⊥
