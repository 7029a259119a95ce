-- What holds of each value on the stack holds of the operands that are read from it.
use Rattle.std.proofs.Common.{ℕ, zero, suc, List, [], ◌∷◌, Option, None, Some, Result, Ok, Err}
use Rattle.std.specs.Prelude.{All, IfSome, slice_get}
use Rattle.std.proofs.lemmas.List.Elements.{All-head, All-tail}
use Rattle.teal_value.specs.declared.value.Value.{Value}
use Rattle.teal_value.specs.declared.value.Value.TheVariants.{Uint, Bytes}
use Rattle.teal_value.specs.declared.fault.Fault.{Fault}
use Rattle.avm_cpu.specs.Operands.{one_uint, one_bytes, one_value, two_uints, two_bytes, two_values, uint_and_bytes, bytes_and_uint, bytes_and_value, value_and_uint, bytes_and_two_uints, value_and_two_uints, two_values_and_uint, two_uints_and_bytes}
use Rattle.avm_ops.specs.Frame.{there}

-- G holds of the result, where there is no fault
abbrev pub OkOf : {A : Type 0} → (A → Type 0) → Result A Fault → Type 0
OkOf G (Ok a) = G a
OkOf G (Err f) = Unit {0}

first : (P : Value → Type 0) (v : Value) (s : List Value) → All P (v ∷ s) → P v
first P v s all = All-head P v s all

second : (P : Value → Type 0) (v w : Value) (s : List Value) → All P (v ∷ w ∷ s) → P w
second P v w s all = first P w s (All-tail P v (w ∷ s) all)

third : (P : Value → Type 0) (u v w : Value) (s : List Value) → All P (u ∷ v ∷ w ∷ s) → P w
third P u v w s all = second P v w s (All-tail P u (v ∷ w ∷ s) all)

-- what holds of each value on the stack holds of the operand, and so for the kinds below
pub one_uint_fits : (P : Value → Type 0) (stack : List Value) → All P stack → OkOf (λ a. P (Uint a)) (one_uint stack)
one_uint_fits P [] all = tt
one_uint_fits P (Uint a ∷ s) all = first P (Uint a) s all
one_uint_fits P (Bytes a ∷ s) all = tt

pub one_bytes_fits : (P : Value → Type 0) (stack : List Value) → All P stack → OkOf (λ a. P (Bytes a)) (one_bytes stack)
one_bytes_fits P [] all = tt
one_bytes_fits P (Uint a ∷ s) all = tt
one_bytes_fits P (Bytes a ∷ s) all = first P (Bytes a) s all

pub one_value_fits : (P : Value → Type 0) (stack : List Value) → All P stack → OkOf (λ a. P a) (one_value stack)
one_value_fits P [] all = tt
one_value_fits P (a ∷ s) all = first P a s all

pub two_uints_fits : (P : Value → Type 0) (stack : List Value) → All P stack → OkOf (λ x. P (Uint x.0) × P (Uint x.1)) (two_uints stack)
two_uints_fits P [] all = tt
two_uints_fits P (Uint b ∷ []) all = tt
two_uints_fits P (Bytes b ∷ []) all = tt
two_uints_fits P (Uint b ∷ Uint a ∷ s) all = (second P (Uint b) (Uint a) s all, first P (Uint b) (Uint a ∷ s) all)
two_uints_fits P (Uint b ∷ Bytes a ∷ s) all = tt
two_uints_fits P (Bytes b ∷ Uint a ∷ s) all = tt
two_uints_fits P (Bytes b ∷ Bytes a ∷ s) all = tt

pub two_bytes_fits : (P : Value → Type 0) (stack : List Value) → All P stack → OkOf (λ x. P (Bytes x.0) × P (Bytes x.1)) (two_bytes stack)
two_bytes_fits P [] all = tt
two_bytes_fits P (Uint b ∷ []) all = tt
two_bytes_fits P (Bytes b ∷ []) all = tt
two_bytes_fits P (Uint b ∷ Uint a ∷ s) all = tt
two_bytes_fits P (Uint b ∷ Bytes a ∷ s) all = tt
two_bytes_fits P (Bytes b ∷ Uint a ∷ s) all = tt
two_bytes_fits P (Bytes b ∷ Bytes a ∷ s) all = (second P (Bytes b) (Bytes a) s all, first P (Bytes b) (Bytes a ∷ s) all)

pub two_values_fits : (P : Value → Type 0) (stack : List Value) → All P stack → OkOf (λ x. P x.0 × P x.1) (two_values stack)
two_values_fits P [] all = tt
two_values_fits P (b ∷ []) all = tt
two_values_fits P (b ∷ a ∷ s) all = (second P b a s all, first P b (a ∷ s) all)

pub uint_and_bytes_fits : (P : Value → Type 0) (stack : List Value) → All P stack → OkOf (λ x. P (Uint x.0) × P (Bytes x.1)) (uint_and_bytes stack)
uint_and_bytes_fits P [] all = tt
uint_and_bytes_fits P (Uint b ∷ []) all = tt
uint_and_bytes_fits P (Bytes b ∷ []) all = tt
uint_and_bytes_fits P (Uint b ∷ Uint a ∷ s) all = tt
uint_and_bytes_fits P (Uint b ∷ Bytes a ∷ s) all = tt
uint_and_bytes_fits P (Bytes b ∷ Uint a ∷ s) all = (second P (Bytes b) (Uint a) s all, first P (Bytes b) (Uint a ∷ s) all)
uint_and_bytes_fits P (Bytes b ∷ Bytes a ∷ s) all = tt

pub bytes_and_uint_fits : (P : Value → Type 0) (stack : List Value) → All P stack → OkOf (λ x. P (Bytes x.0) × P (Uint x.1)) (bytes_and_uint stack)
bytes_and_uint_fits P [] all = tt
bytes_and_uint_fits P (Uint b ∷ []) all = tt
bytes_and_uint_fits P (Bytes b ∷ []) all = tt
bytes_and_uint_fits P (Uint b ∷ Uint a ∷ s) all = tt
bytes_and_uint_fits P (Uint b ∷ Bytes a ∷ s) all = (second P (Uint b) (Bytes a) s all, first P (Uint b) (Bytes a ∷ s) all)
bytes_and_uint_fits P (Bytes b ∷ Uint a ∷ s) all = tt
bytes_and_uint_fits P (Bytes b ∷ Bytes a ∷ s) all = tt

pub bytes_and_value_fits : (P : Value → Type 0) (stack : List Value) → All P stack → OkOf (λ x. P (Bytes x.0) × P x.1) (bytes_and_value stack)
bytes_and_value_fits P [] all = tt
bytes_and_value_fits P (b ∷ []) all = tt
bytes_and_value_fits P (b ∷ Uint a ∷ s) all = tt
bytes_and_value_fits P (b ∷ Bytes a ∷ s) all = (second P b (Bytes a) s all, first P b (Bytes a ∷ s) all)

pub value_and_uint_fits : (P : Value → Type 0) (stack : List Value) → All P stack → OkOf (λ x. P x.0 × P (Uint x.1)) (value_and_uint stack)
value_and_uint_fits P [] all = tt
value_and_uint_fits P (Uint b ∷ []) all = tt
value_and_uint_fits P (Bytes b ∷ []) all = tt
value_and_uint_fits P (Uint b ∷ a ∷ s) all = (second P (Uint b) a s all, first P (Uint b) (a ∷ s) all)
value_and_uint_fits P (Bytes b ∷ a ∷ s) all = tt

pub bytes_and_two_uints_fits : (P : Value → Type 0) (stack : List Value) → All P stack → OkOf (λ x. P (Bytes x.0) × P (Uint x.1) × P (Uint x.2)) (bytes_and_two_uints stack)
bytes_and_two_uints_fits P [] all = tt
bytes_and_two_uints_fits P (Uint c ∷ []) all = tt
bytes_and_two_uints_fits P (Bytes c ∷ []) all = tt
bytes_and_two_uints_fits P (Uint c ∷ Uint b ∷ []) all = tt
bytes_and_two_uints_fits P (Uint c ∷ Bytes b ∷ []) all = tt
bytes_and_two_uints_fits P (Bytes c ∷ Uint b ∷ []) all = tt
bytes_and_two_uints_fits P (Bytes c ∷ Bytes b ∷ []) all = tt
bytes_and_two_uints_fits P (Uint c ∷ Uint b ∷ Uint a ∷ s) all = tt
bytes_and_two_uints_fits P (Uint c ∷ Uint b ∷ Bytes a ∷ s) all = (third P (Uint c) (Uint b) (Bytes a) s all, second P (Uint c) (Uint b) (Bytes a ∷ s) all, first P (Uint c) (Uint b ∷ Bytes a ∷ s) all)
bytes_and_two_uints_fits P (Uint c ∷ Bytes b ∷ Uint a ∷ s) all = tt
bytes_and_two_uints_fits P (Uint c ∷ Bytes b ∷ Bytes a ∷ s) all = tt
bytes_and_two_uints_fits P (Bytes c ∷ Uint b ∷ Uint a ∷ s) all = tt
bytes_and_two_uints_fits P (Bytes c ∷ Uint b ∷ Bytes a ∷ s) all = tt
bytes_and_two_uints_fits P (Bytes c ∷ Bytes b ∷ Uint a ∷ s) all = tt
bytes_and_two_uints_fits P (Bytes c ∷ Bytes b ∷ Bytes a ∷ s) all = tt

pub value_and_two_uints_fits : (P : Value → Type 0) (stack : List Value) → All P stack → OkOf (λ x. P x.0 × P (Uint x.1) × P (Uint x.2)) (value_and_two_uints stack)
value_and_two_uints_fits P [] all = tt
value_and_two_uints_fits P (Uint c ∷ []) all = tt
value_and_two_uints_fits P (Bytes c ∷ []) all = tt
value_and_two_uints_fits P (Uint c ∷ Uint b ∷ []) all = tt
value_and_two_uints_fits P (Uint c ∷ Bytes b ∷ []) all = tt
value_and_two_uints_fits P (Bytes c ∷ Uint b ∷ []) all = tt
value_and_two_uints_fits P (Bytes c ∷ Bytes b ∷ []) all = tt
value_and_two_uints_fits P (Uint c ∷ Uint b ∷ a ∷ s) all = (third P (Uint c) (Uint b) a s all, second P (Uint c) (Uint b) (a ∷ s) all, first P (Uint c) (Uint b ∷ a ∷ s) all)
value_and_two_uints_fits P (Uint c ∷ Bytes b ∷ a ∷ s) all = tt
value_and_two_uints_fits P (Bytes c ∷ Uint b ∷ a ∷ s) all = tt
value_and_two_uints_fits P (Bytes c ∷ Bytes b ∷ a ∷ s) all = tt

pub two_values_and_uint_fits : (P : Value → Type 0) (stack : List Value) → All P stack → OkOf (λ x. P x.0 × P x.1 × P (Uint x.2)) (two_values_and_uint stack)
two_values_and_uint_fits P [] all = tt
two_values_and_uint_fits P (Uint c ∷ []) all = tt
two_values_and_uint_fits P (Bytes c ∷ []) all = tt
two_values_and_uint_fits P (Uint c ∷ b ∷ []) all = tt
two_values_and_uint_fits P (Bytes c ∷ b ∷ []) all = tt
two_values_and_uint_fits P (Uint c ∷ b ∷ a ∷ s) all = (third P (Uint c) b a s all, second P (Uint c) b (a ∷ s) all, first P (Uint c) (b ∷ a ∷ s) all)
two_values_and_uint_fits P (Bytes c ∷ b ∷ a ∷ s) all = tt

pub two_uints_and_bytes_fits : (P : Value → Type 0) (stack : List Value) → All P stack → OkOf (λ x. P (Uint x.0) × P (Uint x.1) × P (Bytes x.2)) (two_uints_and_bytes stack)
two_uints_and_bytes_fits P [] all = tt
two_uints_and_bytes_fits P (Uint c ∷ []) all = tt
two_uints_and_bytes_fits P (Bytes c ∷ []) all = tt
two_uints_and_bytes_fits P (Uint c ∷ Uint b ∷ []) all = tt
two_uints_and_bytes_fits P (Uint c ∷ Bytes b ∷ []) all = tt
two_uints_and_bytes_fits P (Bytes c ∷ Uint b ∷ []) all = tt
two_uints_and_bytes_fits P (Bytes c ∷ Bytes b ∷ []) all = tt
two_uints_and_bytes_fits P (Uint c ∷ Uint b ∷ Uint a ∷ s) all = tt
two_uints_and_bytes_fits P (Uint c ∷ Uint b ∷ Bytes a ∷ s) all = tt
two_uints_and_bytes_fits P (Uint c ∷ Bytes b ∷ Uint a ∷ s) all = tt
two_uints_and_bytes_fits P (Uint c ∷ Bytes b ∷ Bytes a ∷ s) all = tt
two_uints_and_bytes_fits P (Bytes c ∷ Uint b ∷ Uint a ∷ s) all = (third P (Bytes c) (Uint b) (Uint a) s all, second P (Bytes c) (Uint b) (Uint a ∷ s) all, first P (Bytes c) (Uint b ∷ Uint a ∷ s) all)
two_uints_and_bytes_fits P (Bytes c ∷ Uint b ∷ Bytes a ∷ s) all = tt
two_uints_and_bytes_fits P (Bytes c ∷ Bytes b ∷ Uint a ∷ s) all = tt
two_uints_and_bytes_fits P (Bytes c ∷ Bytes b ∷ Bytes a ∷ s) all = tt

-- what holds of all elements holds of the one at an index, if there is one
pub get_fits : {A : Type 0} (P : A → Type 0) (xs : List A) (i : ℕ) → All P xs → IfSome (slice_get xs i) P
get_fits P [] i all = tt
get_fits P (x ∷ xs) zero all = All-head P x xs all
get_fits P (x ∷ xs) (suc i) all = get_fits P xs i (All-tail P x xs all)

pub there_fits : {A : Type 0} (P : A → Type 0) (o : Option A) (f : Fault) → IfSome o P → OkOf P (there o f)
there_fits P None f h = tt
there_fits P (Some a) f h = h
