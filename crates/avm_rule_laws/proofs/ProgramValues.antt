-- The constants of a program are values that a machine may have.
use Rattle.std.proofs.Common.{◌≡◌, ℕ, ◌+◌, ◌-◌, ◌<◌, List, [], ◌∷◌, ◌++◌, length, drop, Option, None, Some, Result, Ok, Err, refl, ap, ◌∙◌, subst, arith, length-append, length-drop}
use Rattle.std.specs.Prelude.{All}
use Rattle.std.proofs.lemmas.List.Elements.{All-nil, All-cons, All-drop, All-head, All-tail}
use Rattle.teal_value.specs.Answer.{◌>>=◌}
use Rattle.teal_value.specs.declared.value.Value.TheVariants.{Bytes}
use Rattle.teal_table.specs.declared.shape.Shape.{Shape}
use Rattle.teal_table.specs.declared.shape.Shape.TheVariants as shape
use Rattle.teal_table.specs.declared.shape.Version.{Version}
use Rattle.teal_table.specs.Table.{row_of}
use Rattle.teal_code.specs.declared.decode.CodeFault.{CodeFault}
use Rattle.teal_code.specs.declared.instr.Immediates.{Immediates}
use Rattle.teal_code.specs.declared.instr.Immediates.TheVariants as is
use Rattle.teal_code.specs.declared.instr.Instr.{Instr}
use Rattle.teal_code.specs.Grammar.{IsString, Each, AreImmediates, Encodes}
use Rattle.teal_code.specs.Reader.{Read, instr_at}
use Rattle.teal_code.specs.Varuint.{IsVaruint}
use Rattle.teal_code.proofs.Reading.{instr_sound}
use Rattle.avm_call.specs.Runs.{version_in_front, instruction_at, uint_constants_at, byte_constants_at}
use Rattle.avm_rule_laws.specs.Rules.{AreBytes, IsMachineValue}
use Rattle.avm_rule_laws.proofs.MachineValues.{IsWord}
use Rattle.avm_rule_laws.proofs.FittingRows.{FitsImmediates}
use Rattle.avm_rule_laws.proofs.BoundedRows.{IsShort, AreShortImmediates}

-- what holds of all elements of a list holds of those of its front
pub front_all : {A : Type 0} (P : A → Type 0) (xs ys : List A) → All P (xs ++ ys) → All P xs
front_all P [] ys all = All-nil P
front_all P (x ∷ xs) ys all = All-cons P x xs (All-head P x (xs ++ ys) all) (front_all P xs ys (All-tail P x (xs ++ ys) all))

pub rest_all : {A : Type 0} (P : A → Type 0) (xs ys : List A) → All P (xs ++ ys) → All P ys
rest_all P [] ys all = all
rest_all P (x ∷ xs) ys all = rest_all P xs ys (All-tail P x (xs ++ ys) all)

-- ---- immediates

words_fit : (ns text : List ℕ) → Each IsVaruint ns text → All IsWord ns
words_fit [] text h = All-nil IsWord
words_fit (n ∷ ns) text (front, rest, parts, one, more) = All-cons IsWord n ns one.fits (words_fit ns rest more)

string_fits : (s text : List ℕ) → AreBytes text → IsString text s → IsMachineValue (Bytes s)
string_fits s text all (front, parts, long) = (long.fits, rest_all (λ b. b < 256) front s (subst AreBytes parts all))

strings_fit : (ss : List (List ℕ)) (text : List ℕ) → AreBytes text → Each IsString ss text → All (λ s. IsMachineValue (Bytes s)) ss
strings_fit [] text all h = All-nil (λ s. IsMachineValue (Bytes s))
strings_fit (s ∷ ss) text all (front, rest, parts, one, more) =
    let bytes = subst AreBytes parts all in
    All-cons (λ s. IsMachineValue (Bytes s)) s ss (string_fits s front (front_all (λ b. b < 256) front rest bytes) one) (strings_fit ss rest (rest_all (λ b. b < 256) front rest bytes) more)

immediates_fit : (s : Shape) (i : Immediates) (text : List ℕ) → AreBytes text → AreImmediates s i text → FitsImmediates i
immediates_fit shape.Uint (is.Uint n) text all h = h.fits
immediates_fit shape.UintBlock (is.UintBlock ns) text all (front, rest, parts, count, each) = words_fit ns rest each
immediates_fit shape.Bytes (is.Bytes s) text all h = string_fits s text all h
immediates_fit shape.ByteBlock (is.ByteBlock ss) text all (front, rest, parts, count, each) = strings_fit ss rest (rest_all (λ b. b < 256) front rest (subst AreBytes parts all)) each
immediates_fit s (is.Uint n) text all h = absurd h
immediates_fit s (is.UintBlock ns) text all h = absurd h
immediates_fit s (is.Bytes t) text all h = absurd h
immediates_fit s (is.ByteBlock ss) text all h = absurd h
immediates_fit s i text all h = tt

encoded_fits : (version : Version) (text : List ℕ) (i : Instr) → AreBytes text → Encodes version text i → FitsImmediates i.immediates
encoded_fits version [] i all h = absurd h
encoded_fits version (code ∷ text) i all h = immediates_fit (row_of i.opcode).immediates i.immediates text (All-tail (λ b. b < 256) code text all) h.1

first_fits : (version : Version) (bytes : List ℕ) (i : Instr) (rest : List ℕ) → AreBytes bytes → instr_at version bytes ≡ Ok (i, rest) → FitsImmediates i.immediates
first_fits version bytes i rest all e =
    let t = instr_sound version bytes i rest e in
    encoded_fits version t.front i (front_all (λ b. b < 256) t.front rest (subst AreBytes t.parts all)) t.encoded

instruction_is : {i j : Instr} {n m : ℕ} → ◌≡◌ {A = Result (Instr × ℕ) CodeFault} (Ok (i, n)) (Ok (j, m)) → i ≡ j
instruction_is {i} {j} {n} {m} e = let both : (i, n) ≡ (j, m) = cc in ap (λ (p : Instr × ℕ). p.0) both

read_by : (program : List ℕ) (place : ℕ) (i : Instr) (next : ℕ) → AreBytes program → (r : Read Instr) → instr_at (version_in_front program).0 (drop place program) ≡ r
    → ◌≡◌ {A = Result (Instr × ℕ) CodeFault} (r >>= λ x. Ok (x.0, length program - length x.1)) (Ok (i, next)) → FitsImmediates i.immediates
read_by program place i next all (Err f) is e = absurd cc
read_by program place i next all (Ok (j, rest)) is e =
    subst (λ k. FitsImmediates k.immediates) (instruction_is e) (first_fits (version_in_front program).0 (drop place program) j rest (All-drop (λ b. b < 256) place program all) is)

-- an instruction of a program of bytes holds values that a machine may have
pub read_fits : (program : List ℕ) (place : ℕ) (i : Instr) (next : ℕ) → AreBytes program → instruction_at program place ≡ Ok (i, next) → FitsImmediates i.immediates
read_fits program place i next all e = read_by program place i next all (instr_at (version_in_front program).0 (drop place program)) refl e

-- ---- byte strings in a short program

string_short : (s text : List ℕ) → IsShort text → IsString text s → IsShort s
string_short s text few (front, parts, long) = omega (arith, few, ap length parts ∙ length-append front s)

strings_short : (ss : List (List ℕ)) (text : List ℕ) → IsShort text → Each IsString ss text → All IsShort ss
strings_short [] text few h = All-nil IsShort
strings_short (s ∷ ss) text few (front, rest, parts, one, more) =
    let long : length text ≡ length front + length rest = ap length parts ∙ length-append front rest in
    All-cons IsShort s ss (string_short s front (omega (arith, few, long)) one) (strings_short ss rest (omega (arith, few, long)) more)

immediates_short : (s : Shape) (i : Immediates) (text : List ℕ) → IsShort text → AreImmediates s i text → AreShortImmediates i
immediates_short shape.Bytes (is.Bytes s) text few h = string_short s text few h
immediates_short shape.ByteBlock (is.ByteBlock ss) text few (front, rest, parts, count, each) = strings_short ss rest (omega (arith, few, ap length parts ∙ length-append front rest)) each
immediates_short s (is.Bytes t) text few h = absurd h
immediates_short s (is.ByteBlock ss) text few h = absurd h
immediates_short s i text few h = tt

encoded_short : (version : Version) (text : List ℕ) (i : Instr) → IsShort text → Encodes version text i → AreShortImmediates i.immediates
encoded_short version [] i few h = absurd h
encoded_short version (code ∷ text) i few h = immediates_short (row_of i.opcode).immediates i.immediates text (omega (arith, few)) h.1

first_short : (version : Version) (bytes : List ℕ) (i : Instr) (rest : List ℕ) → IsShort bytes → instr_at version bytes ≡ Ok (i, rest) → AreShortImmediates i.immediates
first_short version bytes i rest few e =
    let t = instr_sound version bytes i rest e in
    encoded_short version t.front i (omega (arith, few, ap length t.parts ∙ length-append t.front rest)) t.encoded

short_by : (program : List ℕ) (place : ℕ) (i : Instr) (next : ℕ) → IsShort program → (r : Read Instr) → instr_at (version_in_front program).0 (drop place program) ≡ r
    → ◌≡◌ {A = Result (Instr × ℕ) CodeFault} (r >>= λ x. Ok (x.0, length program - length x.1)) (Ok (i, next)) → AreShortImmediates i.immediates
short_by program place i next few (Err f) is e = absurd cc
short_by program place i next few (Ok (j, rest)) is e =
    subst (λ k. AreShortImmediates k.immediates) (instruction_is e) (first_short (version_in_front program).0 (drop place program) j rest (omega (arith, few, length-drop place program)) is)

-- an instruction of a program of at most 4096 bytes has no byte string longer than that
pub read_short : (program : List ℕ) (place : ℕ) (i : Instr) (next : ℕ) → IsShort program → instruction_at program place ≡ Ok (i, next) → AreShortImmediates i.immediates
read_short program place i next few e = short_by program place i next few (instr_at (version_in_front program).0 (drop place program)) refl e

-- ---- constants in force

abbrev uint_block : Immediates → Option (List ℕ)
uint_block (is.UintBlock ns) = Some ns
uint_block _ = None

abbrev byte_block : Immediates → Option (List (List ℕ))
byte_block (is.ByteBlock ss) = Some ss
byte_block _ = None

abbrev block_in : {A : Type 0} → (Immediates → Option (List A)) → Result (Instr × ℕ) CodeFault → Option (List A)
block_in block (Ok i) = block i.0.immediates
block_in block (Err e) = None

abbrev block_or : {A : Type 0} → Option (List A) → List A → List A
block_or (Some xs) earlier = xs
block_or None earlier = earlier

words_or : (i : Immediates) (earlier : List ℕ) → FitsImmediates i → All IsWord earlier → All IsWord (block_or (uint_block i) earlier)
words_or (is.UintBlock ns) earlier h all = h
words_or _ earlier h all = all

strings_or : (i : Immediates) (earlier : List (List ℕ)) → FitsImmediates i → All (λ s. IsMachineValue (Bytes s)) earlier → All (λ s. IsMachineValue (Bytes s)) (block_or (byte_block i) earlier)
strings_or (is.ByteBlock ss) earlier h all = h
strings_or _ earlier h all = all

uints_by : (program : List ℕ) (place : ℕ) (earlier : List ℕ) → AreBytes program → All IsWord earlier → (r : Result (Instr × ℕ) CodeFault) → instruction_at program place ≡ r → All IsWord (block_or (block_in uint_block r) earlier)
uints_by program place earlier bytes all (Ok (i, next)) e = words_or i.immediates earlier (read_fits program place i next bytes e) all
uints_by program place earlier bytes all (Err f) e = all

-- the integer constants in force in a program of bytes are below 2^64
pub uints_fit : (program passed : List ℕ) → AreBytes program → All IsWord (uint_constants_at program passed)
uints_fit program [] bytes = All-nil IsWord
uints_fit program (place ∷ passed) bytes = uints_by program place (uint_constants_at program passed) bytes (uints_fit program passed bytes) (instruction_at program place) refl

strings_by : (program : List ℕ) (place : ℕ) (earlier : List (List ℕ)) → AreBytes program → All (λ s. IsMachineValue (Bytes s)) earlier → (r : Result (Instr × ℕ) CodeFault) → instruction_at program place ≡ r
    → All (λ s. IsMachineValue (Bytes s)) (block_or (block_in byte_block r) earlier)
strings_by program place earlier bytes all (Ok (i, next)) e = strings_or i.immediates earlier (read_fits program place i next bytes e) all
strings_by program place earlier bytes all (Err f) e = all

pub byte_strings_fit : (program passed : List ℕ) → AreBytes program → All (λ s. IsMachineValue (Bytes s)) (byte_constants_at program passed)
byte_strings_fit program [] bytes = All-nil (λ s. IsMachineValue (Bytes s))
byte_strings_fit program (place ∷ passed) bytes = strings_by program place (byte_constants_at program passed) bytes (byte_strings_fit program passed bytes) (instruction_at program place) refl

short_or : (i : Immediates) (earlier : List (List ℕ)) → AreShortImmediates i → All IsShort earlier → All IsShort (block_or (byte_block i) earlier)
short_or (is.ByteBlock ss) earlier h all = h
short_or _ earlier h all = all

constants_by : (program : List ℕ) (place : ℕ) (earlier : List (List ℕ)) → IsShort program → All IsShort earlier → (r : Result (Instr × ℕ) CodeFault) → instruction_at program place ≡ r
    → All IsShort (block_or (block_in byte_block r) earlier)
constants_by program place earlier few all (Ok (i, next)) e = short_or i.immediates earlier (read_short program place i next few e) all
constants_by program place earlier few all (Err f) e = all

-- the byte constants in force in a program of at most 4096 bytes have at most 4096 bytes each
pub constants_short : (program passed : List ℕ) → IsShort program → All IsShort (byte_constants_at program passed)
constants_short program [] few = All-nil IsShort
constants_short program (place ∷ passed) few = constants_by program place (byte_constants_at program passed) few (constants_short program passed few) (instruction_at program place) refl
