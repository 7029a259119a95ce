-- Readers whose input ends too early: some longer input that begins so is read. A bad varuint stays one, whatever follows.
use Rattle.std.proofs.Common.{◌≡◌, ℕ, zero, suc, ◌+◌, ◌-◌, ◌*◌, ◌^◌, ◌<◌, ◌≤◌, Bool, true, false, cond, List, [], ◌∷◌, ◌++◌, length, take, drop, replicate, refl, sym, ap, subst, ◌∙◌, arith, append_assoc, length-append, length-drop, inl, inr}
use Rattle.std.specs.Prelude.{Result, Ok, Err, nat_lt, Option, Some, None, ◌⊎◌, ◌↔◌, IfSome, slice_get, ◌≢◌}
use Rattle.std.specs.List.{All}
use Rattle.std.proofs.lemmas.Bool.{ltb-true, ltb-false, lt-ltb, le-ltb, cases_lt}
use Rattle.std.proofs.Math.Seq.{drop-append_seam}
use Rattle.std.proofs.lemmas.List.{take-append-drop, take-append-le, drop-append-le, drop_all, length-replicate, append-nil}
use Rattle.teal_table.specs.declared.shape.Shape.{Shape}
use Rattle.teal_table.specs.declared.shape.Shape.TheVariants as shape
use Rattle.teal_table.specs.declared.shape.Version.{Version}
use Rattle.teal_table.specs.declared.shape.Version.TheVariants.{Two, Three}
use Rattle.teal_table.specs.declared.opcode.Opcode.{Opcode}
use Rattle.teal_table.specs.declared.opcode.Opcode.TheVariants as op
use Rattle.teal_table.specs.Table.{row_of, opcodes, opcode_at, opcode_in}
use Rattle.teal_value.specs.Answer.{◌>>=◌}
use Rattle.teal_value.proofs.Binding.{bind_ok}
use Rattle.teal_code.specs.declared.instr.Immediates.TheVariants as is
use Rattle.teal_code.specs.declared.instr.Instr.{Instr}
use Rattle.teal_code.specs.declared.decode.CodeFault.{CodeFault}
use Rattle.teal_code.specs.declared.decode.CodeFault.TheVariants.{UnknownOp, Truncated, BadVaruint}
use Rattle.teal_code.specs.Varuint.{IsVaruint}
use Rattle.teal_code.specs.Grammar.{Reads, GoesOn, Faults}
use Rattle.teal_code.specs.Reader.{Read, byte_at, digits_at, varuint_at, string_at, many_at, counted_at, immediates_at, with_opcode, instr_at, read_at}
use Rattle.teal_code.proofs.Bytes.{AllBytes, all_bytes, rest_bytes}
use Rattle.teal_code.proofs.Reading.{IsSound, IsComplete, same_value, digits_sound, digits_complete, varuint_sound, varuint_complete, read_is, is_read}

-- some longer input is read, and nothing is left
abbrev Ends : {A : Type 0} → (List ℕ → Read A) → List ℕ → Type 0
Ends {A} read bytes = (more : List ℕ) × (x : A) × (read (bytes ++ more) ≡ Ok (x, []))

record IsReader {A : Type 0} (read : List ℕ → Read A) : Type 0 where
  grows : (bytes more : List ℕ) (x : A) (rest : List ℕ) → read bytes ≡ Ok (x, rest) → read (bytes ++ more) ≡ Ok (x, rest ++ more)
  stays_bad : (bytes more : List ℕ) → read bytes ≡ Err BadVaruint → read (bytes ++ more) ≡ Err BadVaruint
  known : (bytes : List ℕ) → read bytes ≡ Err UnknownOp → ⊥
  leaves : (bytes : List ℕ) (x : A) (rest : List ℕ) → AllBytes bytes → read bytes ≡ Ok (x, rest) → AllBytes rest
  ends : (bytes : List ℕ) → AllBytes bytes → read bytes ≡ Err Truncated → Ends read bytes
  begins : Ends read []

-- a fault of two steps is one of the first, or of the second
bind_err : {A B E : Type 0} (r : Result A E) (f : A → Result B E) (d : E) → (r >>= f) ≡ Err d → (r ≡ Err d) ⊎ ((x : A) × (r ≡ Ok x) × (f x ≡ Err d))
bind_err (Ok x) f d e = inr (x, refl, e)
bind_err (Err c) f d e = let same : c ≡ d = cc in inl (ap (λ b. Err b) same)

pure_reader : {A : Type 0} (x : A) → IsReader (λ bytes. Ok (x, bytes))
pure_reader x = record {
  grows = λ bytes more y rest e. let same = same_value e in ap (λ p. Ok (p, bytes ++ more)) same.0 ∙ ap (λ r. Ok (y, r ++ more)) same.1;
  stays_bad = λ bytes more e. absurd cc;
  known = λ bytes e. absurd cc;
  leaves = λ bytes y rest all e. subst AllBytes (same_value e).1 all;
  ends = λ bytes all e. absurd cc;
  begins = ([], x, refl);
}

bind_reader : {A B : Type 0} {read : List ℕ → Read A} {f : A → List ℕ → Read B} → IsReader read → ((x : A) → IsReader (f x)) → IsReader (λ bytes. read bytes >>= λ x. f x.0 x.1)
bind_reader {A} {B} {read} {f} first second = record {
  grows = grows;
  stays_bad = λ bytes more e. elim (bind_err (read bytes) _ _ e) [
    | inl bad ↦ ap next (first.stays_bad bytes more bad)
    | inr (x, is, bad) ↦ ap next (first.grows bytes more x.0 x.1 is) ∙ (second x.0).stays_bad x.1 more bad
  ];
  known = λ bytes e. elim (bind_err (read bytes) _ _ e) [
    | inl bad ↦ first.known bytes bad
    | inr (x, is, bad) ↦ (second x.0).known x.1 bad
  ];
  leaves = λ bytes y rest all e.
      let (x, is, last) = bind_ok (read bytes) _ _ e in
      (second x.0).leaves x.1 y rest (first.leaves bytes x.0 x.1 all is) last;
  ends = λ bytes all e. elim (bind_err (read bytes) _ _ e) [
    | inl short ↦ then_begins bytes (first.ends bytes all short)
    | inr (x, is, short) ↦
        let (more, y, last) = (second x.0).ends x.1 (first.leaves bytes x.0 x.1 all is) short in
        (more, y, ap next (first.grows bytes more x.0 x.1 is) ∙ last)
  ];
  begins = then_begins [] first.begins;
}
  where
    next : Read A → Read B
    next r = r >>= λ x. f x.0 x.1

    grows : (bytes more : List ℕ) (y : B) (rest : List ℕ) → next (read bytes) ≡ Ok (y, rest) → next (read (bytes ++ more)) ≡ Ok (y, rest ++ more)
    grows bytes more y rest e =
        let (x, is, last) = bind_ok (read bytes) _ _ e in
        ap next (first.grows bytes more x.0 x.1 is) ∙ (second x.0).grows x.1 more y rest last

    then_begins : (bytes : List ℕ) → Ends read bytes → Ends (λ bs. next (read bs)) bytes
    then_begins bytes (more, x, is) =
        let (others, y, last) = (second x).begins in
        (more ++ others, y, ap (λ bs. next (read bs)) (sym (append_assoc bytes more others)) ∙ ap next (first.grows (bytes ++ more) others x [] is) ∙ last)

byte_reader : IsReader byte_at
byte_reader = record {
  grows = byte_grows;
  stays_bad = byte_bad;
  known = byte_known;
  leaves = byte_leaves;
  ends = byte_ends;
  begins = (0 ∷ [], 0, refl);
}
  where
    byte_grows : (bytes more : List ℕ) (x : ℕ) (rest : List ℕ) → byte_at bytes ≡ Ok (x, rest) → byte_at (bytes ++ more) ≡ Ok (x, rest ++ more)
    byte_grows [] more x rest e = absurd cc
    byte_grows (b ∷ bytes) more x rest e = let same = same_value e in ap (λ c. Ok (c, bytes ++ more)) same.0 ∙ ap (λ r. Ok (x, r ++ more)) same.1

    byte_bad : (bytes more : List ℕ) → byte_at bytes ≡ Err BadVaruint → byte_at (bytes ++ more) ≡ Err BadVaruint
    byte_bad [] more e = absurd cc
    byte_bad (b ∷ bytes) more e = absurd cc

    byte_known : (bytes : List ℕ) → byte_at bytes ≡ Err UnknownOp → ⊥
    byte_known [] e = absurd cc
    byte_known (b ∷ bytes) e = absurd cc

    byte_leaves : (bytes : List ℕ) (x : ℕ) (rest : List ℕ) → AllBytes bytes → byte_at bytes ≡ Ok (x, rest) → AllBytes rest
    byte_leaves [] x rest all e = absurd cc
    byte_leaves (b ∷ bytes) x rest all e = subst AllBytes (same_value e).1 all.1

    byte_ends : (bytes : List ℕ) → AllBytes bytes → byte_at bytes ≡ Err Truncated → Ends byte_at bytes
    byte_ends [] all e = (0 ∷ [], 0, refl)
    byte_ends (b ∷ bytes) all e = absurd cc

-- ---- varuints

grows_so : {A : Type 0} (read : List ℕ → Read A) (P : List ℕ → A → Type 0) → IsSound read P → IsComplete read P → (bytes more : List ℕ) (x : A) (rest : List ℕ) → read bytes ≡ Ok (x, rest) → read (bytes ++ more) ≡ Ok (x, rest ++ more)
grows_so read P sound complete bytes more x rest e =
    let t = sound bytes x rest e in
    ap read (ap (λ b. b ++ more) t.parts ∙ append_assoc t.front rest more) ∙ complete t.front x (rest ++ more) t.encoded

-- a digit, and the number behind it where the digit isn't the last
abbrev with_digit : Bool → ℕ → List ℕ → Read ℕ → Read ℕ
with_digit last b bytes more = cond last (Ok (b, bytes)) (more >>= λ high. Ok ((b - 128) + 128 * high.0, high.1))

digits_bad : (room : ℕ) (bytes more : List ℕ) → digits_at room bytes ≡ Err BadVaruint → digits_at room (bytes ++ more) ≡ Err BadVaruint
digits_bad zero bytes more e = refl
digits_bad (suc room) [] more e = absurd cc
digits_bad (suc room) (b ∷ bytes) more e = at_test (nat_lt b 128) (digits_bad room bytes more) e
  where
    at_test : (t : Bool) → (digits_at room bytes ≡ Err BadVaruint → digits_at room (bytes ++ more) ≡ Err BadVaruint) → with_digit t b bytes (digits_at room bytes) ≡ Err BadVaruint
        → with_digit t b (bytes ++ more) (digits_at room (bytes ++ more)) ≡ Err BadVaruint
    at_test true later e = absurd cc
    at_test false later e = elim (bind_err (digits_at room bytes) _ _ e) [
      | inl bad ↦ ap (λ r. r >>= λ high. Ok ((b - 128) + 128 * high.0, high.1)) (later bad)
      | inr (x, is, bad) ↦ absurd cc
    ]

digits_known : (room : ℕ) (bytes : List ℕ) → digits_at room bytes ≡ Err UnknownOp → ⊥
digits_known zero bytes e = absurd cc
digits_known (suc room) [] e = absurd cc
digits_known (suc room) (b ∷ bytes) e = at_test (nat_lt b 128) (digits_known room bytes) e
  where
    at_test : (t : Bool) → (digits_at room bytes ≡ Err UnknownOp → ⊥) → with_digit t b bytes (digits_at room bytes) ≡ Err UnknownOp → ⊥
    at_test true later e = absurd cc
    at_test false later e = elim (bind_err (digits_at room bytes) _ _ e) [
      | inl unknown ↦ later unknown
      | inr (x, is, unknown) ↦ absurd cc
    ]

-- 128 to the power of a number
power : ℕ → ℕ
power zero = 1
power (suc n) = 128 * power n

power_some : (n : ℕ) → 0 < power n
unfolding power
power_some zero = omega arith
power_some (suc n) = omega (arith, power_some n)

-- a digit before digits that a zero ends
digit_before : (room b : ℕ) (bytes : List ℕ) → (digits_at room bytes ≡ Err Truncated → (n : ℕ) × (digits_at room (bytes ++ 0 ∷ []) ≡ Ok (n, [])) × ((b - 128) + 128 * n < power room))
    → digits_at (suc room) (b ∷ bytes) ≡ Err Truncated → (n : ℕ) × (digits_at (suc room) ((b ∷ bytes) ++ 0 ∷ []) ≡ Ok (n, [])) × (n < power room)
digit_before room b bytes later e = at_test (nat_lt b 128) refl e
  where
    at_test : (t : Bool) → nat_lt b 128 ≡ t → with_digit t b bytes (digits_at room bytes) ≡ Err Truncated
        → (n : ℕ) × (digits_at (suc room) ((b ∷ bytes) ++ 0 ∷ []) ≡ Ok (n, [])) × (n < power room)
    at_test true test e = absurd cc
    at_test false test e = elim (bind_err (digits_at room bytes) _ _ e) [
      | inl short ↦
          let (n, is, lt) = later short in
          ((b - 128) + 128 * n, rw (test, is) refl, lt)
      | inr (x, is, short) ↦ absurd cc
    ]

-- digits that end too early are ended by a zero
digits_end : (room : ℕ) (bytes : List ℕ) → AllBytes bytes → digits_at (suc room) bytes ≡ Err Truncated → (n : ℕ) × (digits_at (suc room) (bytes ++ 0 ∷ []) ≡ Ok (n, [])) × (n < power room)
unfolding power
digits_end room [] all e = (0, refl, power_some room)
digits_end zero (b ∷ bytes) all e = digit_before zero b bytes (λ bad. absurd cc) e
digits_end (suc room) (b ∷ bytes) all e =
    digit_before (suc room) b bytes (λ short. let (n, is, lt) = digits_end room bytes all.1 short in (n, is, omega (arith, all.0, lt))) e

small_power : power 9 < 2 ^ 64
unfolding power
small_power = omega arith

abbrev fit : Bool → ℕ × List ℕ → Read ℕ
fit t n = cond t (Ok n) (Err BadVaruint)

abbrev fitting : ℕ × List ℕ → Read ℕ
fitting n = fit (nat_lt n.0 (2 ^ 64)) n

fit_bad : (t : Bool) (n : ℕ × List ℕ) (rest : List ℕ) → fit t n ≡ Err BadVaruint → fit t (n.0, rest) ≡ Err BadVaruint
fit_bad true n rest e = absurd cc
fit_bad false n rest e = refl

fit_known : (t : Bool) (n : ℕ × List ℕ) (d : CodeFault) → fit t n ≡ Err d → d ≡ BadVaruint
fit_known true n d e = absurd cc
fit_known false n d e = let same : BadVaruint ≡ d = cc in sym same

varuint_reader : IsReader varuint_at
varuint_reader = record {
  grows = grows_so varuint_at IsVaruint varuint_sound varuint_complete;
  stays_bad = λ bytes more e. elim (bind_err (digits_at 10 bytes) fitting _ e) [
    | inl bad ↦ ap (λ r. r >>= fitting) (digits_bad 10 bytes more bad)
    | inr (x, is, bad) ↦
        ap (λ r. r >>= fitting) (grows_so (digits_at 10) _ (digits_sound 10) (digits_complete 10) bytes more x.0 x.1 is) ∙ fit_bad _ x (x.1 ++ more) bad
  ];
  known = λ bytes e. elim (bind_err (digits_at 10 bytes) fitting _ e) [
    | inl unknown ↦ digits_known 10 bytes unknown
    | inr (x, is, unknown) ↦ let same : UnknownOp ≡ BadVaruint = fit_known _ x UnknownOp unknown in absurd cc
  ];
  leaves = λ bytes x rest all e. let t = varuint_sound bytes x rest e in rest_bytes t.front rest (subst AllBytes t.parts all);
  ends = λ bytes all e. elim (bind_err (digits_at 10 bytes) fitting _ e) [
    | inl short ↦
        let (n, is, lt) = digits_end 9 bytes all short in
        let low : nat_lt n (2 ^ 64) ≡ true = lt-ltb n (2 ^ 64) (omega (arith, lt, small_power)) in
        (0 ∷ [], n, ap (λ r. r >>= fitting) is ∙ ap (λ t. fit t (n, [])) low)
    | inr (x, is, short) ↦ let same : Truncated ≡ BadVaruint = fit_known _ x Truncated short in absurd cc
  ];
  begins = (0 ∷ [], 0, refl);
}

-- ---- so many bytes

abbrev taking : ℕ → List ℕ → Read (List ℕ)
taking n bytes = cond (nat_lt (length bytes) n) (Err Truncated) (Ok (take n bytes, drop n bytes))

taken : (n : ℕ) (bytes : List ℕ) (r : Read (List ℕ)) → taking n bytes ≡ r → ((length bytes < n) × (r ≡ Err Truncated)) ⊎ ((n ≤ length bytes) × (r ≡ Ok (take n bytes, drop n bytes)))
taken n bytes r e = at_test (nat_lt (length bytes) n) refl e
  where
    at_test : (t : Bool) → nat_lt (length bytes) n ≡ t → cond t (Err Truncated) (Ok (take n bytes, drop n bytes)) ≡ r → ((length bytes < n) × (r ≡ Err Truncated)) ⊎ ((n ≤ length bytes) × (r ≡ Ok (take n bytes, drop n bytes)))
    at_test true test e = inl (ltb-true _ _ test, sym e)
    at_test false test e = inr (ltb-false _ _ test, sym e)

enough : (n : ℕ) (bytes : List ℕ) → n ≤ length bytes → taking n bytes ≡ Ok (take n bytes, drop n bytes)
enough n bytes le = ap (λ t. cond t (Err Truncated) (Ok (take n bytes, drop n bytes))) (le-ltb (length bytes) n le)

filled : (n : ℕ) (bytes : List ℕ) → length bytes ≤ n → Ends (taking n) bytes
filled n bytes le =
    let more = replicate (n - length bytes) 0 in
    let count : length (bytes ++ more) ≡ n = omega (arith, length-append bytes more, length-replicate {A = ℕ} (n - length bytes) 0) in
    let none : drop n (bytes ++ more) ≡ [] = drop_all n (bytes ++ more) (omega (arith, count)) in
    (more, take n (bytes ++ more), enough n (bytes ++ more) (omega (arith, count)) ∙ ap (λ r. Ok (take n (bytes ++ more), r)) none)

taking_reader : (n : ℕ) → IsReader (taking n)
taking_reader n = record {
  grows = λ bytes more x rest e. elim (taken n bytes (Ok (x, rest)) e) [
    | inl (short, bad) ↦ absurd cc
    | inr (le, is) ↦
        let same = same_value is in
        let long : n ≤ length (bytes ++ more) = omega (arith, length-append bytes more) in
        let front : take n (bytes ++ more) ≡ x = take-append-le n bytes more le ∙ sym same.0 in
        let behind : drop n (bytes ++ more) ≡ rest ++ more = drop-append-le n bytes more le ∙ ap (λ r. r ++ more) (sym same.1) in
        enough n (bytes ++ more) long ∙ ap (λ y. Ok (y, drop n (bytes ++ more))) front ∙ ap (λ r. Ok (x, r)) behind
  ];
  stays_bad = λ bytes more e. elim (taken n bytes (Err BadVaruint) e) [ inl (short, bad) ↦ absurd cc | inr (le, is) ↦ absurd cc ];
  known = λ bytes e. elim (taken n bytes (Err UnknownOp) e) [ inl (short, bad) ↦ absurd cc | inr (le, is) ↦ absurd cc ];
  leaves = λ bytes x rest all e. elim (taken n bytes (Ok (x, rest)) e) [
    | inl (short, bad) ↦ absurd cc
    | inr (le, is) ↦ subst AllBytes (sym (same_value is).1) (rest_bytes (take n bytes) (drop n bytes) (subst AllBytes (sym (take-append-drop n bytes)) all))
  ];
  ends = λ bytes all e. elim (taken n bytes (Err Truncated) e) [
    | inl (short, bad) ↦ filled n bytes (omega (arith, short))
    | inr (le, is) ↦ absurd cc
  ];
  begins = filled n [] (omega arith);
}

string_reader : IsReader string_at
string_reader = bind_reader varuint_reader taking_reader

-- ---- many, and immediates

many_reader : {A : Type 0} (one : List ℕ → Read A) → IsReader one → (n : ℕ) → IsReader (many_at one n)
many_reader one reads zero = pure_reader []
many_reader one reads (suc n) = bind_reader reads (λ x. bind_reader (many_reader one reads n) (λ xs. pure_reader (x ∷ xs)))

counted_reader : {A : Type 0} (one : List ℕ → Read A) → IsReader one → IsReader (counted_at one)
counted_reader one reads = bind_reader varuint_reader (many_reader one reads)

immediates_reader : (s : Shape) → IsReader (immediates_at s)
immediates_reader shape.Nothing = pure_reader is.Nothing
immediates_reader shape.Index = bind_reader byte_reader (λ i. pure_reader (is.Index i))
immediates_reader shape.TxnField = bind_reader byte_reader (λ f. pure_reader (is.Field f))
immediates_reader shape.GlobalField = bind_reader byte_reader (λ f. pure_reader (is.Field f))
immediates_reader shape.StackField = bind_reader byte_reader (λ f. pure_reader (is.Field f))
immediates_reader shape.GroupField = bind_reader byte_reader (λ t. bind_reader byte_reader (λ f. pure_reader (is.GroupField t f)))
immediates_reader shape.ArrayField = bind_reader byte_reader (λ f. bind_reader byte_reader (λ i. pure_reader (is.ArrayField f i)))
immediates_reader shape.StackArrayField = bind_reader byte_reader (λ f. bind_reader byte_reader (λ i. pure_reader (is.ArrayField f i)))
immediates_reader shape.GroupArrayField = bind_reader byte_reader (λ t. bind_reader byte_reader (λ f. bind_reader byte_reader (λ i. pure_reader (is.GroupArrayField t f i))))
immediates_reader shape.Bounds = bind_reader byte_reader (λ s. bind_reader byte_reader (λ e. pure_reader (is.Bounds s e)))
immediates_reader shape.Offset = bind_reader byte_reader (λ high. bind_reader byte_reader (λ low. pure_reader (is.Offset (256 * high + low))))
immediates_reader shape.UintBlock = bind_reader (counted_reader varuint_at varuint_reader) (λ ns. pure_reader (is.UintBlock ns))
immediates_reader shape.ByteBlock = bind_reader (counted_reader string_at string_reader) (λ ss. pure_reader (is.ByteBlock ss))
immediates_reader shape.Uint = bind_reader varuint_reader (λ n. pure_reader (is.Uint n))
immediates_reader shape.Bytes = bind_reader string_reader (λ s. pure_reader (is.Bytes s))

row_reader : (o : Opcode) → IsReader (with_opcode (Some o))
row_reader o = bind_reader (immediates_reader (row_of o).immediates) (λ m. pure_reader (record { opcode = o; immediates = m }))

-- ---- instructions

zero_reads : (version : Version) → (i : Instr) × (instr_at version (0 ∷ []) ≡ Ok (i, []))
unfolding row_of opcodes opcode_at
zero_reads Two = (record { opcode = op.Err; immediates = is.Nothing }, refl)
zero_reads Three = (record { opcode = op.Err; immediates = is.Nothing }, refl)

instr_ends : (version : Version) (bytes : List ℕ) → AllBytes bytes → instr_at version bytes ≡ Err Truncated → Ends (instr_at version) bytes
instr_ends version [] all e = let (i, is) = zero_reads version in (0 ∷ [], i, is)
instr_ends version (code ∷ bytes) all e = at_opcode (opcode_in version code) refl e
  where
    at_opcode : (o : Option Opcode) → opcode_in version code ≡ o → with_opcode o bytes ≡ Err Truncated → Ends (instr_at version) (code ∷ bytes)
    at_opcode None found e = absurd cc
    at_opcode (Some o) found e =
        let (more, i, is) = (row_reader o).ends bytes all.1 e in
        (more, i, ap (λ p. with_opcode p (bytes ++ more)) found ∙ is)

-- a code that is an opcode stands there, and no longer input is read
record IsBad (version : Version) (bytes : List ℕ) : Type 0 where
  code : ℕ
  rest : List ℕ
  parts : bytes ≡ code ∷ rest
  known : opcode_in version code ≢ None
  stays : (more : List ℕ) → instr_at version (bytes ++ more) ≡ Err BadVaruint

instr_bad : (version : Version) (bytes : List ℕ) → instr_at version bytes ≡ Err BadVaruint → IsBad version bytes
instr_bad version [] e = absurd cc
instr_bad version (code ∷ bytes) e = at_opcode (opcode_in version code) refl e
  where
    at_opcode : (o : Option Opcode) → opcode_in version code ≡ o → with_opcode o bytes ≡ Err BadVaruint → IsBad version (code ∷ bytes)
    at_opcode None found e = absurd cc
    at_opcode (Some o) found e = record {
      code = code;
      rest = bytes;
      parts = refl;
      known = λ none. absurd (let same : Some o ≡ None = sym found ∙ none in cc);
      stays = λ more. ap (λ p. with_opcode p (bytes ++ more)) found ∙ (row_reader o).stays_bad bytes more e;
    }

-- no opcode of the version stands there
record IsUnknown (version : Version) (bytes : List ℕ) : Type 0 where
  code : ℕ
  rest : List ℕ
  parts : bytes ≡ code ∷ rest
  unknown : opcode_in version code ≡ None

instr_unknown : (version : Version) (bytes : List ℕ) → instr_at version bytes ≡ Err UnknownOp → IsUnknown version bytes
instr_unknown version [] e = absurd cc
instr_unknown version (code ∷ bytes) e = at_opcode (opcode_in version code) refl e
  where
    at_opcode : (o : Option Opcode) → opcode_in version code ≡ o → with_opcode o bytes ≡ Err UnknownOp → IsUnknown version (code ∷ bytes)
    at_opcode None found e = record { code = code; rest = bytes; parts = refl; unknown = found }
    at_opcode (Some o) found e = absurd ((row_reader o).known bytes e)

-- ---- at a place

stands_at : (bytes : List ℕ) (place code : ℕ) (rest : List ℕ) → drop place bytes ≡ code ∷ rest → slice_get bytes place ≡ Some code
stands_at [] zero code rest e = absurd cc
stands_at [] (suc place) code rest e = absurd cc
stands_at (b ∷ bytes) zero code rest e = let same : b ≡ code = cc in ap (λ c. Some c) same
stands_at (b ∷ bytes) (suc place) code rest e = stands_at bytes place code rest e

is_inside : (bytes : List ℕ) (place code : ℕ) (rest : List ℕ) → drop place bytes ≡ code ∷ rest → place < length bytes
is_inside bytes place code rest e = omega (arith, ap length e, length-drop place bytes)

fault_there : (version : Version) (bytes : List ℕ) (place : ℕ) (f : CodeFault) → read_at version bytes place ≡ Err f → instr_at version (drop place bytes) ≡ Err f
fault_there version bytes place f e = elim (bind_err (instr_at version (drop place bytes)) _ _ e) [
  | inl fault ↦ fault
  | inr (x, is, fault) ↦ absurd cc
]

longer : (version : Version) (bytes more : List ℕ) (place : ℕ) → place ≤ length bytes → read_at version (bytes ++ more) place ≡ (instr_at version (drop place bytes ++ more) >>= λ i. Ok (i.0, length (bytes ++ more) - length i.1))
longer version bytes more place within = ap (λ bs. instr_at version bs >>= λ i. Ok (i.0, length (bytes ++ more) - length i.1)) (drop-append-le place bytes more within)

all_behind : (place : ℕ) (bytes : List ℕ) → AllBytes bytes → AllBytes (drop place bytes)
all_behind place bytes all = rest_bytes (take place bytes) (drop place bytes) (subst AllBytes (sym (take-append-drop place bytes)) all)

not_read : (version : Version) (bytes : List ℕ) (place : ℕ) (f : CodeFault) → read_at version bytes place ≡ Err f → ((i : Instr) × (next : ℕ) × Reads version bytes place i next) → ⊥
not_read version bytes place f e (i, next, reads) = let ok = is_read version bytes place i next reads in absurd cc

goes_on : (version : Version) (bytes : List ℕ) (place : ℕ) → AllBytes bytes → place ≤ length bytes → read_at version bytes place ≡ Err Truncated → GoesOn version bytes place
goes_on version bytes place all within e =
    let (more, i, is) = instr_ends version (drop place bytes) (all_behind place bytes all) (fault_there version bytes place Truncated e) in
    let read : read_at version (bytes ++ more) place ≡ Ok (i, length (bytes ++ more) - 0) = longer version bytes more place within ∙ ap (λ r. r >>= λ j. Ok (j.0, length (bytes ++ more) - length j.1)) is in
    let inside : place ≤ length (bytes ++ more) = omega (arith, length-append bytes more) in
    (more, i, length (bytes ++ more) - 0, read_is version (bytes ++ more) place i (length (bytes ++ more) - 0) inside read)

never_goes_on : (version : Version) (bytes : List ℕ) (place : ℕ) (f : CodeFault) → place ≤ length bytes → ((more : List ℕ) → instr_at version (drop place bytes ++ more) ≡ Err f) → GoesOn version bytes place → ⊥
never_goes_on version bytes place f within stays (more, i, next, reads) =
    let ok = is_read version (bytes ++ more) place i next reads in
    let fault : read_at version (bytes ++ more) place ≡ Err f = longer version bytes more place within ∙ ap (λ r. r >>= λ j. Ok (j.0, length (bytes ++ more) - length j.1)) (stays more) in
    absurd cc

unknown_stays : (version : Version) (bytes : List ℕ) → IsUnknown version bytes → (more : List ℕ) → instr_at version (bytes ++ more) ≡ Err UnknownOp
unknown_stays version bytes u more = ap (λ bs. instr_at version (bs ++ more)) u.parts ∙ ap (λ o. with_opcode o (u.rest ++ more)) u.unknown

faults : (version : Version) (bytes : List ℕ) (place : ℕ) (f : CodeFault) → AllBytes bytes → place ≤ length bytes → read_at version bytes place ≡ Err f → Faults version bytes place f
faults version bytes place UnknownOp all within e =
    let u = instr_unknown version (drop place bytes) (fault_there version bytes place UnknownOp e) in
    (subst (λ o. IfSome o (λ code. opcode_in version code ≡ None)) (sym (stands_at bytes place u.code u.rest u.parts)) u.unknown, is_inside bytes place u.code u.rest u.parts)
faults version bytes place Truncated all within e = (goes_on version bytes place all within e, not_read version bytes place Truncated e)
faults version bytes place BadVaruint all within e =
    let b = instr_bad version (drop place bytes) (fault_there version bytes place BadVaruint e) in
    (subst (λ o. IfSome o (λ code. opcode_in version code ≢ None)) (sym (stands_at bytes place b.code b.rest b.parts)) b.known, never_goes_on version bytes place BadVaruint within b.stays)

-- what is read goes on, with nothing more
read_goes_on : (version : Version) (bytes : List ℕ) (place : ℕ) (i : Instr) (next : ℕ) → place ≤ length bytes → read_at version bytes place ≡ Ok (i, next) → GoesOn version bytes place
read_goes_on version bytes place i next within e =
    ([], i, next, subst (λ bs. Reads version bs place i next) (sym (append-nil bytes)) (read_is version bytes place i next within e))

-- the first byte of what stands at a place
drop_there : (bytes : List ℕ) (place : ℕ) → place < length bytes → (code : ℕ) × (rest : List ℕ) × (drop place bytes ≡ code ∷ rest)
drop_there [] place lt = absurd (omega (arith, lt))
drop_there (b ∷ bytes) zero lt = (b, bytes, refl)
drop_there (b ∷ bytes) (suc place) lt = drop_there bytes place (omega (arith, lt))

unknown_there : (version : Version) (bytes : List ℕ) (place : ℕ) → Faults version bytes place UnknownOp → read_at version bytes place ≡ Err UnknownOp
unknown_there version bytes place h =
    let (code, rest, is) = drop_there bytes place h.1 in
    let none : opcode_in version code ≡ None = subst (λ o. IfSome o (λ c. opcode_in version c ≡ None)) (stands_at bytes place code rest is) h.0 in
    ap (λ bs. instr_at version bs >>= λ i. Ok (i.0, length bytes - length i.1)) is ∙ ap (λ o. with_opcode o rest >>= λ i. Ok (i.0, length bytes - length i.1)) none

faulted : (version : Version) (bytes : List ℕ) (place : ℕ) (f : CodeFault) → AllBytes bytes → place ≤ length bytes → Faults version bytes place f → (r : Result (Instr × ℕ) CodeFault) → read_at version bytes place ≡ r → r ≡ Err f
faulted version bytes place UnknownOp all within h r e = sym e ∙ unknown_there version bytes place h
faulted version bytes place Truncated all within h (Ok (i, next)) e = absurd (h.1 (i, next, read_is version bytes place i next within e))
faulted version bytes place Truncated all within h (Err UnknownOp) e =
    absurd (never_goes_on version bytes place UnknownOp within (unknown_stays version (drop place bytes) (instr_unknown version (drop place bytes) (fault_there version bytes place UnknownOp e))) h.0)
faulted version bytes place Truncated all within h (Err Truncated) e = refl
faulted version bytes place Truncated all within h (Err BadVaruint) e =
    absurd (never_goes_on version bytes place BadVaruint within (instr_bad version (drop place bytes) (fault_there version bytes place BadVaruint e)).stays h.0)
faulted version bytes place BadVaruint all within h (Ok (i, next)) e = absurd (h.1 (read_goes_on version bytes place i next within e))
faulted version bytes place BadVaruint all within h (Err UnknownOp) e =
    let u = instr_unknown version (drop place bytes) (fault_there version bytes place UnknownOp e) in
    absurd ((subst (λ o. IfSome o (λ code. opcode_in version code ≢ None)) (stands_at bytes place u.code u.rest u.parts) h.0) u.unknown)
faulted version bytes place BadVaruint all within h (Err Truncated) e = absurd (h.1 (goes_on version bytes place all within e))
faulted version bytes place BadVaruint all within h (Err BadVaruint) e = refl

-- ---- past the end

read_past_end : (version : Version) (bytes : List ℕ) (place : ℕ) → length bytes < place → read_at version bytes place ≡ Err Truncated
read_past_end version bytes place past = ap (λ bs. instr_at version bs >>= λ i. Ok (i.0, length bytes - length i.1)) (drop_all place bytes (omega (arith, past)))

-- an instruction stands at any place behind the end of some longer input
goes_on_past_end : (version : Version) (bytes : List ℕ) (place : ℕ) → length bytes < place → GoesOn version bytes place
goes_on_past_end version bytes place past =
    let (i, is) = zero_reads version in
    let filling = replicate (place - length bytes) 0 in
    let reach : length (bytes ++ filling) ≡ place = omega (arith, past, length-append bytes filling, length-replicate {A = ℕ} (place - length bytes) 0) in
    let there : drop place (bytes ++ (filling ++ 0 ∷ [])) ≡ 0 ∷ [] =
    subst (λ n. drop n (bytes ++ (filling ++ 0 ∷ [])) ≡ 0 ∷ []) reach (ap (drop (length (bytes ++ filling))) (sym (append_assoc bytes filling (0 ∷ []))) ∙ drop-append_seam (bytes ++ filling) (0 ∷ [])) in
    let all = bytes ++ (filling ++ 0 ∷ []) in
    let inside : place ≤ length all = omega (arith, reach, ap length (append_assoc bytes filling (0 ∷ [])), length-append (bytes ++ filling) (0 ∷ [])) in
    let read : read_at version all place ≡ Ok (i, length all - 0) = ap (λ bs. instr_at version bs >>= λ j. Ok (j.0, length all - length j.1)) there ∙ ap (λ r. r >>= λ j. Ok (j.0, length all - length j.1)) is in
    (filling ++ 0 ∷ [], i, length all - 0, read_is version all place i (length all - 0) inside read)

faults_past_end : (version : Version) (bytes : List ℕ) (place : ℕ) (f : CodeFault) → length bytes < place → read_at version bytes place ≡ Err f → Faults version bytes place f
faults_past_end version bytes place UnknownOp past e = let other = read_past_end version bytes place past in absurd cc
faults_past_end version bytes place Truncated past e = (goes_on_past_end version bytes place past, not_read version bytes place Truncated e)
faults_past_end version bytes place BadVaruint past e = let other = read_past_end version bytes place past in absurd cc

faulted_past_end : (version : Version) (bytes : List ℕ) (place : ℕ) (f : CodeFault) → length bytes < place → Faults version bytes place f → read_at version bytes place ≡ Err f
faulted_past_end version bytes place UnknownOp past h = absurd (omega (arith, past, h.1))
faulted_past_end version bytes place Truncated past h = read_past_end version bytes place past
faulted_past_end version bytes place BadVaruint past h = absurd (h.1 (goes_on_past_end version bytes place past))

-- ---- the laws

-- the reader answers a fault exactly where the grammar has it
pub faults_are : (version : Version) (bytes : List ℕ) (place : ℕ) (f : CodeFault) → All (λ b. b < 256) bytes → (read_at version bytes place ≡ Err f) ↔ Faults version bytes place f
faults_are version bytes place f all = elim (cases_lt (length bytes) place) [
  | inl past ↦ (faults_past_end version bytes place f past, faulted_past_end version bytes place f past)
  | inr within ↦ (faults version bytes place f (all_bytes bytes all) within, λ h. faulted version bytes place f (all_bytes bytes all) within h (read_at version bytes place) refl)
]

-- at any place, within the bytes or not, an instruction that is read stands there by the grammar
pub read_anywhere : (version : Version) (bytes : List ℕ) (place : ℕ) (i : Instr) (next : ℕ) → read_at version bytes place ≡ Ok (i, next) → Reads version bytes place i next
read_anywhere version bytes place i next e = elim (cases_lt (length bytes) place) [
  | inl past ↦ let fault = read_past_end version bytes place past in absurd cc
  | inr within ↦ read_is version bytes place i next within e
]
