-- What the words of a line ask for is an instruction of the version.
use Rattle.std.proofs.Common.{◌≡◌, refl, sym, subst, ℕ, ◌<◌, ◌^◌, Bool, true, false, ◌&&◌, cond, List, [], ◌∷◌, length, codes, Option, Some, None, Result, Ok, inl, inr, arith}
use Rattle.std.specs.Prelude.{nat_lt}
use Rattle.std.specs.List.{flat_map}
use Rattle.std.specs.Map.{lookup}
use Rattle.std.specs.Option.{ok_or}
use Rattle.std.specs.Str.{bytes_eq}
use Rattle.std.specs.Str.Parse.{digits_value}
use Rattle.std.proofs.lemmas.Bool.{ltb-true, and_parts}
use Rattle.teal_value.proofs.Binding.{bind_ok, chosen}
use Rattle.teal_table.specs.declared.shape.Shape.{Shape}
use Rattle.teal_table.specs.declared.shape.Shape.TheVariants as shape
use Rattle.teal_table.specs.declared.shape.Version.{Version}
use Rattle.teal_table.specs.declared.shape.Version.TheVariants.{Two, Three}
use Rattle.teal_table.specs.declared.opcode.Opcode.{Opcode}
use Rattle.teal_table.specs.declared.opcode.Opcode.TheVariants as op
use Rattle.teal_table.specs.Table.{row_of, only_in, opcode_named, has}
use Rattle.teal_table.specs.Fields.{txn_field_at}
use Rattle.teal_code.specs.declared.instr.Immediates.{Immediates}
use Rattle.teal_code.specs.declared.instr.Immediates.TheVariants as is
use Rattle.teal_code.specs.Varuint.{varuint}
use Rattle.teal_code.specs.Encoding.{prefixed, immediates_encoding}
use Rattle.teal_check.specs.WellFormed.{is_scalar, is_array_field}
use Rattle.teal_text.specs.Numbers.{base_of, digits_of, is_numeral, numeral_value}
use Rattle.teal_source.specs.declared.command.Command.{Command}
use Rattle.teal_source.specs.declared.command.Command.TheVariants.{Int, Byte, Jump, Plain}
use Rattle.teal_source.specs.declared.fault.AsmFaultKind.TheVariants as kind
use Rattle.teal_source.specs.Operands.{Word, literals_in, byte_number, any_number, named_constants, named_constant, or_number, int_value, literal_value, address_value, txn_field_value, global_field_value}
use Rattle.teal_source.specs.Commands.{Asked, each, no_operand, only_operand, two_operands, three_operands, scalar, array, txn_command, array_command, group_command, group_array_command, txn_or_array, group_or_array, with_operands, opcode_command, command}
use Rattle.teal_laws.specs.Listed.{AreUints, AreStrings, HasShape}
use Rattle.teal_laws.specs.Listed as listed
use Rattle.teal_laws.specs.ListedMeaning.{IsNoOffset}
use Rattle.teal_laws.proofs.Bytes.{AreBytes, each_is}
use Rattle.teal_laws.proofs.Forms.{HasForm}
use Rattle.teal_laws.proofs.Forms as form
use Rattle.teal_laws.proofs.FieldNames.{scalar_asked, array_asked, global_asked}
use Rattle.teal_laws.proofs.Names.{Alone, alone}
use Rattle.teal_laws.proofs.PlacedInstructions.{brought}
use Rattle.teal_laws.proofs.Encodings.{front_bytes}

-- ---- a form with bytes is a shape

strings_are : (ss : List (List ℕ)) → AreBytes (flat_map prefixed ss) → AreStrings ss
strings_are [] h = tt
strings_are (s ∷ ss) h =
    let both = front_bytes (prefixed s) (flat_map prefixed ss) h in
    (each_is s (front_bytes (varuint (length s)) s both.0).1, strings_are ss both.1)

-- immediates whose encoding is bytes have their numbers in range
pub shape_of : (version : Version) {s : Shape} {m : Immediates} → HasForm version s m → AreBytes (immediates_encoding m) → HasShape version s m
shape_of version form.nothing h = listed.nothing
shape_of version form.index h = listed.index (omega (arith, h.0))
shape_of version (form.txn k) h = listed.txn k
shape_of version (form.stack k) h = listed.stack k
shape_of version (form.global k) h = listed.global k
shape_of version (form.group k) h = listed.group (omega (arith, h.0)) k
shape_of version (form.array k) h = listed.array k (omega (arith, h.1))
shape_of version (form.stack_array k) h = listed.stack_array k (omega (arith, h.1))
shape_of version (form.group_array k) h = listed.group_array (omega (arith, h.0)) k (omega (arith, h.1))
shape_of version form.bounds h = listed.bounds (omega (arith, h.0)) (omega (arith, h.1))
shape_of version (form.uints k) h = listed.uints k
shape_of version (form.strings {ss}) h = listed.strings (strings_are ss (front_bytes (varuint (length ss)) (flat_map prefixed ss) h).1)
shape_of version (form.uint k) h = listed.uint k
shape_of version (form.string {s}) h = listed.string (each_is s (front_bytes (varuint (length s)) s h).1)

-- ---- commands

-- what holds of each command that a line asks for
abbrev pub IsAsked : Version → Command → Type 0
IsAsked version (Int n) = n < 2 ^ 64
IsAsked version (Byte s) = Unit {0}
IsAsked version (Jump o name) = (has version (row_of o).version ≡ true) × ((row_of o).immediates ≡ shape.Offset)
IsAsked version (Plain o m) = (has version (row_of o).version ≡ true) × HasForm version (row_of o).immediates m × IsNoOffset m

numeral_small : (base : ℕ) (w : Word) (n : ℕ) → ok_or (numeral_value base w) kind.BadNumber ≡ Ok n → n < 2 ^ 64
unfolding numeral_value
numeral_small base w n e =
    elim (is_numeral base w && nat_lt (digits_value base w) (2 ^ 64)) as (λ b. b ≡ is_numeral base w && nat_lt (digits_value base w) (2 ^ 64) → ok_or (cond b (Some (digits_value base w)) None) kind.BadNumber ≡ Ok n → n < 2 ^ 64) [
      | true ↦ λ t h.
          let same : digits_value base w ≡ n = cc in
          let small = ltb-true (digits_value base w) (2 ^ 64) (and_parts (is_numeral base w) (nat_lt (digits_value base w) (2 ^ 64)) (sym t)).1 in
          omega (arith, small, same)
      | false ↦ λ t h. absurd cc
    ] refl e

any_small : (w : Word) (n : ℕ) → any_number w ≡ Ok n → n < 2 ^ 64
any_small w n e = numeral_small (base_of w) (digits_of w) n e

all_small : (ws : List Word) (ns : List ℕ) → each any_number ws ≡ Ok ns → AreUints ns
all_small [] ns e = let none : [] ≡ ns = cc in subst AreUints none tt
all_small (w ∷ ws) ns e =
    let (n, first, others) = bind_ok (any_number w) _ _ e in
    let (ms, more, last) = bind_ok (each any_number ws) _ _ others in
    let same : n ∷ ms ≡ ns = cc in
    subst AreUints same (any_small w n first, all_small ws ms more)

abbrev ValuesSmall : List (Word × ℕ) → Type 0
ValuesSmall [] = Unit {0}
ValuesSmall (e ∷ es) = (e.1 < 2 ^ 64) × ValuesSmall es

looked_up : (p : Word → Bool) (es : List (Word × ℕ)) (n : ℕ) → ValuesSmall es → lookup p es ≡ Some n → n < 2 ^ 64
looked_up p [] n h e = absurd cc
looked_up p (x ∷ es) n h e =
    elim (chosen (p x.0) _ _ _ e) [
      | inl (here, one) ↦ let same : x.1 ≡ n = cc in omega (arith, h.0, same)
      | inr (other, more) ↦ looked_up p es n h.1 more
    ]

constants_small : ValuesSmall named_constants
constants_small = (omega arith, (omega arith, (omega arith, (omega arith, (omega arith, (omega arith, (omega arith, (omega arith, (omega arith, (omega arith, (omega arith, (omega arith, tt))))))))))))

int_small : (w : Word) (n : ℕ) → int_value w ≡ Ok n → n < 2 ^ 64
unfolding named_constant
int_small w n e = elim (named_constant w) as (λ o. named_constant w ≡ o → or_number o w ≡ Ok n → n < 2 ^ 64) [
  | Some k ↦ λ found h. let same : k ≡ n = cc in omega (arith, same, looked_up (λ name. bytes_eq name w) named_constants k constants_small found)
  | None ↦ λ found h. any_small w n h
] refl e

pub ok_same : {A E : Type 0} {x y : A} → ◌≡◌ {A = Result A E} (Ok x) (Ok y) → x ≡ y
ok_same e = cc

plain : (version : Version) (o : Opcode) (m : Immediates) (c : Command) {s : Shape} → has version (row_of o).version ≡ true → (row_of o).immediates ≡ s → HasForm version s m → IsNoOffset m → ◌≡◌ {A = Asked Command} (Ok (Plain o m)) (Ok c) → IsAsked version c
plain version o m c there shape_is h unaimed e = subst (IsAsked version) (ok_same e) (there, subst (λ x. HasForm version x m) (sym shape_is) h, unaimed)

txn_asked : (q : Opcode) (f : Word) (c : Command) → txn_command q f ≡ Ok c → (n : ℕ) × (is_scalar (txn_field_at n) ≡ true) × ◌≡◌ {A = Asked Command} (Ok (Plain q (is.Field n))) (Ok c)
txn_asked q f c e =
    let (passed, first, others) = bind_ok (scalar f) _ _ e in
    let (n, second, last) = bind_ok (txn_field_value f) _ _ others in
    (n, scalar_asked f n first second, last)

array_is_asked : (q : Opcode) (f i : Word) (c : Command) → array_command q f i ≡ Ok c → (n k : ℕ) × (is_array_field (txn_field_at n) ≡ true) × ◌≡◌ {A = Asked Command} (Ok (Plain q (is.ArrayField n k))) (Ok c)
array_is_asked q f i c e =
    let (passed, first, others) = bind_ok (array f) _ _ e in
    let (n, second, more) = bind_ok (txn_field_value f) _ _ others in
    let (k, third, last) = bind_ok (byte_number i) _ _ more in
    (n, k, array_asked f n first second, last)

group_asked : (q : Opcode) (t f : Word) (c : Command) → group_command q t f ≡ Ok c → (g n : ℕ) × (is_scalar (txn_field_at n) ≡ true) × ◌≡◌ {A = Asked Command} (Ok (Plain q (is.GroupField g n))) (Ok c)
group_asked q t f c e =
    let (passed, first, others) = bind_ok (scalar f) _ _ e in
    let (g, second, more) = bind_ok (byte_number t) _ _ others in
    let (n, third, last) = bind_ok (txn_field_value f) _ _ more in
    (g, n, scalar_asked f n first third, last)

group_array_asked : (q : Opcode) (t f i : Word) (c : Command) → group_array_command q t f i ≡ Ok c → (g n k : ℕ) × (is_array_field (txn_field_at n) ≡ true) × ◌≡◌ {A = Asked Command} (Ok (Plain q (is.GroupArrayField g n k))) (Ok c)
group_array_asked q t f i c e =
    let (passed, first, others) = bind_ok (array f) _ _ e in
    let (g, second, more) = bind_ok (byte_number t) _ _ others in
    let (n, third, rest) = bind_ok (txn_field_value f) _ _ more in
    let (k, fourth, last) = bind_ok (byte_number i) _ _ rest in
    (g, n, k, array_asked f n first third, last)

-- every version has what version 2 has
pub two_has : (version : Version) → has version Two ≡ true
two_has Two = refl
two_has Three = refl

txn_kinds : (version : Version) (ws : List Word) (c : Command) → txn_or_array op.Txn op.Txna ws ≡ Ok c → IsAsked version c
unfolding row_of
txn_kinds version [] c e = absurd cc
txn_kinds version (f ∷ []) c e = let a = txn_asked op.Txn f c e in plain version op.Txn (is.Field a.0) c (two_has version) refl (form.txn a.1) tt a.2
txn_kinds version (f ∷ i ∷ []) c e = let a = array_is_asked op.Txna f i c e in plain version op.Txna (is.ArrayField a.0 a.1) c (two_has version) refl (form.array a.2) tt a.3
txn_kinds version (f ∷ i ∷ x ∷ ws) c e = absurd cc

stack_kinds : (version : Version) (ws : List Word) (c : Command) → has version Three ≡ true → txn_or_array op.Gtxns op.Gtxnsa ws ≡ Ok c → IsAsked version c
unfolding row_of
stack_kinds version [] c there e = absurd cc
stack_kinds version (f ∷ []) c there e = let a = txn_asked op.Gtxns f c e in plain version op.Gtxns (is.Field a.0) c there refl (form.stack a.1) tt a.2
stack_kinds version (f ∷ i ∷ []) c there e = let a = array_is_asked op.Gtxnsa f i c e in plain version op.Gtxnsa (is.ArrayField a.0 a.1) c there refl (form.stack_array a.2) tt a.3
stack_kinds version (f ∷ i ∷ x ∷ ws) c there e = absurd cc

group_kinds : (version : Version) (ws : List Word) (c : Command) → group_or_array ws ≡ Ok c → IsAsked version c
unfolding row_of
group_kinds version [] c e = absurd cc
group_kinds version (t ∷ []) c e = absurd cc
group_kinds version (t ∷ f ∷ []) c e = let a = group_asked op.Gtxn t f c e in plain version op.Gtxn (is.GroupField a.0 a.1) c (two_has version) refl (form.group a.2) tt a.3
group_kinds version (t ∷ f ∷ i ∷ []) c e = let a = group_array_asked op.Gtxna t f i c e in plain version op.Gtxna (is.GroupArrayField a.0 a.1 a.2) c (two_has version) refl (form.group_array a.3) tt a.4
group_kinds version (t ∷ f ∷ i ∷ x ∷ ws) c e = absurd cc

gtxns_version : (version : Version) (o : Opcode) → o ≡ op.Gtxns → has version (row_of o).version ≡ true → has version Three ≡ true
unfolding row_of
gtxns_version version o e there = subst (λ q. has version (row_of q).version ≡ true) e there

operands_asked : (version : Version) (o : Opcode) (s : Shape) (ws : List Word) (c : Command) → has version (row_of o).version ≡ true → (row_of o).immediates ≡ s → Alone o s → with_operands version o s ws ≡ Ok c → IsAsked version c
operands_asked version o shape.Nothing ws c there shaped own e =
    let (x, first, last) = bind_ok (no_operand ws) _ _ e in
    plain version o is.Nothing c there shaped form.nothing tt last
operands_asked version o shape.Index ws c there shaped own e =
    let (w, first, others) = bind_ok (only_operand ws) _ _ e in
    let (i, second, last) = bind_ok (byte_number w) _ _ others in
    plain version o (is.Index i) c there shaped form.index tt last
operands_asked version o shape.TxnField ws c there shaped own e = txn_kinds version ws c e
operands_asked version o shape.GlobalField ws c there shaped own e =
    let (w, first, others) = bind_ok (only_operand ws) _ _ e in
    let (n, second, last) = bind_ok (global_field_value version w) _ _ others in
    plain version o (is.Field n) c there shaped (form.global (global_asked version w n second)) tt last
operands_asked version o shape.GroupField ws c there shaped own e = group_kinds version ws c e
operands_asked version o shape.ArrayField ws c there shaped own e =
    let (p, first, others) = bind_ok (two_operands ws) _ _ e in
    let a = array_is_asked o p.0 p.1 c others in
    plain version o (is.ArrayField a.0 a.1) c there shaped (form.array a.2) tt a.3
operands_asked version o shape.GroupArrayField ws c there shaped own e =
    let (p, first, others) = bind_ok (three_operands ws) _ _ e in
    let a = group_array_asked o p.0 p.1 p.2 c others in
    plain version o (is.GroupArrayField a.0 a.1 a.2) c there shaped (form.group_array a.3) tt a.4
operands_asked version o shape.StackField ws c there shaped own e = stack_kinds version ws c (gtxns_version version o own there) e
operands_asked version o shape.StackArrayField ws c there shaped own e =
    let (p, first, others) = bind_ok (two_operands ws) _ _ e in
    let a = array_is_asked o p.0 p.1 c others in
    plain version o (is.ArrayField a.0 a.1) c there shaped (form.stack_array a.2) tt a.3
operands_asked version o shape.Bounds ws c there shaped own e =
    let (p, first, others) = bind_ok (two_operands ws) _ _ e in
    let (s, second, more) = bind_ok (byte_number p.0) _ _ others in
    let (t, third, last) = bind_ok (byte_number p.1) _ _ more in
    plain version o (is.Bounds s t) c there shaped form.bounds tt last
operands_asked version o shape.Offset ws c there shaped own e =
    let (w, first, last) = bind_ok (only_operand ws) _ _ e in
    subst (IsAsked version) (ok_same last) (there, shaped)
operands_asked version o shape.UintBlock ws c there shaped own e =
    let (ns, first, last) = bind_ok (each any_number ws) _ _ e in
    plain version o (is.UintBlock ns) c there shaped (form.uints (all_small ws ns first)) tt last
operands_asked version o shape.ByteBlock ws c there shaped own e =
    let (ss, first, last) = bind_ok (each literal_value (literals_in ws)) _ _ e in
    plain version o (is.ByteBlock ss) c there shaped form.strings tt last
operands_asked version o shape.Uint ws c there shaped own e =
    let (w, first, others) = bind_ok (only_operand ws) _ _ e in
    let (n, second, last) = bind_ok (any_number w) _ _ others in
    plain version o (is.Uint n) c there shaped (form.uint (any_small w n second)) tt last
operands_asked version o shape.Bytes ws c there shaped own e =
    let (l, first, others) = bind_ok (only_operand (literals_in ws)) _ _ e in
    let (s, second, last) = bind_ok (literal_value l) _ _ others in
    plain version o (is.Bytes s) c there shaped form.string tt last

opcode_asked : (version : Version) (found : Option Opcode) (ws : List Word) (c : Command) → opcode_command version (only_in version found) ws ≡ Ok c → IsAsked version c
opcode_asked version found ws c e = elim (only_in version found) as (λ o. only_in version found ≡ o → opcode_command version o ws ≡ Ok c → IsAsked version c) [
  | None ↦ λ f h. absurd cc
  | Some o ↦ λ f h. operands_asked version o (row_of o).immediates ws c (brought version found o f) refl (alone o) h
] refl e

-- an opcode that a line asks for is of the version, and its immediates have its form
pub command_asked : (version : Version) (name : Word) (ws : List Word) (c : Command) → command version name ws ≡ Ok c → IsAsked version c
unfolding command
command_asked version name ws c e =
    elim (chosen (bytes_eq name (codes "int")) _ _ _ e) [
      | inl (int, a) ↦
          let (w, first, others) = bind_ok (only_operand ws) _ _ a in
          let (n, second, last) = bind_ok (int_value w) _ _ others in
          subst (IsAsked version) (ok_same last) (int_small w n second)
      | inr (not_int, a) ↦ elim (chosen (bytes_eq name (codes "byte")) _ _ _ a) [
        | inl (byte, b) ↦
            let (l, first, others) = bind_ok (only_operand (literals_in ws)) _ _ b in
            let (s, second, last) = bind_ok (literal_value l) _ _ others in
            subst (IsAsked version) (ok_same last) tt
        | inr (not_byte, b) ↦ elim (chosen (bytes_eq name (codes "addr")) _ _ _ b) [
          | inl (addr, d) ↦
              let (l, first, others) = bind_ok (only_operand (literals_in ws)) _ _ d in
              let (s, second, last) = bind_ok (address_value l) _ _ others in
              subst (IsAsked version) (ok_same last) tt
          | inr (not_addr, d) ↦ opcode_asked version (opcode_named name) ws c d
        ]
      ]
    ]
