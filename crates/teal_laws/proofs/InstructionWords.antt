-- The words of an instruction's line ask for the instruction.
use Rattle.std.proofs.Common.{◌≡◌, ◌∙◌, refl, ℕ, ◌<◌, ◌≤◌, ◌^◌, true, false, List, [], ◌∷◌, map, None, Ok, arith}
use Rattle.std.specs.Prelude.{decimal, nat_le}
use Rattle.std.proofs.lemmas.Bool.Decides.{nat_tests}
use Rattle.base64.specs.GeneralPurpose.{IsBytes}
use Rattle.teal_table.specs.declared.shape.Shape.{Shape}
use Rattle.teal_table.specs.declared.shape.Version.{Version}
use Rattle.teal_table.specs.declared.opcode.Opcode.{Opcode}
use Rattle.teal_table.specs.Table.{row_of, name_of}
use Rattle.teal_code.specs.declared.instr.Immediates.{Immediates}
use Rattle.teal_code.specs.declared.instr.Instr.{Instr}
use Rattle.teal_text.specs.Literals.{names_encoding}
use Rattle.teal_text.proofs.ReadBack.{decimal_back, hexadecimal_back}
use Rattle.teal_dis.specs.Listing.{constant, operands}
use Rattle.teal_source.specs.Operands.{byte_number, any_number, literals_in, literal_value}
use Rattle.teal_source.specs.Commands.{each, command, with_operands}
use Rattle.teal_source.proofs.Literals.{single}
use Rattle.teal_laws.specs.Listed.{AreUints, AreStrings, HasShape, nothing, index, txn, stack, global, group, array, stack_array, group_array, bounds, offset, uints, strings, uint, string, IsOfVersion, command_of}
use Rattle.teal_laws.proofs.Names.{Alone, alone, command_named}
use Rattle.teal_laws.proofs.FieldNames.{scalar_back, array_back, global_back}

any_back : (n : ℕ) → n < 2 ^ 64 → any_number (decimal n) ≡ Ok n
any_back n lt = rw (decimal_back n lt) refl

byte_back : (n : ℕ) → n ≤ 255 → byte_number (decimal n) ≡ Ok n
byte_back n le =
    let within : nat_le n 255 ≡ true = grind (arith, nat_tests) in
    rw (decimal_back n (omega (arith, le)), within) refl

uints_back : (ns : List ℕ) → AreUints ns → each any_number (map decimal ns) ≡ Ok ns
uints_back [] h = refl
uints_back (n ∷ ns) h = rw (any_back n h.0, uints_back ns h.1) refl

no_encoding : (s : List ℕ) → names_encoding (constant s) ≡ false
unfolding names_encoding
no_encoding s = refl

literal_back : (s : List ℕ) → IsBytes s → literal_value (constant s, None) ≡ Ok s
literal_back s h = rw (hexadecimal_back s h) refl

strings_back : (ss : List (List ℕ)) → AreStrings ss → each literal_value (literals_in (map constant ss)) ≡ Ok ss
strings_back [] h = refl
strings_back (s ∷ ss) h = rw (single (constant s) (map constant ss) (no_encoding s), literal_back s h.0, strings_back ss h.1) refl

operands_back : (version : Version) (o : Opcode) (target : List ℕ) {s : Shape} {m : Immediates} → HasShape version s m → Alone o s
    → with_operands version o s (operands s target m) ≡ Ok (command_of o target m)
operands_back version o target nothing own = refl
operands_back version o target (index {i} h) own = rw (byte_back i h) refl
operands_back version o target (txn {f} h) own = let s = scalar_back f h in rw (own, s.0, s.1) refl
operands_back version o target (stack {f} h) own = let s = scalar_back f h in rw (own, s.0, s.1) refl
operands_back version o target (global {f} h) own = rw (global_back version f h) refl
operands_back version o target (group {t} {f} h k) own = let s = scalar_back f k in rw (own, s.0, byte_back t h, s.1) refl
operands_back version o target (array {f} {i} h k) own = let s = array_back f h in rw (s.0, s.1, byte_back i k) refl
operands_back version o target (stack_array {f} {i} h k) own = let s = array_back f h in rw (s.0, s.1, byte_back i k) refl
operands_back version o target (group_array {t} {f} {i} h k l) own = let s = array_back f k in rw (s.0, byte_back t h, s.1, byte_back i l) refl
operands_back version o target (bounds {s} {e} h k) own = rw (byte_back s h, byte_back e k) refl
operands_back version o target offset own = refl
operands_back version o target (uints {ns} h) own = rw (uints_back ns h) refl
operands_back version o target (strings {ss} h) own = rw (strings_back ss h) refl
operands_back version o target (uint {n} h) own = rw (any_back n h) refl
operands_back version o target (string {s} h) own = rw (literal_back s h) refl

-- the words of an instruction's line ask for that instruction
pub words_back : (version : Version) (target : List ℕ) (i : Instr) → IsOfVersion version i
    → command version (name_of i.opcode) (operands (row_of i.opcode).immediates target i.immediates) ≡ Ok (command_of i.opcode target i.immediates)
words_back version target i is-of =
    command_named version i.opcode (operands (row_of i.opcode).immediates target i.immediates)
    ∙ rw (is-of.opcode) (operands_back version i.opcode target is-of.immediates (alone i.opcode))
