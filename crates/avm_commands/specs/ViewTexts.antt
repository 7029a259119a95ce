-- Views of a debugger in words.
use Rattle.std.specs.Prelude.{ℕ, ◌++◌, List, [], ◌∷◌, length, map, reverse, Option, Some, None, codes, decimal}
use Rattle.hex.specs.Hex.{encode_lower}
use Rattle.teal_value.specs.declared.value.Value.{Value}
use Rattle.teal_value.specs.declared.value.Value.TheVariants.{Uint, Bytes}
use Rattle.teal_value.specs.AddressText.{address_text}
use Rattle.teal_dis.specs.Listing.{line_of}
use Rattle.avm_call.specs.Views.{AtEnd, Faults, KeyChange, LocalChange, NextStep, Runs, View}
use Rattle.teal_value.specs.FaultNames.{fault_name}

-- ---- lines

-- each line ended by a line feed
abbrev pub lines_text : List (List ℕ) → List ℕ
lines_text [] = []
lines_text (line ∷ lines) = line ++ (codes "\n" ++ lines_text lines)

-- lines behind a line with a name and how many they are
abbrev pub part_text : List ℕ → List (List ℕ) → List ℕ
part_text name lines = name ++ (codes " " ++ (decimal (length lines) ++ (codes "\n" ++ lines_text lines)))

-- ---- one line

-- a byte string as a value: no digits have no space before them
abbrev pub bytes_text : List ℕ → List ℕ
bytes_text [] = codes "bytes"
bytes_text (b ∷ bs) = codes "bytes " ++ encode_lower (b ∷ bs)

abbrev pub value_text : Value → List ℕ
value_text (Uint n) = codes "uint " ++ decimal n
value_text (Bytes s) = bytes_text s

-- an instruction as it is listed, with a branch's target as its place
abbrev pub next_text : ℕ → NextStep → List ℕ
next_text place (Runs i) = line_of place i
next_text place (Faults f) = codes "fault " ++ fault_name f
next_text place AtEnd = codes "end"

abbrev pub scratch_text : ℕ × Value → List ℕ
scratch_text place = decimal place.0 ++ (codes " " ++ value_text place.1)

abbrev pub now_text : Option Value → List ℕ
now_text None = codes "gone"
now_text (Some v) = value_text v

abbrev pub key_text : List ℕ → Option Value → List ℕ
key_text key now = codes "0x" ++ (encode_lower key ++ (codes " " ++ now_text now))

abbrev pub global_text : KeyChange → List ℕ
global_text c = codes "global " ++ key_text c.key c.now

abbrev pub local_text : LocalChange → List ℕ
local_text c = codes "local " ++ (address_text c.account ++ (codes " " ++ key_text c.key c.now))

abbrev pub change_texts : List KeyChange → List LocalChange → List (List ℕ)
change_texts globals locals = map global_text globals ++ map local_text locals

-- ---- a view

abbrev pub place_text : ℕ → NextStep → List ℕ
place_text place next = codes "place " ++ (decimal place ++ (codes "\nnext " ++ (next_text place next ++ codes "\n")))

-- the stack is printed from the bottom
abbrev pub view_text : View → List ℕ
view_text v =
    place_text v.place v.next
    ++ (part_text (codes "stack") (map value_text (reverse v.stack))
    ++ (part_text (codes "scratch") (map scratch_text v.scratch)
    ++ (part_text (codes "ints") (map decimal v.uint_constants)
    ++ (part_text (codes "bytes") (map encode_lower v.byte_constants)
    ++ part_text (codes "changes") (change_texts v.global_changes v.local_changes)))))
