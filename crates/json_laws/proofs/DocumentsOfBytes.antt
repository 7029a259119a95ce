-- What documents that are accepted say is of bytes, where their strings are.
use Rattle.std.proofs.Common.{◌≡◌, ℕ, Bool, true, false, cond, List, Option, Some, None, Result, Ok, Err, refl, subst}
use Rattle.std.specs.Prelude.{codes}
use Rattle.std.specs.Str.{bytes_eq}
use Rattle.teal_source.specs.declared.fault.AsmFault.{AsmFault}
use Rattle.teal_asm.specs.Program.{assembled}
use Rattle.avm_rule_laws.specs.Rules.{AreBytes}
use Rattle.json.specs.Json.{Json, null, boolean, number, string, array, object, Items, no_items, item, Members, no_members, member}
use Rattle.json.specs.Find.{as_array, as_str, get, get_member, later_or}
use Rattle.json_documents.specs.declared.document_fault.DocumentFault.TheVariants.{NotText}
use Rattle.json_documents.specs.Arrays.{each}
use Rattle.json_documents.specs.Plain.{bytes}
use Rattle.json_documents.specs.Documents.{Document, document}
use Rattle.json_documents.specs.Programs.{on_source, program, program_of_source}
use Rattle.json_documents.specs.Sources.{no_sources, source}
use Rattle.json_documents.specs.Placeholders.{has_placeholders}
use Rattle.json_laws.specs.OfBytes.{HasStringsOfBytes, IsDocumentOfBytes, ItemsHaveStringsOfBytes, MembersHaveStringsOfBytes}
use Rattle.json_laws.proofs.AcceptedSteps.{EachItem, IsInherited, from, optional_gives, same_value, there}
use Rattle.json_laws.proofs.AcceptedValues.{bytes_are}
use Rattle.json_laws.proofs.AcceptedSources.{AreSources, is_checked_code, none_are, sources_kept}
use Rattle.json_laws.proofs.AcceptedDocuments.{IsProgram, all_of_bytes, document_is}
use Rattle.json_laws.proofs.AssembledBytes.{assembled_is_bytes}

-- ---- members and elements

later : (o : Option Json) (b : Bool) (j k : Json) → ((i : Json) → o ≡ Some i → HasStringsOfBytes i) → HasStringsOfBytes j → later_or o (cond b (Some j) None) ≡ Some k → HasStringsOfBytes k
later (Some i) b j k more h e = let same : i ≡ k = cc in subst HasStringsOfBytes same (more i refl)
later None true j k more h e = let same : j ≡ k = cc in subst HasStringsOfBytes same h
later None false j k more h e = absurd cc

member_found : (name : List ℕ) (ms : Members) (k : Json) → MembersHaveStringsOfBytes ms → get_member name ms ≡ Some k → HasStringsOfBytes k
member_found name no_members k h e = absurd cc
member_found name (member key j ms) k h e = later (get_member name ms) (bytes_eq key name) j k (λ i is. member_found name ms i h.1 is) h.0 e

got : (name : List ℕ) (j k : Json) → HasStringsOfBytes j → get name j ≡ Some k → HasStringsOfBytes k
got name null k h e = absurd cc
got name (boolean b) k h e = absurd cc
got name (number s) k h e = absurd cc
got name (string s) k h e = absurd cc
got name (array js) k h e = absurd cc
got name (object ms) k h e = member_found name ms k h e

each_item : (js : Items) → ItemsHaveStringsOfBytes js → EachItem HasStringsOfBytes js
each_item no_items h = tt
each_item (item j js) h = (h.0, each_item js h.1)

elements_of : (j : Json) (js : Items) → HasStringsOfBytes j → as_array j ≡ Some js → EachItem HasStringsOfBytes js
elements_of null js h e = absurd cc
elements_of (boolean b) js h e = absurd cc
elements_of (number s) js h e = absurd cc
elements_of (string s) js h e = absurd cc
elements_of (array ks) js h e = let same : ks ≡ js = cc in subst (EachItem HasStringsOfBytes) same (each_item ks h)
elements_of (object ms) js h e = absurd cc

inherited : IsInherited HasStringsOfBytes
inherited = record { members = got; elements = elements_of }

string_of : (j : Json) (s : List ℕ) → HasStringsOfBytes j → as_str j ≡ Some s → AreBytes s
string_of null s h e = absurd cc
string_of (boolean b) s h e = absurd cc
string_of (number t) s h e = absurd cc
string_of (string t) s h e = let same : t ≡ s = cc in subst AreBytes same h
string_of (array js) s h e = absurd cc
string_of (object ms) s h e = absurd cc

-- ---- programs

-- a program of bytes
abbrev IsProgramOfBytes : List ℕ → Type 0
IsProgramOfBytes code = IsProgram code × AreBytes code

given : (j : Json) (code : List ℕ) → program j ≡ Ok code → IsProgramOfBytes code
given j code e = from (bytes j) _ code e (λ s es e1. let p = is_checked_code s code e1 in subst IsProgramOfBytes p.1 (p.0, bytes_are j s es))

assembled_ok : (r : Result (List ℕ) AsmFault) (code : List ℕ) → on_source r ≡ Ok code → r ≡ Ok code
assembled_ok (Ok t) code e = let same : t ≡ code = same_value t code e in cc
assembled_ok (Err f) code e = absurd cc

encoded : (s code : List ℕ) → AreBytes s → program_of_source s ≡ Ok code → IsProgramOfBytes code
encoded s code all e =
    from (on_source (assembled s)) _ code e (λ t et e1.
    let p = is_checked_code t code e1 in
    subst IsProgramOfBytes p.1 (p.0, assembled_is_bytes s t all (assembled_ok (assembled s) t et)))

pub accepted_documents_are_of_bytes : (j : Json) (x : Document) → HasStringsOfBytes j → document j ≡ Ok x → IsDocumentOfBytes x
accepted_documents_are_of_bytes j x h e =
    all_of_bytes IsProgramOfBytes AreBytes x (λ code p. p.1) (λ code c. c)
    (document_is inherited IsProgramOfBytes AreBytes (record { as_bytes = λ k code q is. given k code is }) (record { of_bytes = λ s all. all; of_programs = λ code p. p.1 }) j x h
    (λ sources is. optional_gives inherited (AreSources IsProgramOfBytes) (codes "sources") (each (source (has_placeholders j)) no_sources) no_sources (none_are IsProgramOfBytes)
    (sources_kept inherited IsProgramOfBytes (has_placeholders j) (λ k s code q ks is. encoded s code (string_of k s q (there (as_str k) NotText s ks)) is)) j sources h is) e)
