-- What programs keep that are given, as bytes or as source text.
use Rattle.std.proofs.Common.{◌≡◌, ℕ, Bool, true, false, cond, List, [], Option, Some, None, Result, Ok, Err, refl, ap, subst, inl, inr}
use Rattle.std.specs.Prelude.{All, codes, is_ok, is_some}
use Rattle.std.specs.Str.{bytes_eq}
use Rattle.std.specs.Ordering.{nat_cmp}
use Rattle.std.specs.FinMap.{nat_cmp-IsAntisymmetric}
use Rattle.std.proofs.lemmas.List.Elements.{All-nil}
use Rattle.teal_value.specs.Answer.{◌>>=◌}
use Rattle.teal_value.proofs.Binding.{chosen}
use Rattle.teal_check.specs.declared.fault.CheckFault.{CheckFault}
use Rattle.teal_check.specs.WellFormed.{WellFormed, checked}
use Rattle.teal_asm.specs.Program.{assembled}
use Rattle.json.specs.Json.{Json}
use Rattle.json_documents.specs.declared.document_fault.DocumentFault.TheVariants.{Twice}
use Rattle.json_documents.specs.Faults.{Fault, here, in_step}
use Rattle.json_documents.specs.Steps.{at_name}
use Rattle.json_documents.specs.Members.{reject_unknown, required, optional}
use Rattle.json_documents.specs.Arrays.{each}
use Rattle.json_documents.specs.Placeholders.{is_source_of_placeholder}
use Rattle.json_documents.specs.Plain.{bytes, text, uint}
use Rattle.json_documents.specs.Programs.{checked_code, given_or, if_checked, on_source, program, program_of_source}
use Rattle.json_documents.specs.Sources.{Programs, Sources, field_named, index_of, no_sources, only_source, program_at, program_for, source as read_source, source_field, with_none, with_program, with_source, with_source_at}
use Rattle.json_documents.specs.Tables.{source_names}
use Rattle.json_laws.proofs.AcceptedSteps.{IsInherited, TypeIn, Gives, Keeps, each_keeps, from, needed_gives, same_value, without_step}
use Rattle.json_laws.proofs.AcceptedMaps.{all_inserted, found_keeps}

-- ---- one program

-- code that is accepted passes the checks, and is left as it is
pub is_checked_code : (code x : List ℕ) → checked_code code ≡ Ok x → (is_ok (checked code) ≡ true) × (code ≡ x)
is_checked_code code x e = by (checked code) refl e
  where
    by : (r : Result WellFormed CheckFault) → checked code ≡ r → if_checked code r ≡ Ok x → (is_ok (checked code) ≡ true) × (code ≡ x)
    by (Ok w) is e = (ap is_ok is, same_value code x e)
    by (Err f) is e = absurd cc

-- a program that was read from bytes passes the checks
pub given_program : (j : Json) (code : List ℕ) → program j ≡ Ok code → is_ok (checked code) ≡ true
given_program j code e = from (bytes j) _ code e (λ s es e1. let p = is_checked_code s code e1 in subst (λ t. is_ok (checked t) ≡ true) p.1 p.0)

pub source_program : (s code : List ℕ) → program_of_source s ≡ Ok code → is_ok (checked code) ≡ true
source_program s code e = from (on_source (assembled s)) _ code e (λ t et e1. let p = is_checked_code t code e1 in subst (λ t. is_ok (checked t) ≡ true) p.1 p.0)

-- ---- sources

-- what source text that holds Q gives keeps P
abbrev pub TextsGive : (Json → Type 0) → (List ℕ → Type 0) → Type 0
TextsGive Q P = (j : Json) (s code : List ℕ) → Q j → text j ≡ Ok s → program_of_source s ≡ Ok code → P code

-- programs by their numbers, each of which keeps P
abbrev pub AreEach : (List ℕ → Type 0) → Programs → Type 0
AreEach P programs = All (λ e. P e.1) programs

-- sources whose programs keep P
pub record AreSources (P : List ℕ → Type 0) (s : Sources) : Type 0 where
  pub approvals : AreEach P s.approvals
  pub clears : AreEach P s.clears
  pub call_approvals : AreEach P s.call_approvals
  pub call_clears : AreEach P s.call_clears

-- where there are no sources, each of their programs keeps P
pub none_are : (P : List ℕ → Type 0) → AreSources P no_sources
none_are P = let none = All-nil (λ (e : ℕ × List ℕ). P e.1) in record { approvals = none; clears = none; call_approvals = none; call_clears = none }

one_more : (P : List ℕ → Type 0) (programs : Programs) (n : ℕ) (code : List ℕ) → AreEach P programs → P code → AreEach P (with_program programs n code)
one_more P programs n code are p = all_inserted nat_cmp (λ e. P e.1) nat_cmp-IsAntisymmetric n code programs p are

-- which program a source is
abbrev SourceField : Type 0
SourceField = TypeIn (field_named [])

with_one : (P : List ℕ → Type 0) (s : Sources) (name : List ℕ) (for : SourceField) (n : ℕ) (code : List ℕ) → field_named name ≡ Ok for → AreSources P s → P code → AreSources P (with_source_at s for n code)
with_one P s name for n code named are p =
    elim (chosen (bytes_eq name (codes "approv")) _ _ _ named) [
      | inl (is, one) ↦ subst (λ f. AreSources P (with_source_at s f n code)) (same_value _ for one)
          (record { approvals = one_more P s.approvals n code are.approvals p; clears = are.clears; call_approvals = are.call_approvals; call_clears = are.call_clears })
      | inr (not_it, e1) ↦ elim (chosen (bytes_eq name (codes "clearp")) _ _ _ e1) [
        | inl (is, one) ↦ subst (λ f. AreSources P (with_source_at s f n code)) (same_value _ for one)
            (record { approvals = are.approvals; clears = one_more P s.clears n code are.clears p; call_approvals = are.call_approvals; call_clears = are.call_clears })
        | inr (not_it, e2) ↦ elim (chosen (bytes_eq name (codes "apap")) _ _ _ e2) [
          | inl (is, one) ↦ subst (λ f. AreSources P (with_source_at s f n code)) (same_value _ for one)
              (record { approvals = are.approvals; clears = are.clears; call_approvals = one_more P s.call_approvals n code are.call_approvals p; call_clears = are.call_clears })
          | inr (not_it, e3) ↦ elim (chosen (bytes_eq name (codes "apsu")) _ _ _ e3) [
            | inl (is, one) ↦ subst (λ f. AreSources P (with_source_at s f n code)) (same_value _ for one)
                (record { approvals = are.approvals; clears = are.clears; call_approvals = are.call_approvals; call_clears = one_more P s.call_clears n code are.call_clears p })
            | inr (not_it, bad) ↦ absurd cc
          ]
        ]
      ]
    ]

only_one : (P : List ℕ → Type 0) (s x : Sources) (name : List ℕ) (for : SourceField) (n : ℕ) (source : List ℕ) → field_named name ≡ Ok for → AreSources P s → ((code : List ℕ) → program_of_source source ≡ Ok code → P code) → only_source s for n source ≡ Ok x → AreSources P x
only_one P s x name for n source named are gives e = by (is_some (program_at s for n)) e
  where
    by : (b : Bool) → cond b (Err (here Twice)) (in_step (at_name (codes "source")) (program_of_source source) >>= λ code. Ok (with_source_at s for n code)) ≡ Ok x → AreSources P x
    by true e = absurd cc
    by false e =
        from (in_step (at_name (codes "source")) (program_of_source source)) _ x e (λ code ec e1.
        subst (AreSources P) (same_value (with_source_at s for n code) x e1) (with_one P s name for n code named are (gives code (without_step _ (program_of_source source) code ec))))

given_or_by : (P : List ℕ → Type 0) (o : Option (List ℕ)) (member : Result (List ℕ) Fault) (code : List ℕ) → ((c : List ℕ) → o ≡ Some c → P c) → (member ≡ Ok code → P code) → given_or o member ≡ Ok code → P code
given_or_by P None member code found read e = read e
given_or_by P (Some c) member code found read e = subst P (same_value c code e) (found c refl)

-- a program that a source or a member gives
pub given_program_keeps : (P : List ℕ → Type 0) (programs : Programs) (n : ℕ) (member : Result (List ℕ) Fault) (code : List ℕ) → AreEach P programs → (member ≡ Ok code → P code) → given_or (program_for programs n) member ≡ Ok code → P code
given_program_keeps P programs n member code are read e = given_or_by P (program_for programs n) member code (λ c is. found_keeps P _ c programs is are) read e

-- a source says which program it is by a name
is_named : (j : Json) (for : SourceField) → source_field j ≡ Ok for → (name : List ℕ) × (field_named name ≡ Ok for)
is_named j for e = from (text j) _ for e (λ name en e1. (name, e1))

module _ {Q : Json → Type 0} (inherited : IsInherited Q) where
  source_kept : (P : List ℕ → Type 0) → TextsGive Q P → Keeps Q (AreSources P) with_source
  source_kept P gives s j x q are e =
      from (reject_unknown source_names j) _ x e (λ u eu e1.
      from (optional (codes "app-index") uint 0 j) _ x e1 (λ app ea e2.
      from (required (codes "field-name") source_field j) _ x e2 (λ for ef e3.
      from (required (codes "source") text j) _ x e3 (λ source es e4.
      from (optional (codes "txn-index") uint 0 j) _ x e4 (λ txn et e5.
      let named = needed_gives inherited (λ f. (name : List ℕ) × (field_named name ≡ Ok f)) (codes "field-name") source_field (λ k f qk is. is_named k f is) j for q ef in
      only_one P s x named.0 for (index_of for app txn) source named.1 are (needed_gives inherited (λ t. (code : List ℕ) → program_of_source t ≡ Ok code → P code) (codes "source") text (λ k t qk ek code ec. gives k t code qk ek ec) j source q es) e5)))))

  -- where source texts give programs that keep P, the sources that were read have such programs
  pub sources_kept : (P : List ℕ → Type 0) (there : Bool) → TextsGive Q P → Gives Q (AreSources P) (each (read_source there) no_sources)
  sources_kept P there gives = each_keeps inherited (AreSources P) (read_source there) no_sources (λ s j x q are e. by s j x q are (is_source_of_placeholder there j) e) (none_are P)
    where
      by : (s : Sources) (j : Json) (x : Sources) → Q j → AreSources P s → (b : Bool) → cond b (Ok (with_none s)) (with_source s j) ≡ Ok x → AreSources P x
      by s j x q are true e = subst (AreSources P) (same_value (with_none s) x e) (record { approvals = are.approvals; clears = are.clears; call_approvals = are.call_approvals; call_clears = are.call_clears })
      by s j x q are false e = source_kept P gives s j x q are e
