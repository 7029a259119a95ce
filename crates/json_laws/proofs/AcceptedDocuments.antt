-- What documents that are accepted keep.
use Rattle.std.proofs.Common.{◌≡◌, ℕ, ◌≤◌, true, List, [], length, Option, None, Ok, refl, subst, arith}
use Rattle.std.specs.Prelude.{All, codes, is_ok}
use Rattle.std.proofs.lemmas.List.Elements.{All-weaker}
use Rattle.teal_check.specs.WellFormed.{checked}
use Rattle.avm_ledger.specs.declared.header.Profile.TheVariants.{Three}
use Rattle.avm_block.proofs.CheckedCalls.{fields_fit}
use Rattle.avm_block.specs.BlockRoundTrip.{IsHeader}
use Rattle.avm_block.specs.Blocks.{most_calls}
use Rattle.avm_rule_laws.specs.Rules.{AreBytes, IsCallOfBytes}
use Rattle.json.specs.Json.{Json}
use Rattle.json_documents.specs.Members.{reject_unknown, optional}
use Rattle.json_documents.specs.Arrays.{each}
use Rattle.json_documents.specs.Plain.{uint}
use Rattle.json_documents.specs.Documents.{Document, Front, all_sources, document, front, ledger}
use Rattle.json_documents.specs.Placeholders.{has_placeholders}
use Rattle.json_documents.specs.Ids.{end_of_ids, next_id}
use Rattle.json_documents.specs.Sources.{Sources, no_sources, source, targets}
use Rattle.json_documents.specs.Tables.{document_names}
use Rattle.json_documents.specs.Transactions.{transactions}
use Rattle.json_laws.specs.Accepted.{IsAllowedCall, KeepsAllRules}
use Rattle.json_laws.specs.OfBytes.{IsDocumentOfBytes, IsLocalStateOfBytes, IsApplicationOfBytes}
use Rattle.json_laws.proofs.AcceptedSteps.{IsInherited, from, nothing_asked, optional_gives, same_value}
use Rattle.json_laws.proofs.AcceptedValues.{IsWholeAddress, word_in}
use Rattle.json_laws.proofs.AcceptedSources.{AreSources, given_program, source_program, sources_kept, none_are}
use Rattle.json_laws.proofs.AcceptedLedgers.{IsApplication, IsDraft, IsLocalState, IsNextId, ProgramsGive, draft_keeps_rules, ledger_kept, next_id_is}
use Rattle.json_laws.proofs.AcceptedCalls.{IsCall, Weakens, optional_calls_are, optional_calls_are_few}

-- ---- the members that are numbers

-- a header that a block may have, and a next id that may be
record IsFront (f : Front) : Type 0 where
  header : IsHeader f.header
  profile : f.header.profile ≡ Three
  next_id : IsNextId f.next_id

front_is : (j : Json) (x : Front) → front j ≡ Ok x → IsFront x
front_is j x e =
    from (optional (codes "latest-timestamp") uint 0 j) _ x e (λ latest le e1.
    from (optional (codes "max-life") uint 1000 j) _ x e1 (λ life fe e2.
    from (optional (codes "min-balance") uint 100000 j) _ x e2 (λ balance be e3.
    from (optional (codes "min-fee") uint 1000 j) _ x e3 (λ fee ee e4.
    from (optional (codes "next-id") next_id None j) _ x e4 (λ next ne e5.
    from (optional (codes "round") uint 0 j) _ x e5 (λ round re e6.
    subst IsFront (same_value (record {
      header = record { profile = Three; round = round; latest_timestamp = latest; min_fee = fee; min_balance = balance; max_life = life };
      next_id = next;
    }) x e6) (record {
      header = record {
        round = word_in (codes "round") 0 j round (omega arith) re;
        latest_timestamp = word_in (codes "latest-timestamp") 0 j latest (omega arith) le;
        min_fee = word_in (codes "min-fee") 1000 j fee (omega arith) ee;
        min_balance = word_in (codes "min-balance") 100000 j balance (omega arith) be;
        max_life = word_in (codes "max-life") 1000 j life (omega arith) fe;
      };
      profile = refl;
      next_id = optional_gives nothing_asked IsNextId (codes "next-id") next_id None tt (λ k o q is. next_id_is k o is) j next tt ne;
    })))))))

-- ---- documents

-- what is kept where programs keep P, and those of calls C
pub record IsAccepted (P C : List ℕ → Type 0) (x : Document) : Type 0 where
  pub next : Option ℕ
  pub is_next : IsNextId next
  pub ledger : IsDraft P (end_of_ids next) x.ledger
  pub header : IsHeader x.header
  pub profile : x.header.profile ≡ Three
  pub calls : All (IsCall C) x.calls
  pub few : length x.calls ≤ most_calls

pub document_is : {Q : Json → Type 0} (inherited : IsInherited Q) (P C : List ℕ → Type 0) → ProgramsGive Q P → Weakens P C → (j : Json) (x : Document) → Q j
    → ((sources : Sources) → all_sources (has_placeholders j) j ≡ Ok sources → AreSources P sources) → document j ≡ Ok x → IsAccepted P C x
document_is inherited P C programs weakens j x q give e =
    from (reject_unknown document_names j) _ x e (λ u eu e1.
    from (front j) _ x e1 (λ f ef e2.
    from (all_sources (has_placeholders j) j) _ x e2 (λ sources es e3.
    from (ledger (has_placeholders j) f.next_id sources j) _ x e3 (λ l el e4.
    from (optional (codes "txns") (transactions sources) [] j) _ x e4 (λ calls ec e5.
    from (targets sources l (length calls)) _ x e5 (λ v ev e6.
    let first = front_is j f ef in
    let are = give sources es in
    subst (IsAccepted P C) (same_value (record { ledger = l; header = f.header; calls = calls }) x e6) (record {
      next = f.next_id;
      is_next = first.next_id;
      ledger = ledger_kept inherited P programs sources are (has_placeholders j) f.next_id first.next_id j l q el;
      header = first.header;
      profile = first.profile;
      calls = optional_calls_are P C weakens sources are j calls ec;
      few = optional_calls_are_few sources j calls ec;
    })))))))

-- a program that passes the checks
abbrev pub IsProgram : List ℕ → Type 0
IsProgram code = is_ok (checked code) ≡ true

all_rules : (P C : List ℕ → Type 0) (x : Document) → ((code : List ℕ) → P code → IsProgram code) → IsAccepted P C x → KeepsAllRules x
all_rules P C x ok a = record {
  ledger = draft_keeps_rules P a.next x.ledger a.is_next ok a.ledger;
  header = a.header;
  profile = a.profile;
  calls = All-weaker (IsCall C) IsAllowedCall (λ c is. record { fields = fields_fit c is.keeps_rules is.sizes; rules = is.keeps_rules }) x.calls a.calls;
  few = a.few;
}

-- where programs are of bytes, all is
pub all_of_bytes : (P C : List ℕ → Type 0) (x : Document) → ((code : List ℕ) → P code → AreBytes code) → ((code : List ℕ) → C code → AreBytes code) → IsAccepted P C x → IsDocumentOfBytes x
all_of_bytes P C x p c a = record {
  ledger = record {
    applications = All-weaker (IsApplication P x.ledger.next_id) IsApplicationOfBytes (λ e is. record {
      row = record { creator = is.stored.creator.of_bytes; approval = p e.1.row.approval is.stored.approval; clear = p e.1.row.clear is.stored.clear };
      state = is.stored.state.of_bytes;
    }) x.ledger.applications a.ledger.applications;
    local_states = All-weaker (IsLocalState x.ledger.next_id x.ledger.applications) IsLocalStateOfBytes (λ e is. record { account = is.account; state = is.values }) x.ledger.local_states a.ledger.local_states;
  };
  calls = All-weaker (IsCall C) IsCallOfBytes (λ call is. record {
    fields = fields_fit call is.keeps_rules is.sizes;
    sender = is.sender;
    note = is.note;
    lease = is.lease;
    rekey_to = is.rekey_to;
    arguments = is.arguments;
    accounts = All-weaker IsWholeAddress (λ who. AreBytes who.0) (λ who whole. whole.of_bytes) call.accounts is.accounts;
    approval = c call.approval is.approval;
    clear = c call.clear is.clear;
  }) x.calls a.calls;
}

pub accepted_documents_keep_the_rules : (j : Json) (x : Document) → document j ≡ Ok x → KeepsAllRules x
accepted_documents_keep_the_rules j x e =
    all_rules IsProgram (λ s. Unit {0}) x (λ code p. p)
    (document_is nothing_asked IsProgram (λ s. Unit {0}) (record { as_bytes = λ k code q is. given_program k code is }) (record { of_bytes = λ s all. tt; of_programs = λ code p. tt }) j x tt
    (λ sources is. optional_gives nothing_asked (AreSources IsProgram) (codes "sources") (each (source (has_placeholders j)) no_sources) no_sources (none_are IsProgram)
    (sources_kept nothing_asked IsProgram (has_placeholders j) (λ k s code q ks is. source_program s code is)) j sources tt is) e)
