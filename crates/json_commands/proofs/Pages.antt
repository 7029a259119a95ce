-- What is written of a page is the page.
use Rattle.std.proofs.Common.{◌≡◌, ◌∙◌, ℕ, ◌<◌, ◌≤◌, List, [], ◌∷◌, ◌++◌, length, length-append, codes, sym, ap, subst, append-nil, append_assoc, arith}
use Rattle.std.specs.Prelude.{replicate}
use Rattle.base64.specs.Engines.{standard}
use Rattle.base64.specs.GeneralPurpose.{IsBytes, encode_of}
use Rattle.base64.specs.Rfc4648.{encode_symbols, padding_len}
use Rattle.json.specs.Json.{Json}
use Rattle.json.specs.Layout.{pretty}
use Rattle.json.specs.Token.{Token, begin_object, end_object, key}
use Rattle.json.specs.Tree.{json_tokens}
use Rattle.teal_value.specs.declared.failure.Failure.{Failure}
use Rattle.teal_value.specs.declared.failure.Failure.TheVariants as failure
use Rattle.avm_ledger.specs.Ledgers.{Ledger}
use Rattle.avm_block.specs.Blocks.{Block}
use Rattle.avm_replay.specs.declared.verdict.Verdict.{Verdict}
use Rattle.avm_replay.proofs.Verdicts.{one_verdict}
use Rattle.json_views.specs.CallTraces.{AddsDocument, IsDocumentFailure}
use Rattle.json_views.specs.Documents.{Member, document_text, member_tokens, object_of}
use Rattle.json_views.specs.declared.refusal.TraceRefusal.{TraceRefusal}
use Rattle.json_views.specs.declared.refusal.TraceRefusal.TheVariants as refusal
use Rattle.json_views.specs.Traces.{IsBlockTrace}
use Rattle.json_views.specs.Weights.{most_text, tokens_weight}
use Rattle.json_views.specs.Writing.{Adds, AddsMembers}
use Rattle.json_views.proofs.FoundTraces.{one_block, one_entry, with_program}
use Rattle.json_views.proofs.Steps.{◌then◌}
use Rattle.json_views.proofs.TokenRuns.{members_behind}
use Rattle.json_views.proofs.Weights.{text_fits, weight-append}
use Rattle.json_commands.specs.declared.texts.TheConstants.{BEGINNING, END}
use Rattle.json_commands.specs.declared.traces.Traces.{Traces}
use Rattle.json_commands.specs.declared.traces.Traces.TheVariants.{All, Entry, LeftOut}
use Rattle.json_commands.specs.Pages.{IsPage, IsTooLong, IsTraceOf, framed, front_members, number_of, page_document, page_text}
use Rattle.json_commands.specs.Writing.{AddsFront, HasTraces, IsEndFailure, IsFinished, IsPageFailure, IsTraceFailure, framed_tokens, front_tokens}

-- ---- base64 takes no less

longer : (t m : List ℕ) → length m ≤ length (encode_symbols t m)
unfolding encode_symbols
longer t [] = omega arith
longer t (a ∷ []) = omega arith
longer t (a ∷ b ∷ []) = omega arith
longer t (a ∷ b ∷ c ∷ rest) = omega (arith, longer t rest)

pub framed_longer : (before bytes behind : List ℕ) → length bytes ≤ length (framed before bytes behind)
framed_longer before bytes behind =
    let t = standard.encode_table in
    omega (
      arith,
      longer t bytes,
      length-append before (encode_of standard bytes ++ behind),
      length-append (encode_of standard bytes) behind,
      length-append (encode_symbols t bytes) (replicate (padding_len (length bytes)) 61),
    )

-- ---- the tokens

-- members, the name of one more, its value, and the closing bracket
closed : (front : List Member) (trace : Json)
    → (begin_object ∷ (member_tokens front ++ key (codes "trace") ∷ [])) ++ (json_tokens trace ++ end_object ∷ []) ≡ json_tokens (object_of (front ++ (codes "trace", trace) ∷ []))
closed front trace =
    ap (λ ts. begin_object ∷ ts)
    (append_assoc (member_tokens front) (key (codes "trace") ∷ []) (json_tokens trace ++ end_object ∷ []) ∙ sym (members_behind front ((codes "trace", trace) ∷ [])))

-- ---- the front

-- a name, and its value
pub one_member : {old named new : List Token} {name : List ℕ} {value : Json} → Adds old named (key name ∷ []) → Adds named new (json_tokens value) → AddsMembers old new ((name, value) ∷ [])
one_member {old = old} {name = name} {value = value} names puts = record { is = (names then puts).is ∙ ap (λ ts. old ++ ts) (sym (append-nil (key name ∷ json_tokens value))) }

pub as_members : {old new : List Token} {members : List Member} → Adds old new (member_tokens members) → AddsMembers old new members
as_members adds = record { is = adds.is }

-- the opening bracket, members, and the name of one more
pub front_written : {old opened filled new : List Token} {members : List Member} {name : List ℕ} → Adds old opened (begin_object ∷ []) → AddsMembers opened filled members → Adds filled new (key name ∷ [])
    → Adds old new (begin_object ∷ (member_tokens members ++ key name ∷ []))
front_written {opened = opened} {filled = filled} {members = members} opens fills names =
    let filled_with : Adds opened filled (member_tokens members) = record { is = fills.is } in
    record { is = (opens then filled_with then names).is }

-- ---- there is one page

one_trace : (traces : Traces) (base : Ledger) (b : Block) (x y : Json) → IsTraceOf traces base b x → IsTraceOf traces base b y → x ≡ y
one_trace All base b x y is it = one_block base b x y is it
one_trace LeftOut base b x y is it = is ∙ sym it
one_trace (Entry number) base b x y is it = one_entry base b number x y is it

has_traces : (traces : Traces) (base : Ledger) (b : Block) (trace : Json) → IsTraceOf traces base b trace → HasTraces traces base b
has_traces All base b trace is = tt
has_traces LeftOut base b trace is = tt
has_traces (Entry number) base b trace is = with_program base b number trace is

-- ---- the traces

pub all_failed : (base : Ledger) (b : Block) (old : List Token) (why : Failure TraceRefusal) → IsDocumentFailure (IsBlockTrace base b) old why → IsTraceFailure All base b old why
all_failed base b old failure.Memory f = tt
all_failed base b old (failure.Fault refusal.TooLong) f = (tt, f)
all_failed base b old (failure.Fault (refusal.Opening fault)) f = absurd f

-- ---- the page

-- The front was written, and nothing before it.
module _ (traces : Traces) (base : Ledger) (b : Block) (start named : List Token) (none : start ≡ []) (front : AddsFront base b (number_of traces) start named) where
  abbrev document : Verdict → Json → Json
  document v trace = page_document base b (number_of traces) v trace

  named_is : named ≡ front_tokens base b (number_of traces) front.0
  named_is = front.2.is ∙ ap (λ ts. ts ++ front_tokens base b (number_of traces) front.0) none

  tokens_are : (trace : Json) → named ++ (json_tokens trace ++ end_object ∷ []) ≡ json_tokens (document front.0 trace)
  tokens_are trace = ap (λ ts. ts ++ (json_tokens trace ++ end_object ∷ [])) named_is ∙ closed (front_members base b (number_of traces) front.0) trace

  all_tokens : (traced closed : List Token) (trace : Json) → Adds named traced (json_tokens trace) → Adds traced closed (end_object ∷ []) → closed ≡ json_tokens (document front.0 trace)
  all_tokens traced closed trace wrote closes =
      closes.is ∙ ap (λ ts. ts ++ end_object ∷ []) wrote.is ∙ append_assoc named (json_tokens trace) (end_object ∷ []) ∙ tokens_are trace

  -- a page of the block is the text of what is written before its traces and of these
  page_is : (page : List ℕ) → (p : IsPage traces base b page) → page ≡ page_text (document front.0 p.trace)
  page_is page p = p.is ∙ ap (λ v. page_text (document v p.trace)) (one_verdict base b p.verdict front.0 p.judges front.1)

  too_long : ((trace : Json) → IsTraceOf traces base b trace → most_text < tokens_weight (named ++ json_tokens trace)) → IsTooLong traces base b
  too_long long page p =
      let shown = json_tokens p.trace in
      let all = document front.0 p.trace in
      omega (
        arith,
        long p.trace p.traced,
        weight-append named shown,
        weight-append named (shown ++ end_object ∷ []),
        weight-append shown (end_object ∷ []),
        ap tokens_weight (tokens_are p.trace),
        text_fits all,
        framed_longer BEGINNING.now (document_text all) END.now,
        ap length (page_is page p),
      )

  pub page_failed : (why : Failure TraceRefusal) → IsTraceFailure traces base b named why → IsPageFailure traces base b why
  page_failed failure.Memory f = tt
  page_failed (failure.Fault refusal.TooLong) (has, long) = (has, too_long long)
  page_failed (failure.Fault (refusal.Opening fault)) f = f

  pub page_found : (traced closed : List Token) (page : List ℕ) → AddsDocument (IsTraceOf traces base b) named traced → Adds traced closed (end_object ∷ []) → IsFinished closed page → IsPage traces base b page
  page_found traced closed page (trace, is, wrote) closes (text, bytes) =
      let tokens = all_tokens traced closed trace wrote closes in record {
        verdict = front.0;
        judges = front.1;
        trace = trace;
        traced = is;
        bytes = subst (λ ts. IsBytes (pretty ts ++ codes "\n")) tokens bytes;
        is = text ∙ ap framed_tokens tokens;
      }

  pub page_long : (traced closed : List Token) (why : Failure TraceRefusal) → AddsDocument (IsTraceOf traces base b) named traced → Adds traced closed (end_object ∷ []) → IsEndFailure closed why → IsPageFailure traces base b why
  page_long traced closed failure.Memory adds closes f = tt
  page_long traced closed (failure.Fault refusal.TooLong) (trace, is, wrote) closes f = (
    has_traces traces base b trace is,
    λ page p.
        let same : closed ≡ json_tokens (document front.0 p.trace) = all_tokens traced closed trace wrote closes ∙ ap (λ t. json_tokens (document front.0 t)) (one_trace traces base b trace p.trace is p.traced) in
        subst (λ q. most_text < length q) (ap framed_tokens same ∙ sym (page_is page p)) f,
  )
  page_long traced closed (failure.Fault (refusal.Opening fault)) adds closes f = absurd f
