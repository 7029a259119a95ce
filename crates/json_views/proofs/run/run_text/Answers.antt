use Rattle.std.proofs.Common.{◌≡◌, ◌∙◌, ◌∷◌, [], codes, map, refl, string_bytes, subst}
use Rattle.std.proofs.lemmas.Result.{IfErr-weaker, IfOk-weaker, err_from_is_err_and}
use Rattle.json.specs.Token.{begin_object}
use Rattle.avm_call.specs.Replay.{replayed}
use Rattle.avm_input.specs.Shown.{draft_shown}
use Rattle.json_views.specs.CallTraces.{AddsTraces, IsTracesFailure, response_tokens}
use Rattle.json_views.specs.Documents.{member_tokens}
use Rattle.json_views.specs.Runs.{unrecorded_call}
use Rattle.json_views.specs.ShownLedgers.{shown_ledger}
use Rattle.json_views.proofs.FoundTraces.{of_parts, run_found, run_long, run_opens, run_refused}
use Rattle.json_views.proofs.Steps.{◌then◌}
use Rattle.json_views.proofs.run.run_text.Goals as goal
use Rattle.json_views.proofs.run.run_text.Goals.{After-put_response, After-text_within}

-- the ledger after the calls was written, as the first member
opens : (g : _) (c : After-put_response g) → c.put_ledger.new.out ≡ begin_object ∷ member_tokens ((codes "after", shown_ledger (replayed c.args.draft.base c.args.draft.header c.args.draft.calls.items)) ∷ [])
opens g c =
    let header = c.args.draft.header in
    let after : c.in_ok-after-2.after ≡ replayed c.args.draft.base header c.args.draft.calls.items = c.in_ok-after-2.ensures ∙ c.in_ok-after.ensures ∙ (λ i. replayed (c.into_ledger-ledger.ensures i) header (c.deref.ensures.value i)) in
    subst (λ a. c.put_ledger.new.out ≡ begin_object ∷ member_tokens ((codes "after", shown_ledger a) ∷ [])) after
    (run_opens c.in_ok-after-2.after c.new-out.result c.put_ledger.new.out c.new-out.ensures (c.in_ok-begin_object.ensures then c.in_ok-put_name.ensures then c.in_ok-put_ledger.ensures))

-- then the traces of the calls
written : (g : _) (c : After-text_within g) → AddsTraces response_tokens c.args.draft.base c.args.draft.header (map unrecorded_call c.args.draft.calls.items) c.put_ledger.new.out c.put_response.new.out
written g c =
    let header = c.args.draft.header in
    of_parts (λ l h calls. AddsTraces response_tokens l h (map unrecorded_call calls) c.put_ledger.new.out c.put_response.new.out) c.into_ledger-ledger.result c.args.draft.base header header c.deref-2.result.now c.args.draft.calls.items c.into_ledger-ledger.ensures refl
    c.deref-2.ensures.value c.in_ok-put_response.ensures.written

pub returns-in_err-put_response-clause-refused : goal.returns-in_err-put_response-clause-refused
returns-in_err-put_response-clause-refused g c =
    let header = c.args.draft.header in
    let opened = c.put_ledger.new.out in
    let p = err_from_is_err_and c.from_residual-in_err-put_response.result c.from_residual-in_err-put_response.ensures.1 in
    let why = c.in_err-put_response.field-0.0 in
    let failed = of_parts (λ l h calls. IsTracesFailure response_tokens l h (map unrecorded_call calls) opened why) c.into_ledger-ledger.result c.args.draft.base header header c.deref-2.result.now c.args.draft.calls.items c.into_ledger-ledger.ensures refl
    c.deref-2.ensures.value c.in_err-put_response.ensures.refused in
    rw (p.1, p.2) (run_refused (draft_shown c.args.draft) opened (opens g (goal.at.returns-in_err-put_response-clause-refused g c).After-put_response) _ failed)

pub returns-clause-found : goal.returns-clause-found
returns-clause-found g c =
    IfOk-weaker c.text_within.result _ _ (λ text within. run_found (draft_shown c.args.draft) c.put_ledger.new.out (opens g (goal.at.returns-clause-found g c).After-put_response) c.put_response.new.out (string_bytes text) (written g (goal.at.returns-clause-found g c).After-text_within) within) c.text_within.ensures.text

pub returns-clause-refused : goal.returns-clause-refused
returns-clause-refused g c =
    IfErr-weaker c.text_within.result _ _ (λ why long. run_long (draft_shown c.args.draft) c.put_ledger.new.out (opens g (goal.at.returns-clause-refused g c).After-put_response) c.put_response.new.out why (written g (goal.at.returns-clause-refused g c).After-text_within) long) c.text_within.ensures.refused
