use Rattle.std.proofs.Common.{◌≡◌, ◌∙◌, ap, sym, Some, rules}
use Rattle.mv_parts.specs.CallHistory.{CallEntry}
use Rattle.mv_parts.specs.CallNumbers.{call_of}
use Rattle.mv_parts.proofs.sealing.is_made_of.Goals as goal

pub returns-in-Some : goal.returns-in-Some
returns-in-Some c = (
  (λ same. record {
    timestamp = c.if-made-entry.false ∙ ap (λ (e : CallEntry). e.timestamp) c.entry.view_is;
    call = ap (λ (e : CallEntry). call_of c.args.calls.now e.number) (sym c.entry.view_is) ∙ sym c.in-Some.ensures ∙ ap Some (sym c.fields-in-Some.ensures.fields ∙ sym (c.is_same.ensures.0 same) ∙ c.fields.ensures.fields);
    outcome = c.if-not-is_same_outcome.ensures.0 (search rules) ∙ ap (λ (e : CallEntry). e.outcome) c.entry.view_is;
    keeps_rules = c.fields.ensures.checked;
  }),
  (λ is.
      let found : Some c.in-Some.call.now ≡ Some c.args.made.now.call = c.in-Some.ensures ∙ ap (λ (e : CallEntry). call_of c.args.calls.now e.number) c.entry.view_is ∙ is.call in
      let same : c.in-Some.call.now ≡ c.args.made.now.call = cc in
      c.is_same.ensures.1 (c.fields.ensures.fields ∙ sym same ∙ sym c.fields-in-Some.ensures.fields)),
)
