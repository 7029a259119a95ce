use Rattle.std.proofs.Common.{◌≡◌, ◌+◌, ◌<◌, ◌≤◌, length, drop, take, Result, Ok, Err, Option, Some, None, refl, sym, ap, ◌∙◌, arith}
use Rattle.std.proofs.lemmas.List.Elements.{All-nil, All-push}
use Rattle.teal_text.specs.declared.fault.TextFaultKind.{TextFaultKind}
use Rattle.teal_text.specs.declared.scan.FirstToken.{FirstToken}
use Rattle.teal_text.specs.Tokens.{blank_len, first_token, LiesWithin}
use Rattle.teal_text.specs.Lines.{on_line}
use Rattle.teal_text.proofs.Reading.{starts, is_done, is_refused, goes_on}
use Rattle.teal_text.proofs.line.tokens_of.Goals as goal

found : Option FirstToken → Result (Option FirstToken) TextFaultKind
found o = Ok o

pub loop-token-init : goal.loop-token-init
loop-token-init c = record {
  low = omega arith;
  high = refl;
  within = rw c.clear.ensures.items (All-nil _);
  reads = rw c.clear.ensures.items (starts c.args.place c.args.line.now _ refl);
}

pub returns-in-Ok-None-clause-value : goal.returns-in-Ok-None-clause-value
returns-in-Ok-None-clause-value c =
    let at = c.loop-token in
    let e : first_token at.base64 (drop (blank_len at.rest.now) at.rest.now) ≡ Ok None = rw (← c.blank_len-gap.ensures.value, ← c.split_at.ensures.back) (sym c.first_token.ensures.value ∙ c.in-Ok-None.is ∙ ap (λ (o : Option FirstToken). Ok o) c.in-Ok-None.field-0-is) in
    ap (on_line c.args.number) (is_done _ at.base64 at.start at.rest.now _ at.invariant.reads e)

pub returns-in-Err-clause-value : goal.returns-in-Err-clause-value
returns-in-Err-clause-value c =
    let at = c.loop-token in
    let e : first_token at.base64 (drop (blank_len at.rest.now) at.rest.now) ≡ Err c.in-Err.kind = rw (← c.blank_len-gap.ensures.value, ← c.split_at.ensures.back) (sym c.first_token.ensures.value ∙ c.in-Err.is) in
    ap (on_line c.args.number) (is_refused _ at.base64 at.start at.rest.now _ c.in-Err.kind at.invariant.reads e)

pub loop-token-preserved : goal.loop-token-preserved
loop-token-preserved c =
    let at = c.loop-token in
    let t = c.in-Ok-Some.token in
    let gap = c.blank_len-gap.ensures.value in
    let here = drop (blank_len at.rest.now) at.rest.now in
    let e : first_token at.base64 here ≡ Ok (Some t) = rw (← gap, ← c.split_at.ensures.back) (sym c.first_token.ensures.value ∙ c.in-Ok-Some.is ∙ ap (λ (o : Option FirstToken). Ok o) c.in-Ok-Some.field-0-is) in
    let text : c.split_at-in-loop-token.result.0.now ≡ take t.len here = rw (← gap, ← c.split_at.ensures.back) c.split_at-in-loop-token.ensures.front in
    let after : c.split_at-in-loop-token.result.1.now ≡ drop t.len here = rw (← gap, ← c.split_at.ensures.back) c.split_at-in-loop-token.ensures.back in
    let long = rw c.in-Ok-Some.field-0-is at c.in-Ok-Some.ensures.within in
    let shorter : t.len + c.blank_len-gap.result + length c.split_at-in-loop-token.result.1.now ≡ length at.rest.now = omega (arith, c.split_at.ensures.back_len, c.split_at-in-loop-token.ensures.back_len) in
    let lies : (c.args.place ≤ at.start + c.blank_len-gap.result) × (at.start + c.blank_len-gap.result < at.start + c.blank_len-gap.result + t.len) × (at.start + c.blank_len-gap.result + t.len ≤ c.args.place + length c.args.line.now) = (omega arith, omega (arith, long.0), omega arith) in
    record {
      low = omega arith;
      high = omega arith;
      within = rw c.in_ok-push.ensures.items (All-push (LiesWithin c.args.place (c.args.place + length c.args.line.now)) at.tokens.items (record { start = at.start + c.blank_len-gap.result; end = at.start + c.blank_len-gap.result + t.len; string = t.string }) at.invariant.within lies);
      reads = rw c.in_ok-push.ensures.items (goes_on at.tokens.items at.base64 at.start at.rest.now _ t (record { start = at.start + c.blank_len-gap.result; end = at.start + c.blank_len-gap.result + t.len; string = t.string }) c.announces_base64-base64.result (at.start + c.blank_len-gap.result + t.len) c.split_at-in-loop-token.result.1.now at.invariant.reads e
          (rw gap refl) (rw (text, after) at c.announces_base64-base64.ensures) (rw gap refl) after (omega (arith, long.0)));
    }
