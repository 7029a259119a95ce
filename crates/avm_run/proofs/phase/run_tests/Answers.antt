use Rattle.std.proofs.Common.{◌≡◌, None, Ok, Err, refl, sym, ap, ◌∙◌, subst, rules}
use Rattle.avm_items.specs.Items.{value_in}
use Rattle.avm_call.specs.declared.outcome.Outcome.TheVariants.{Refused}
use Rattle.avm_items.specs.Asks.{answer_from}
use Rattle.avm_call.specs.Calls.{CallResult, admitted}
use Rattle.avm_run.specs.Progress.{IsOutcomeAt}
use Rattle.avm_run.proofs.Leading.{refused, asks_first, gone, no_path}
use Rattle.avm_run.proofs.phase.run_tests.Goals as goal

pub returns-in-Err-Refused : goal.returns-in-Err-Refused
returns-in-Err-Refused g c =
    let tests = rw c.in-Err-Refused.field-0-is at c.in-Err-Refused.ensures.tests in
    let call = c.args.call.now in
    let header = c.args.context.now.header.now in (
      record {
        same_reads = refl;
        definition = refused (value_in c.args.items) call header c.in-Err-Refused.why tests ∙ ap (λ w. Ok (Refused c.in-Err-Refused.why, w)) (sym c.new.ensures);
      },
      record { reached = None; last = no_path (value_in c.args.items) call header 0 (Ok (Err c.in-Err-Refused.why)) tests; outcome = tt },
      refl,
    )

pub returns-in-Err-Need : goal.returns-in-Err-Need
returns-in-Err-Need g c =
    let tests = rw c.in-Err-Need.field-0-is at c.in-Err-Need.ensures.tests in
    let call = c.args.call.now in
    let header = c.args.context.now.header.now in (
      record {
        same_reads = refl;
        follows = tt;
        definition = asks_first (value_in c.args.items) call header c.in-Err-Need.item tests;
        next = no_path (value_in c.args.items) call header 0 (Err c.in-Err-Need.item) tests;
      },
      refl,
    )

pub returns-in_ok-end-in-Ok-None : goal.returns-in_ok-end-in-Ok-None
returns-in_ok-end-in-Ok-None g c =
    let known = value_in c.args.items in
    let call = c.args.call.now in
    let header = c.args.context.now.header.now in
    let gone_row : c.in-Ok-None.field-0.row ≡ None = search rules in
    let tests : answer_from known (admitted call) ≡ Ok (Ok (record { id = c.in-Ok-None.field-0.id; row = None })) =
    c.in-Ok-None.ensures.tests ∙ (λ i. Ok (Ok (record { id = c.in-Ok-None.field-0.id; row = gone_row i }))) in (
      record { same_reads = refl; definition = gone known call header c.in-Ok-None.field-0.id tests ∙ ap (λ e. Ok e) (sym c.in_ok-end-in-Ok-None.ensures) },
      record {
        reached = None;
        last = no_path known call header 0 (Ok (Ok (record { id = c.in-Ok-None.field-0.id; row = None }))) tests;
        outcome = subst (λ o. IsOutcomeAt call.completion o None) (sym (ap (λ (e : CallResult). e.0) c.in_ok-end-in-Ok-None.ensures)) tt;
      },
      refl,
    )
