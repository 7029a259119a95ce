use Rattle.std.proofs.Common.{◌≡◌, ◌∙◌, ℕ, List, ◌++◌}
use Rattle.avm_call_codec.specs.CallEncoding.{lists_bytes, programs_bytes, target_bytes, terms_bytes}
use Rattle.teal_code.proofs.Appended.{at_first, goes_on}
use Rattle.avm_call_codec.proofs.writing.push_call.Goals as goal

four : (x y z w a b c d e : List ℕ) → b ≡ a ++ x → c ≡ b ++ y → d ≡ c ++ z → e ≡ d ++ w → e ≡ a ++ (((x ++ y) ++ z) ++ w)
four x y z w a b c d e p q r s = s ∙ at_first a ((x ++ y) ++ z) w d (r ∙ at_first a (x ++ y) z c (q ∙ at_first a x y b p))

pub returns-in_err-push_target-clause-kept : goal.returns-in_err-push_target-clause-kept
returns-in_err-push_target-clause-kept c = goes_on _ c.push_terms.new.bytes.items _ c.in_ok-push_terms.ensures.kept c.in_err-push_target.ensures.kept

pub returns-in_err-push_lists-clause-kept : goal.returns-in_err-push_lists-clause-kept
returns-in_err-push_lists-clause-kept c =
    let front = goes_on _ c.push_terms.new.bytes.items _ c.in_ok-push_terms.ensures.kept c.in_ok-push_target.ensures.kept in
    goes_on _ c.push_target.new.bytes.items _ front c.in_err-push_lists.ensures.kept

pub returns-in_err-push_programs-clause-kept : goal.returns-in_err-push_programs-clause-kept
returns-in_err-push_programs-clause-kept c =
    let front = goes_on _ c.push_terms.new.bytes.items _ c.in_ok-push_terms.ensures.kept c.in_ok-push_target.ensures.kept in
    let fronts = goes_on _ c.push_target.new.bytes.items _ front c.in_ok-push_lists.ensures.kept in
    goes_on _ c.push_lists.new.bytes.items _ fronts c.in_err-push_programs.ensures.kept

pub returns-clause-written : goal.returns-clause-written
returns-clause-written c =
    let call = c.args.call.now in
    four (terms_bytes call) (target_bytes call) (lists_bytes call) (programs_bytes call) _ _ _ _ _ c.in_ok-push_terms.ensures.written c.in_ok-push_target.ensures.written c.in_ok-push_lists.ensures.written c.in_ok-push_programs.ensures.written

pub returns-clause-kept : goal.returns-clause-kept
returns-clause-kept c =
    let front = goes_on _ c.push_terms.new.bytes.items _ c.in_ok-push_terms.ensures.kept c.in_ok-push_target.ensures.kept in
    let fronts = goes_on _ c.push_target.new.bytes.items _ front c.in_ok-push_lists.ensures.kept in
    goes_on _ c.push_lists.new.bytes.items _ fronts c.in_ok-push_programs.ensures.kept
