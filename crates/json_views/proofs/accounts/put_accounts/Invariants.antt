use Rattle.std.proofs.Common.{◌≡◌, ◌++◌, map}
use Rattle.json.specs.Tree.{json_tokens}
use Rattle.json_views.specs.Accounts.{local_of, locals_name, shown_local}
use Rattle.json_views.specs.ShownLedgers.{shown_accounts}
use Rattle.json_views.proofs.AccountRuns.{remaining}
use Rattle.json_views.proofs.accounts.put_accounts.Given as goal

-- what is written, and what is to be written of the local states that are left, are the accounts
abbrev pub invariant-loop-key : goal.invariant-loop-key
invariant-loop-key l = l.out ++ remaining locals_name shown_local l.current (map local_of l.key-iterator) ≡ l.fn.out ++ json_tokens (shown_accounts l.ledger)
