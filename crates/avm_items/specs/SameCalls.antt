-- Calls that have some fields in common, in groups.
use Rattle.std.specs.Prelude.{◌≡◌}
use Rattle.avm_items.specs.declared.call_data.CallData.{CallData}

pub record HasSameTerms (a b : CallData) : Type 0 where
  pub sender : a.sender ≡ b.sender
  pub rekey_to : a.rekey_to ≡ b.rekey_to
  pub fee : a.fee ≡ b.fee
  pub first_valid : a.first_valid ≡ b.first_valid
  pub last_valid : a.last_valid ≡ b.last_valid
  pub lease : a.lease ≡ b.lease

pub record HasSameTarget (a b : CallData) : Type 0 where
  pub application : a.application ≡ b.application
  pub completion : a.completion ≡ b.completion
  pub global_schema : a.global_schema ≡ b.global_schema
  pub local_schema : a.local_schema ≡ b.local_schema

pub record HasSameLists (a b : CallData) : Type 0 where
  pub note : a.note ≡ b.note
  pub arguments : a.arguments ≡ b.arguments
  pub accounts : a.accounts ≡ b.accounts
  pub foreign_applications : a.foreign_applications ≡ b.foreign_applications
