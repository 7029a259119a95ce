use Rattle.avm_stepper.proofs.viewing.view_at.Goals as goal

pub returns : goal.returns
returns c = λ i. record {
  place = (c.in_ok-place.ensures i).place;
  next = (c.in_ok-place.ensures i).next;
  stack = (c.in_ok-place.ensures i).stack;
  scratch = (c.in_ok-place.ensures i).scratch;
  uint_constants = c.uint_constants.ensures i;
  byte_constants = c.byte_constants.ensures i;
  global_changes = c.in_ok-global_changes.ensures i;
  local_changes = c.in_ok-local_changes.ensures i;
}
