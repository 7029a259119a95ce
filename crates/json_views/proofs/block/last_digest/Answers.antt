use Rattle.std.proofs.Common.{◌∙◌}
use Rattle.avm_block.specs.BlockEncoding.{body_bytes}
use Rattle.json_views.proofs.BlockEnds.{digest_at_end}
use Rattle.json_views.proofs.block.last_digest.Goals as goal

pub returns : goal.returns
returns c = c.copy_from_slice.ensures.after ∙ c.split_at.ensures.back ∙ digest_at_end (body_bytes c.args.block.now) c.args.bytes.now c.requires
