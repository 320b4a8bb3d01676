use mathlib.Core.Path.{◌∙◌}
use Rattle.service.proofs.ByteLaws.{low_put}
use Rattle.service.proofs.bytes.put_number.Goals as goal

pub returns : goal.returns
returns c = let a = c.args in low_put a.out.now a.at a.n c.requires (c.copy_from_slice.ensures.after ∙ c.to_le_bytes.ensures)
