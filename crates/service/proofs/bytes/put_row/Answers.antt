-- Three numbers, one after the other. Assumes nothing.
use Rattle.service.proofs.ByteLaws.{row_put}
use Rattle.service.proofs.bytes.put_row.Goals as goal

pub returns : goal.returns
returns c =
    row_put c.args.out.now c.args.at c.args.releases c.args.ran c.args.left c.requires c.put_number.ensures c.put_number-2.ensures c.put_number-3.ensures
