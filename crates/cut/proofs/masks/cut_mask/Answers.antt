-- From the eighth bit on there is none, and below it 2 ^ k fits a byte. Assumes nothing.
use Rattle.cut.proofs.MaskLaws.{mask_whole, mask_low}
use borrow.Author.Rules.{rules}
use Rattle.cut.proofs.masks.cut_mask.Goals as goal

pub returns-then-k-ge8 : goal.returns-then-k-ge8
returns-then-k-ge8 c = mask_whole c.args.k c.args.mask (search rules) c.if-k-ge8.true

pub returns : goal.returns
returns c = mask_low c.args.k c.args.mask c.if-k-ge8.false
