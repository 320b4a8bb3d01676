use Rattle.tasks.proofs.Place.{earlier_start}
use Rattle.tasks.proofs.places.count_earlier.Goals as goal

pub loop-j-init : goal.loop-j-init
loop-j-init c = earlier_start _ _
