use Rattle.std.proofs.Common.{length}
use Rattle.jl_natives.proofs.kinds.+fits.Given as goal

abbrev pub decreases-fits : goal.decreases-fits
decreases-fits l = length l.kinds.now
