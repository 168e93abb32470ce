use Rattle.std.proofs.Common.{◌≡◌, take, flat_map}
use Rattle.jl_config.specs.ReadRows.{reads_in}
use Rattle.jl_config.proofs.reads.reads_of.Given as goal

abbrev pub invariant-loop-reading : goal.invariant-loop-reading
invariant-loop-reading l = l.reads.items ≡ flat_map (reads_in l.scene) (take l.reading-index l.readings)
