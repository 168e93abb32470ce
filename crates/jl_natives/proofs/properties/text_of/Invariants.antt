use Rattle.std.proofs.Common.{◌≡◌, drop}
use Rattle.jl_natives.specs.Outside.{text_named}
use Rattle.jl_natives.proofs.properties.text_of.Given as goal

abbrev pub invariant-loop-key : goal.invariant-loop-key
invariant-loop-key l = text_named l.name (drop l.key-index l.list) ≡ text_named l.name l.list
