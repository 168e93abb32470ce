use Rattle.std.proofs.Common.{◌≡◌, take}
use Rattle.std.specs.List.{list_all}
use Rattle.jl_modinfo.specs.Layout.{is_short_constant}
use Rattle.jl_modinfo.proofs.writable.are_short.Given as goal

abbrev pub invariant-loop-constant : goal.invariant-loop-constant
invariant-loop-constant l = l.fine ≡ list_all is_short_constant (take l.constant-index l.constants)
