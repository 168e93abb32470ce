use Rattle.std.proofs.Common.{◌≡◌, take, Some}
use Rattle.jl_verify.specs.Declaring.{stated_items}
use Rattle.jl_verify.proofs.declaring.stated_items.Given as goal

abbrev pub invariant-loop-raw : goal.invariant-loop-raw
invariant-loop-raw l = stated_items l.pool (take l.raw-index l.raws) ≡ Some l.all.items
