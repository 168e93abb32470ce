use Rattle.std.proofs.Common.{◌≡◌, ◌++◌, take}
use Rattle.jl_config.specs.MemberRows.{provided_by}
use Rattle.jl_config.proofs.provisions.push_provisions.Given as goal

abbrev pub invariant-loop-entry : goal.invariant-loop-entry
invariant-loop-entry l = l.all.items ≡ l.fn.all.items ++ provided_by l.place (take l.entry-index l.entries)
