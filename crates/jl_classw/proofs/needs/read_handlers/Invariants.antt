use Rattle.std.proofs.Common.{take}
use Rattle.std.specs.List.{AllByRecursion}
use Rattle.jl_class.specs.Spelling.{HandlerFits}
use Rattle.jl_classw.proofs.needs.read_handlers.Given as goal

abbrev pub invariant-loop-handler : goal.invariant-loop-handler
invariant-loop-handler l = AllByRecursion HandlerFits (take l.handler-index l.handlers)
