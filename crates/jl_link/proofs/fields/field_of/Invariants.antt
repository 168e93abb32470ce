use Rattle.jl_link.specs.Members.{wanted}
use Rattle.jl_link.specs.Searching.{Searches}
use Rattle.jl_link.proofs.fields.field_of.Given as goal

abbrev pub invariant-looking : goal.invariant-looking
invariant-looking l = Searches l.loads (wanted l.name l.desc) l.fn.c l.steps.items l.vain.items
