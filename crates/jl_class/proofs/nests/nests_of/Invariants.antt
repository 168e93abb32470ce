use Rattle.std.proofs.Common.{◌≡◌}
use Rattle.jl_classfile.specs.Attributes.{first_that}
use Rattle.jl_class.specs.Reading.{host_in, members_in, permits_in}
use Rattle.jl_class.proofs.nests.nests_of.Given as goal

abbrev pub invariant-loop-attribute : goal.invariant-loop-attribute
invariant-loop-attribute l = record {
  host : l.host ≡ first_that host_in l.yielded;
  members : l.members ≡ first_that members_in l.yielded;
  permits : l.permits ≡ first_that permits_in l.yielded;
}
