use Rattle.std.proofs.Common.{◌∙◌, ap, Some}
use Rattle.jl_class.specs.Reading.{host_in, members_in, permits_in}
use Rattle.jl_class.proofs.NestLoops.{held_more, held_still}
use Rattle.jl_class.proofs.nests.nests_of.Goals as goal

pub loop-attribute-preserved-in-Host : goal.loop-attribute-preserved-in-Host
loop-attribute-preserved-in-Host c = record {
  host = c.or_first-host.ensures ∙ held_more host_in c.loop-attribute.yielded c.in-Some.attribute c.loop-attribute.host (Some c.in-Host.name) c.loop-attribute.invariant.host (ap host_in c.in-Host.is);
  members = held_still members_in c.loop-attribute.yielded c.in-Some.attribute c.loop-attribute.members c.loop-attribute.invariant.members (ap members_in c.in-Host.is);
  permits = held_still permits_in c.loop-attribute.yielded c.in-Some.attribute c.loop-attribute.permits c.loop-attribute.invariant.permits (ap permits_in c.in-Host.is);
}

pub loop-attribute-preserved-in-Members : goal.loop-attribute-preserved-in-Members
loop-attribute-preserved-in-Members c = record {
  host = held_still host_in c.loop-attribute.yielded c.in-Some.attribute c.loop-attribute.host c.loop-attribute.invariant.host (ap host_in c.in-Members.is);
  members = c.or_first-members.ensures ∙ held_more members_in c.loop-attribute.yielded c.in-Some.attribute c.loop-attribute.members (Some c.in-Members.names) c.loop-attribute.invariant.members (ap members_in c.in-Members.is);
  permits = held_still permits_in c.loop-attribute.yielded c.in-Some.attribute c.loop-attribute.permits c.loop-attribute.invariant.permits (ap permits_in c.in-Members.is);
}

pub loop-attribute-preserved-in-Record : goal.loop-attribute-preserved-in-Record
loop-attribute-preserved-in-Record c = record {
  host = held_still host_in c.loop-attribute.yielded c.in-Some.attribute c.loop-attribute.host c.loop-attribute.invariant.host (ap host_in c.in-Record.is);
  members = held_still members_in c.loop-attribute.yielded c.in-Some.attribute c.loop-attribute.members c.loop-attribute.invariant.members (ap members_in c.in-Record.is);
  permits = held_still permits_in c.loop-attribute.yielded c.in-Some.attribute c.loop-attribute.permits c.loop-attribute.invariant.permits (ap permits_in c.in-Record.is);
}

pub loop-attribute-preserved : goal.loop-attribute-preserved
loop-attribute-preserved c = record {
  host = held_still host_in c.loop-attribute.yielded c.in-Some.attribute c.loop-attribute.host c.loop-attribute.invariant.host (ap host_in c.in-Permits.is);
  members = held_still members_in c.loop-attribute.yielded c.in-Some.attribute c.loop-attribute.members c.loop-attribute.invariant.members (ap members_in c.in-Permits.is);
  permits = c.or_first-permits.ensures ∙ held_more permits_in c.loop-attribute.yielded c.in-Some.attribute c.loop-attribute.permits (Some c.in-Permits.names) c.loop-attribute.invariant.permits (ap permits_in c.in-Permits.is);
}
