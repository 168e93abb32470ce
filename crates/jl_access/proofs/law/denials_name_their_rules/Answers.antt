use Rattle.jl_access.specs.Verdicts.{class_conditions, member_conditions}
use Rattle.jl_access.proofs.Naming.{denied_first, reflection_first, deep_closed, deep_to_others, services_named, changes_named}
use Rattle.jl_access.proofs.law.denials_name_their_rules.Goals as goal

pub returns : goal.returns
returns c = record {
  classes = λ f from to public r. denied_first (class_conditions f from to public) r;
  members = λ a r. denied_first (member_conditions a.access a) r;
  reflection = reflection_first;
  deep_closed = deep_closed;
  deep_to_others = deep_to_others;
  services = services_named;
  changes = changes_named;
}
