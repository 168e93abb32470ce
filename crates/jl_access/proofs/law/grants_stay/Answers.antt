use Rattle.jl_access.proofs.Staying.{classes_stay, reflection_stays, deep_stays, services_stay, changes_stay}
use Rattle.jl_access.proofs.law.grants_stay.Goals as goal

pub returns : goal.returns
returns c = record {
  classes = λ f g from to public grows. classes_stay f g from to public grows;
  reflection = λ f g from to public a grows. reflection_stays f g from to public grows a;
  deep = λ f g from to public a grows. deep_stays f g from to public grows a;
  services = λ f g from service grows. services_stay f g from grows service;
  changes = λ f g from to opens grows. changes_stay f g from grows to opens;
}
