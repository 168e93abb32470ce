use Rattle.jl_access.proofs.Staying.{grows_by_statement, grows_by_module, grows_onward, packages_stay, reads_stay, opened_stays, open_to_stays, exported_stays, exported_to_stays, open_to_all_stays, exported_to_all_stays, asked_open_stays, asked_exported_stays, uses_stay}
use Rattle.jl_access.proofs.law.facts_stay.Goals as goal

pub returns : goal.returns
returns c = record {
  stated = grows_by_statement;
  placed = grows_by_module;
  onward = grows_onward;
  packages = λ f g m p grows. packages_stay f g grows m p;
  reading = λ f g a b grows. reads_stay f g grows a b;
  opening = λ f g m p grows. opened_stays f g grows m p;
  opening_to = λ f g m p c grows. open_to_stays f g grows m p c;
  exporting = λ f g m p grows. exported_stays f g grows m p;
  exporting_to = λ f g m p c grows. exported_to_stays f g grows m p c;
  opening_to_all = λ f g m p grows. open_to_all_stays f g grows m p;
  exporting_to_all = λ f g m p grows. exported_to_all_stays f g grows m p;
  asking_of_openings = λ f g m p to grows. asked_open_stays f g grows m p to;
  asking_of_exports = λ f g m p to grows. asked_exported_stays f g grows m p to;
  using = λ f g m t grows. uses_stay f g grows m t;
}
