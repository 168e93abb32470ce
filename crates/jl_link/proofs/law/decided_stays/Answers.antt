use Rattle.jl_link.proofs.Onwards.{RefersOn, onward_same, onward_onward, all_stand, passed_stand, failed_stand}
use Rattle.jl_link.proofs.Lasting.{refers_on}
use Rattle.jl_link.proofs.Deciding.{passed_again, failed_again, decided_again}
use Rattle.jl_link.proofs.FoundAgain.{found_again}
use Rattle.jl_link.proofs.Going.{anew_on}
use Rattle.jl_link.proofs.law.decided_stays.Goals as goal

pub returns : goal.returns
returns c =
    let refers : RefersOn = λ f g d i t sound more h. refers_on c.classes_stay.ensures c.loads_stay.ensures c.sound_stays.ensures c.grants_stay.ensures f g sound more d i t h in
    record {
      same = onward_same;
      onward = onward_onward;
      goes = anew_on c.loads_stay.ensures;
      refers = refers;
      anew = λ files at s d i t sound h. found_again c.classes_stay.ensures c.loads_stay.ensures c.sound_stays.ensures c.grants_stay.ensures s sound files at d i t h;
      stand = all_stand refers;
      decided = passed_stand refers;
      refused = failed_stand refers;
      passed = passed_again;
      failed = failed_again;
      again = decided_again;
    }
