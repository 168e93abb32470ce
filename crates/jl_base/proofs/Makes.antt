-- What the parts of a class come to, one behind the other.
use Rattle.std.proofs.Common.{◌≡◌, Result, Ok, Err, IsTrue, refl, subst}
use Rattle.std.specs.Prelude.{is_ok}
use Rattle.std.proofs.lemmas.Bool.{false≢true}
use Rattle.jl_class.specs.Classes.{Class}
use Rattle.jl_classw.specs.declared.fault.WriteFault.{WriteFault}
use Rattle.jl_classw.specs.declared.fault.WriteFault.TheVariants as faults
use Rattle.jl_classw.specs.Faults.{told}
use Rattle.jl_logic.specs.Answers.{Fails}
use Rattle.jl_classw.specs.Building.{Making}
use Rattle.jl_base.specs.Rows.{Row}
use Rattle.jl_reading.specs.Reading.{◌>>=◌}
use Rattle.jl_base.specs.Made.{class_named, class_begun, class_made, with_interfaces, with_members}
use Rattle.jl_base.specs.Ready.{is_ready, if_made, may_add_all}
use Rattle.jl_base.proofs.Conditions.{ready_by}

pub begun_is : (row : Row) (b : Making) → class_named row ≡ Ok b → class_begun row ≡ with_interfaces b row.interfaces
unfolding class_begun
begun_is row b e = rw e refl

pub made_is : (row : Row) (b : Making) → class_begun row ≡ Ok b → class_made row ≡ (with_members b row.members >>= λ whole. Ok whole.class)
unfolding class_made
made_is row b e = rw e refl

pub filled_at : (row : Row) (b : Making) → class_begun row ≡ Ok b → IsTrue (is_ready row) → IsTrue (may_add_all b row.members)
filled_at row b e h = subst (λ begun. IsTrue (if_made (λ a. may_add_all a row.members) begun)) e (ready_by row h).filled

pub no_fault : (row : Row) (fault : WriteFault) → IsTrue (is_ready row) → class_made row ≡ Err fault → ⊥
no_fault row fault h e = false≢true (subst (λ (made : Result Class WriteFault). IsTrue (is_ok made)) e (ready_by row h).made)

-- What fails goes on to fail.
pub fails_on : (e : WriteFault) (r : Result Making WriteFault) (f : Making → Result Class WriteFault) → Fails told e r → Fails told e (r >>= f)
fails_on (faults.TooMany table) r f h = rw h refl
fails_on faults.NoMemory r f h = tt
