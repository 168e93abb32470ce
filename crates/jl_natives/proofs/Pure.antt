-- Natives that the arguments decide never fail.
use Rattle.std.proofs.Common.{◌≡◌, ℕ, Result, Ok, Err, refl}
use Rattle.jl_natives.specs.declared.plain.Plain.{Plain}
use Rattle.jl_natives.specs.declared.native.NativeEnd.{NativeEnd}
use Rattle.jl_natives.specs.declared.native.NativeEnd.TheVariants.{Throws, Failed, NoMemory}
use Rattle.jl_natives.specs.Boxes.{faults_after}

-- no fault is counted where nothing failed
pub no_fault : (result : Result Plain NativeEnd) (n : ℕ) → (result ≡ Err Failed → ⊥) → n ≡ faults_after result n
no_fault (Ok v) n h = refl
no_fault (Err (Throws kind message)) n h = refl
no_fault (Err Failed) n h = absurd (h refl)
no_fault (Err NoMemory) n h = refl
