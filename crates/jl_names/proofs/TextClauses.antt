-- The clauses of units_of, from the two laws of reading.
use Rattle.std.proofs.Common.{◌≡◌, ℕ, suc, ◌<◌, ◌++◌, length, arith, slice_index, List, [], ◌∷◌, Result, Ok, Err, ap, sym, ◌∙◌, subst}
use Rattle.std.specs.Prelude.{IfOk}
use Rattle.std.proofs.lemmas.List.{append-nil}
use Rattle.jl_logic.specs.Answers.{Gives}
use Rattle.jl_reading.specs.Reading.{IsBytes}
use Rattle.jl_names.specs.declared.fault.TextFault.{TextFault}
use Rattle.jl_names.specs.Text.{told, AreUnits, text_bytes, units_read}
use Rattle.jl_names.proofs.TextLaws.{units_found, units_again}

pub is_found : (bytes : List ℕ) (r : Result (List ℕ) TextFault) → IsBytes bytes → Gives told (λ units. units) r (units_read bytes) → IfOk r (λ units. AreUnits units × (text_bytes units ≡ bytes))
is_found bytes (Ok units) fits given = units_found bytes units fits given
is_found bytes (Err e) fits given = tt

pub is_only : (bytes units : List ℕ) (r : Result (List ℕ) TextFault) → AreUnits units → text_bytes units ≡ bytes → Gives told (λ us. us) r (units_read bytes) → Gives told (λ us. us) r (Ok units)
is_only bytes units r are spelled given = subst (λ read. Gives told (λ us. us) r read) (ap units_read (sym spelled) ∙ units_again units are) given

pub all_fit : (units : List ℕ) → ((i : ℕ) → slice_index units i < 65536) → AreUnits units
all_fit [] fits = tt
all_fit (u ∷ us) fits = (fits 0, all_fit us (λ i. fits (suc i)))

-- what was written is read again
pub written_back : (bytes rest units : List ℕ) → length rest < 1 → bytes ++ text_bytes rest ≡ text_bytes units → AreUnits units → units_read bytes ≡ Ok units
written_back bytes [] units short written are = ap units_read (sym (append-nil bytes) ∙ written) ∙ units_again units are
written_back bytes (u ∷ us) units short written are = absurd (omega arith)
