-- Worked rows: the definitions on small files.
use Rattle.std.proofs.Common.{◌≡◌, ℕ, List, [], ◌∷◌, true, false, Ok, Err, refl, arith, inl, inr}
use Rattle.std.specs.Prelude.{codes}
use Rattle.jl_tables.specs.declared.fault.InfoFault.TheVariants as faults
use Rattle.jl_modinfo.specs.Reading.{front_at, zero_at}
use Rattle.jl_classfile.specs.Front as framing
use Rattle.jl_modinfo.specs.Longer.{LiesInContent}
use Rattle.jl_modinfo.specs.Rules.{keeps_base_rule}

abbrev front : List ℕ
front = 0xca ∷ 0xfe ∷ 0xba ∷ 0xbe ∷ 0 ∷ 3 ∷ 0 ∷ 53 ∷ []

front_read : front_at front ≡ Ok 8
unfolding front_at framing.front_at
front_read = refl

front_cut : front_at (0xca ∷ 0xfe ∷ 0xba ∷ 0xbe ∷ 0 ∷ 3 ∷ 0 ∷ []) ≡ Err (faults.Short 6)
unfolding front_at framing.front_at
front_cut = refl

front_old : front_at (0xca ∷ 0xfe ∷ 0xba ∷ 0xbe ∷ 0 ∷ 3 ∷ 0 ∷ 52 ∷ []) ≡ Err faults.BadVersion
unfolding front_at framing.front_at
front_old = refl

one_interface : zero_at (codes "interfaces") (9 ∷ 0 ∷ 1 ∷ []) 1 ≡ Err (faults.NotModule (codes "interfaces"))
unfolding zero_at
one_interface = refl

base_requires : keeps_base_rule (codes "java.base") (record { name = codes "a"; transitive = false; is_static = false } ∷ []) ≡ false
base_requires = refl

others_require_base : keeps_base_rule (codes "a") (record { name = codes "java.base"; transitive = true; is_static = true } ∷ []) ≡ true
others_require_base = refl

front_old_minor : front_at (0xca ∷ 0xfe ∷ 0xba ∷ 0xbe ∷ 0 ∷ 1 ∷ 0 ∷ 55 ∷ []) ≡ Ok 8
unfolding front_at framing.front_at
front_old_minor = refl

front_new_minor : front_at (0xca ∷ 0xfe ∷ 0xba ∷ 0xbe ∷ 0 ∷ 1 ∷ 0 ∷ 56 ∷ []) ≡ Err faults.BadVersion
unfolding front_at framing.front_at
front_new_minor = refl

-- ---- places in contents

in_a_content : LiesInContent (0 ∷ 0 ∷ 0 ∷ 1 ∷ 7 ∷ []) 4
in_a_content = record { at = 0; size = 1; is_length = refl; within = (omega arith, omega arith); whole = inl (omega arith) }

before_a_missing_one : LiesInContent (0 ∷ 0 ∷ 0 ∷ 1 ∷ []) 4
before_a_missing_one = record { at = 0; size = 1; is_length = refl; within = (omega arith, omega arith); whole = inr (omega arith, refl) }

at_the_start : LiesInContent (0 ∷ 0 ∷ 0 ∷ 1 ∷ 7 ∷ []) 0 → ⊥
at_the_start l = let low = l.within.0 in omega (arith, low)
