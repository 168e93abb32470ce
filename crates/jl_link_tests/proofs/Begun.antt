-- That a world may begin with no class (JVMS 5.3.1).
use Rattle.std.proofs.Common.{◌≡◌, ℕ, List, [], IsTrue, refl, sym, subst, arith}
use Rattle.jl_class.specs.Classes.{Class}
use Rattle.jl_loads.specs.Beginning.{IsBegin, stand_in_order}

none_in_order : IsTrue (stand_in_order [] [])
unfolding stand_in_order
none_in_order = refl

pub no_class : (packages : List (List ℕ)) (cs : List Class) → cs ≡ [] → IsBegin packages cs
no_class packages cs e = subst (λ (k : List Class). IsBegin packages k) (sym e) (record { order = none_in_order; apart = tt; inside = refl; few = omega arith })
