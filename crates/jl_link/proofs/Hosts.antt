-- The host of a class that names one.
use Rattle.std.proofs.Common.{◌≡◌, sym, subst, Result, List, Option, Some}
use Rattle.std.specs.Prelude.{ℕ, IfOk}
use Rattle.jl_prim.specs.declared.numbers.ClassId.{ClassId}
use Rattle.jl_tree.specs.Files.{File}
use Rattle.jl_loads.specs.declared.end.LinkEnd.{LinkEnd}
use Rattle.jl_loads.specs.Worlds.{State, Loaded, class_at}
use Rattle.jl_link.specs.Nests.{host_of, host_in, host_named}

-- the host of a class is that of what the class declares
pub host_is : (files : List File) (at : ℕ) (s t : State) (c : ClassId) (x : Loaded) (named : Option (List ℕ)) (r : Result ClassId LinkEnd) → class_at s c ≡ Some x → x.declared.nest_host ≡ named
    → IfOk r (λ h. (t, h) ≡ host_named files at s c x named) → IfOk r (λ h. (t, h) ≡ host_of files at s c)
host_is files at s t c x named r e n h =
    subst (λ o. IfOk r (λ k. (t, k) ≡ host_in files at s c o)) (sym e) (subst (λ o. IfOk r (λ k. (t, k) ≡ host_named files at s c x o)) (sym n) h)
