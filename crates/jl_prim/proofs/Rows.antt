-- Which texts name a module, on worked rows.
use Rattle.std.proofs.Common.{◌≡◌, [], true, false, codes, refl}
use Rattle.jl_prim.specs.Names.{names_a_module}

a_module : names_a_module (codes "java.base") ≡ true
a_module = refl

with_a_blank : names_a_module (codes "a b") ≡ false
with_a_blank = refl

with_a_slash : names_a_module (codes "a/b") ≡ false
with_a_slash = refl

empty : names_a_module [] ≡ false
empty = refl
