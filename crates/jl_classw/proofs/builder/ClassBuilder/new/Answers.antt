use Rattle.std.proofs.Common.{◌≡◌, ◌≤◌, ℕ, List, [], ◌∷◌, length, Some, refl, arith}
use Rattle.jl_classw.specs.Building.{unless_empty}
use Rattle.jl_classw.proofs.builder.ClassBuilder.new.Goals as goal

there : (bytes : List ℕ) → 1 ≤ length bytes → unless_empty bytes ≡ Some bytes
there [] few = absurd (omega (arith, few))
there (byte ∷ bytes) few = refl

pub returns : goal.returns
returns c =
    let this = c.in_ok-this.ensures.name in
    let super = c.in_ok-super_name-in-len1-up.ensures.name in
    let some = there c.args.super_name.now c.in-len1-up.len_at_least in
    rw (some, ← super, ← this) c.begun-in-len1-up.ensures
