-- Declared frames in the order of their places.
use Rattle.std.specs.Prelude.{List}
use Rattle.std.specs.Ordering.{nat_cmp}
use Rattle.std.specs.declared.cmp.Ordering.{Ordering}
use Rattle.jl_logic.specs.Order.{RisesBy}
use Rattle.jl_verify.specs.declared.declared_frame.DeclaredFrame.{DeclaredFrame}

abbrev pub offset_cmp : DeclaredFrame → DeclaredFrame → Ordering
offset_cmp x y = nat_cmp x.offset y.offset

-- each frame is declared for a lower place than all after it
abbrev pub PlacesRise : List DeclaredFrame → Type 0
PlacesRise = RisesBy offset_cmp
