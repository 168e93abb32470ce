-- What a file declares can be written and read again (JVMS 4.7.25 to 4.7.27).
use Rattle.std.specs.Prelude.{ℕ, List}
use Rattle.jl_logic.specs.Lists.{AreDistinct}
use Rattle.jl_prim.specs.declared.declaration.Declaration.{Declaration}
use Rattle.jl_modinfo.specs.Info.{IsInfo}
use Rattle.jl_modinfo.specs.Writing.{AreClasses, KeepsRules}

-- A declaration that a file has, over found packages that are well-formed and distinct, keeps the rules under which writing gives it back.
abbrev pub FilesKeepRules : Type 0
FilesKeepRules = (bytes : List ℕ) (found : List (List ℕ)) (d : Declaration) → IsInfo bytes found d → AreClasses found → AreDistinct found → KeepsRules d
