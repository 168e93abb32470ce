-- The built-in java.base (JLS 7.7, JVMS 4.7.25).
use Rattle.std.specs.Prelude.{ℕ, List, [], ◌∷◌, ◌++◌, map, None, codes, false}
use Rattle.jl_prim.specs.declared.declaration.Grant.{Grant}
use Rattle.jl_prim.specs.declared.declaration.Declaration.{Declaration}

-- the packages that it exports to all
abbrev pub exported_packages : List (List ℕ)
exported_packages = codes "java/lang"
    ∷ codes "java/lang/module"
    ∷ codes "java/lang/reflect"
    ∷ codes "java/util"
    ∷ codes "java/io"
    ∷ codes "java/nio/file"
    ∷ []

-- those that it has for itself
abbrev pub hidden_packages : List (List ℕ)
hidden_packages = codes "jdk/internal" ∷ []

abbrev pub to_all : List ℕ → Grant
to_all p = record { «package» = p; to = None }

-- It requires nothing.
abbrev pub base_declaration : Declaration
base_declaration = record {
  name = codes "java.base";
  is_open = false;
  version = None;
  required = [];
  exports = map to_all exported_packages;
  opens = [];
  uses = [];
  provides = [];
  packages = exported_packages ++ hidden_packages;
  main = None;
}
