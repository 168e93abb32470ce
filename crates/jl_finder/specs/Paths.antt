-- Paths, and names in order (`java.lang.module.ModuleFinder.of`).
use Rattle.std.specs.Prelude.{ℕ, List, [], ◌∷◌, ◌++◌, map, Bool, not, ◌&&◌, ◌||◌, ◌==◌, nat_eq, codes, if◌then◌else◌}
use Rattle.std.specs.List.{ends_with, filter_map, list_any}
use Rattle.std.specs.declared.cmp.Ordering.{Ordering}
use Rattle.std.specs.declared.cmp.Ordering.TheVariants.{Less, Equal, Greater}
use Rattle.jl_logic.specs.Order.{name_cmp}
use Rattle.jl_names.specs.Names.{is_slash}
use Rattle.jl_prim.specs.Names.{names_a_module}
use Rattle.jl_tree.specs.Files.{File}
use Rattle.jl_tree.specs.Listing.{below}

-- what is in a folder
abbrev pub path_in : List ℕ → List ℕ → List ℕ
path_in dir name = dir ++ 47 ∷ name

-- what lies below a folder, each file by the rest of its path
abbrev pub rests : List File → List ℕ → List (List ℕ)
rests files dir = filter_map (λ (f : File). below dir f.path) files

-- the file is below a folder of this one
abbrev pub is_nested : List ℕ → Bool
is_nested rest = list_any is_slash rest

-- what stands before each slash of a text
unfoldable pub fronts : List ℕ → List (List ℕ)
fronts [] = []
fronts (b ∷ bs) = if is_slash b then [] ∷ map (λ f. b ∷ f) (fronts bs) else map (λ f. b ∷ f) (fronts bs)

-- ---- endings

abbrev pub ends : List ℕ → List ℕ → Bool
ends text ending = ends_with nat_eq text ending

-- the name of an archive, by its end
abbrev pub is_archive : List ℕ → Bool
is_archive name = ends name (codes ".jar") || (ends name (codes ".jmod") || ends name (codes ".zip"))

-- the name of a class file
abbrev pub is_class_file : List ℕ → Bool
is_class_file name = ends name (codes ".class")

-- a folder that may be a package or lead to one
abbrev pub is_walked : List ℕ → Bool
is_walked name = names_a_module name && not (list_any (λ b. b == 46) name)

-- ---- names in order

abbrev pub by_order : {A : Type 0} → Ordering → A → A → A → A
by_order Less a b c = a
by_order Equal a b c = b
by_order Greater a b c = c

-- a name among names that rise, once
unfoldable pub put_name : List ℕ → List (List ℕ) → List (List ℕ)
put_name n [] = n ∷ []
put_name n (m ∷ ms) = by_order (name_cmp n m) (n ∷ m ∷ ms) (m ∷ ms) (m ∷ put_name n ms)

-- the names of a list in the order of their bytes, each once
unfoldable pub in_order : List (List ℕ) → List (List ℕ)
in_order [] = []
in_order (n ∷ ns) = put_name n (in_order ns)
