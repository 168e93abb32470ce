-- What attributes declare together, from the last to the first.
use Rattle.std.proofs.Common.{◌≡◌, List, [], ◌∷◌, ◌++◌, None, refl, ap, ◌∙◌}
use Rattle.jl_modinfo.specs.declared.attribute.FileParts.{FileParts}
use Rattle.jl_modinfo.specs.declared.attribute.Part.{Part}
use Rattle.jl_modinfo.specs.declared.attribute.Part.TheVariants as parts
use Rattle.jl_modinfo.specs.Reading.{before, attributes_in}

-- the attributes before others
abbrev pub all_before : List Part → FileParts → FileParts
all_before [] behind = behind
all_before (v ∷ vs) behind = before v (all_before vs behind)

abbrev pub nothing : FileParts
nothing = record { «module» = None; packages = None; main = None }

first_in : (v : Part) (vs : List Part) → before v (attributes_in vs) ≡ attributes_in (v ∷ vs)
first_in (parts.Module m) vs = refl
first_in (parts.Packages packages) vs = refl
first_in (parts.MainClass class) vs = refl

pub before_nothing : (vs : List Part) → all_before vs nothing ≡ attributes_in vs
before_nothing [] = refl
before_nothing (v ∷ vs) = ap (before v) (before_nothing vs) ∙ first_in v vs

pub last_before : (vs : List Part) (v : Part) (behind : FileParts) → all_before (vs ++ v ∷ []) behind ≡ all_before vs (before v behind)
last_before [] v behind = refl
last_before (x ∷ xs) v behind = ap (before x) (last_before xs v behind)
