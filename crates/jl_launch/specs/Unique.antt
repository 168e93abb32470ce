-- Laws of this program: that a launch has one end and one text, neither more nor none.
use Rattle.std.specs.Prelude.{◌≡◌, ℕ, List}
use Rattle.jl_tree.specs.Files.{File}
use Rattle.jl_launch.specs.declared.end.LaunchEnd.{LaunchEnd}
use Rattle.jl_launch.specs.Launched.{Launched}

-- Two ends and texts of the same words over the same files are the same.
abbrev pub LaunchesOnce : Type 0
LaunchesOnce = (words : List (List ℕ)) (files : List File) (e f : LaunchEnd) (s t : List ℕ)
    → Launched words files e s → Launched words files f t → (e ≡ f) × (s ≡ t)

-- Words over files always have an end and a text.
abbrev pub LaunchesAlways : Type 0
LaunchesAlways = (words : List (List ℕ)) (files : List File) → (end : LaunchEnd) × (text : List ℕ) × Launched words files end text
