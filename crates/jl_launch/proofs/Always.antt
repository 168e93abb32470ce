-- There is always an end and a text, since a resolution always has an answer.
use Rattle.std.proofs.Common.{◌≢◌, ℕ, List, refl, Result, Ok, Err}
use Rattle.std.specs.List.{concat}
use Rattle.jl_prim.specs.declared.declaration.Observed.{Observed}
use Rattle.jl_tree.specs.Files.{File}
use Rattle.jl_config.specs.declared.fault.ResolveFault.{ResolveFault}
use Rattle.jl_config.specs.declared.fault.ResolveFault.TheVariants as resolves
use Rattle.jl_config.specs.Configurations.{Configuration}
use Rattle.jl_config.specs.Laws.{ResolvesAlways}
use Rattle.jl_finder.specs.Observed.{observed}
use Rattle.jl_finder.specs.declared.fault.FindFault.{FindFault}
use Rattle.jl_words.specs.declared.fault.WordFault.{WordFault}
use Rattle.jl_launch.specs.declared.end.Refusal.TheVariants.{Find, Resolve}
use Rattle.jl_launch.specs.declared.end.LaunchEnd.{LaunchEnd}
use Rattle.jl_launch.specs.declared.end.LaunchEnd.TheVariants.{Done, Words, Refused}
use Rattle.jl_launch.specs.declared.words.Asked.{Asked}
use Rattle.jl_launch.specs.Words.{words_of}
use Rattle.jl_launch.specs.Text.{words_lines, refusal_lines, graph_lines}
use Rattle.jl_launch.specs.Launched.{IsRefused, IsPrinted, IsResolved, IsAnswer, boot}
use Rattle.jl_launch.specs.Unique.{LaunchesAlways}

-- an end and lines
abbrev Some_end : (LaunchEnd → List (List ℕ) → Type 0) → Type 0
Some_end P = (end : LaunchEnd) × (lines : List (List ℕ)) × P end lines

refused : (f : ResolveFault) → Some_end (IsRefused (Resolve f))
refused f = (Refused (Resolve f), refusal_lines (Resolve f), (refl, refl))

printed : (r : Result Configuration ResolveFault) → r ≢ Err resolves.NoMemory → Some_end (IsPrinted r)
printed (Ok g) told = (Done, graph_lines g, (refl, refl))
printed (Err resolves.NoParents) told = refused resolves.NoParents
printed (Err (resolves.NotFound name by)) told = refused (resolves.NotFound name by)
printed (Err resolves.TooMany) told = refused resolves.TooMany
printed (Err (resolves.Cycle least)) told = refused (resolves.Cycle least)
printed (Err (resolves.SameName r n)) told = refused (resolves.SameName r n)
printed (Err (resolves.SamePackage r h m n)) told = refused (resolves.SamePackage r h m n)
printed (Err (resolves.OwnPackage r h n)) told = refused (resolves.OwnPackage r h n)
printed (Err (resolves.ServicePackage m s)) told = refused (resolves.ServicePackage m s)
printed (Err resolves.NoMemory) told = absurd (told refl)

module _ (resolves_always : ResolvesAlways) where
  resolved : (roots : List (List ℕ)) (found : Result (List Observed) FindFault) → Some_end (IsResolved roots found)
  resolved roots (Err f) = (Refused (Find f), refusal_lines (Find f), (refl, refl))
  resolved roots (Ok found) =
      let r = resolves_always (boot found roots) in
      let p = printed r.0 r.2 in
      (p.0, p.1, (r.0, r.1, p.2))

  answered : (files : List File) (asked : Result Asked WordFault) → Some_end (IsAnswer files asked)
  answered files (Err f) = (Words f, words_lines f, (refl, refl))
  answered files (Ok asked) = resolved asked.roots (observed files asked.elements)

  pub launched_always : LaunchesAlways
  launched_always words files =
      let l = answered files (words_of words) in
      (l.0, concat l.1, (l.1, refl, l.2))
