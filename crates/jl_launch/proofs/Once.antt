-- A launch has one end and one text.
use Rattle.std.proofs.Common.{◌≡◌, ◌≢◌, ℕ, List, sym, ◌∙◌, ap, subst, Result, Ok, Err}
use Rattle.std.specs.List.{concat}
use Rattle.jl_prim.specs.declared.declaration.Observed.{Observed}
use Rattle.jl_tree.specs.Files.{File}
use Rattle.jl_config.specs.declared.fault.ResolveFault.{ResolveFault}
use Rattle.jl_config.specs.declared.fault.ResolveFault.TheVariants as resolves
use Rattle.jl_config.specs.Configurations.{Configuration}
use Rattle.jl_config.specs.Laws.{ResolvesOnce}
use Rattle.jl_finder.specs.Observed.{observed}
use Rattle.jl_finder.specs.declared.fault.FindFault.{FindFault}
use Rattle.jl_words.specs.declared.fault.WordFault.{WordFault}
use Rattle.jl_launch.specs.declared.end.LaunchEnd.{LaunchEnd}
use Rattle.jl_launch.specs.declared.words.Asked.{Asked}
use Rattle.jl_launch.specs.Words.{words_of}
use Rattle.jl_launch.specs.Launched.{IsPrinted, IsResolved, IsAnswer, boot}
use Rattle.jl_launch.specs.Unique.{LaunchesOnce}

same_printed : (a : Result Configuration ResolveFault) (e f : LaunchEnd) (ls ms : List (List ℕ)) → IsPrinted a e ls → IsPrinted a f ms → (e ≡ f) × (ls ≡ ms)
same_printed (Ok g) e f ls ms p q = (p.0 ∙ sym q.0, p.1 ∙ sym q.1)
same_printed (Err resolves.NoParents) e f ls ms p q = (p.0 ∙ sym q.0, p.1 ∙ sym q.1)
same_printed (Err (resolves.NotFound name by)) e f ls ms p q = (p.0 ∙ sym q.0, p.1 ∙ sym q.1)
same_printed (Err resolves.TooMany) e f ls ms p q = (p.0 ∙ sym q.0, p.1 ∙ sym q.1)
same_printed (Err (resolves.Cycle least)) e f ls ms p q = (p.0 ∙ sym q.0, p.1 ∙ sym q.1)
same_printed (Err (resolves.SameName r n)) e f ls ms p q = (p.0 ∙ sym q.0, p.1 ∙ sym q.1)
same_printed (Err (resolves.SamePackage r h m n)) e f ls ms p q = (p.0 ∙ sym q.0, p.1 ∙ sym q.1)
same_printed (Err (resolves.OwnPackage r h n)) e f ls ms p q = (p.0 ∙ sym q.0, p.1 ∙ sym q.1)
same_printed (Err (resolves.ServicePackage m s)) e f ls ms p q = (p.0 ∙ sym q.0, p.1 ∙ sym q.1)
same_printed (Err resolves.NoMemory) e f ls ms p q = absurd p

printed_told : (a : Result Configuration ResolveFault) (e : LaunchEnd) (ls : List (List ℕ)) → IsPrinted a e ls → a ≢ Err resolves.NoMemory
printed_told a e ls p h = subst (λ b. IsPrinted b e ls) h p

module _ (resolves_once : ResolvesOnce) where
  same_resolved : (roots : List (List ℕ)) (found : Result (List Observed) FindFault) (e f : LaunchEnd) (ls ms : List (List ℕ)) → IsResolved roots found e ls → IsResolved roots found f ms → (e ≡ f) × (ls ≡ ms)
  same_resolved roots (Err f) e g ls ms p q = (p.0 ∙ sym q.0, p.1 ∙ sym q.1)
  same_resolved roots (Ok found) e f ls ms p q =
      let one : p.0 ≡ q.0 = resolves_once (boot found roots) p.0 q.0 p.1 q.1 (printed_told p.0 e ls p.2) (printed_told q.0 f ms q.2) in
      same_printed q.0 e f ls ms (subst (λ a. IsPrinted a e ls) one p.2) q.2

  same_answer : (files : List File) (asked : Result Asked WordFault) (e f : LaunchEnd) (ls ms : List (List ℕ)) → IsAnswer files asked e ls → IsAnswer files asked f ms → (e ≡ f) × (ls ≡ ms)
  same_answer files (Err w) e f ls ms p q = (p.0 ∙ sym q.0, p.1 ∙ sym q.1)
  same_answer files (Ok asked) e f ls ms p q = same_resolved asked.roots (observed files asked.elements) e f ls ms p q

  pub launches_once : LaunchesOnce
  launches_once words files e f s t p q =
      let same : (e ≡ f) × (p.0 ≡ q.0) = same_answer files (words_of words) e f p.0 q.0 p.2 q.2 in
      (same.0, p.1 ∙ ap concat same.1 ∙ sym q.1)
