-- What is written of what is launched.
use Rattle.std.proofs.Common.{ℕ, List, [], Option, Some, None, refl, sym, ap, subst, inl, inr, ◌∙◌}
use Rattle.std.proofs.lemmas.List.{append-nil}
use Rattle.std.specs.Prelude.{IfSome}
use Rattle.std.specs.List.{concat}
use Rattle.jl_tree.specs.Files.{File}
use Rattle.jl_launch.specs.declared.end.LaunchEnd.{LaunchEnd}
use Rattle.jl_launch.specs.Statuses.{IsStop}
use Rattle.jl_launch.specs.Launched.{IsLaunched, Comes, Ends, EndsAs, RefusesWords, IsRefusedWords, Completes}
use Rattle.jl_launch.specs.Unique.{LaunchesAlways}
use Rattle.jl_launch.specs.declared.end.LaunchEnd.TheVariants.{NoMemory}
use Rattle.jl_launch.specs.Writing.{grown}
use Rattle.jl_words.specs.declared.fault.WordFault.{WordFault}

pub written : (words : List (List ℕ)) (told : Option (List File)) (old : Option (List ℕ)) (end : LaunchEnd) (lines : List (List ℕ)) (answered : LaunchEnd) (new : Option (List ℕ))
    → IfSome told (λ files. IsLaunched words files end lines) → Comes end lines old answered new
    → IfSome told (λ files. IfSome old (λ before. Ends words files before answered new))
written words None old end lines answered new l w = tt
written words (Some files) None end lines answered new l w = tt
written words (Some files) (Some before) end lines answered new l (inl w) = (end, concat lines, (lines, refl, l), inl w)
written words (Some files) (Some before) end lines answered new l (inr w) =
    let stopped : IsStop answered = subst IsStop (sym w.0) tt in
    (end, concat lines, (lines, refl, l), inr (stopped, w.1))

-- stopped before anything was written: the front of the text is empty
pub stopped : (words : List (List ℕ)) (told : Option (List File)) (old : Option (List ℕ)) (answered : LaunchEnd) → LaunchesAlways → IsStop answered
    → IfSome told (λ files. IfSome old (λ before. Ends words files before answered old))
stopped words None old answered always stop = tt
stopped words (Some files) None answered always stop = tt
stopped words (Some files) (Some before) answered always stop =
    let l = always words files in
    (l.0, l.1, l.2, inr (stop, ([], (l.1, refl), ap Some (sym (append-nil before)))))

-- the end alone
pub ended : (words : List (List ℕ)) (told : Option (List File)) (old : Option (List ℕ)) (end : LaunchEnd) (lines : List (List ℕ)) (answered : LaunchEnd) (new : Option (List ℕ))
    → IfSome told (λ files. IsLaunched words files end lines) → Comes end lines old answered new
    → IfSome told (λ files. EndsAs words files answered)
ended words None old end lines answered new l w = tt
ended words (Some files) old end lines answered new l (inl w) = (end, concat lines, (lines, refl, l), inl w.0)
ended words (Some files) old end lines answered new l (inr w) = (end, concat lines, (lines, refl, l), inr (subst IsStop (sym w.0) tt))

pub stops : (words : List (List ℕ)) (told : Option (List File)) (answered : LaunchEnd) → LaunchesAlways → IsStop answered
    → IfSome told (λ files. EndsAs words files answered)
stops words None answered always stop = tt
stops words (Some files) answered always stop = let l = always words files in (l.0, l.1, l.2, inr stop)

-- refused words, whatever is told
pub refused : (f : WordFault) (old : Option (List ℕ)) (end : LaunchEnd) (lines : List (List ℕ)) (answered : LaunchEnd) (new : Option (List ℕ))
    → IsRefusedWords f end lines → Comes end lines old answered new → RefusesWords f old answered new
refused f old end lines answered new l (inl w) = inl (w.0 ∙ l.0, w.1 ∙ ap (λ ls. grown old (concat ls)) l.1)
refused f old end lines answered new l (inr w) =
    inr (inl w.0, (w.1.0, (w.1.1.0, ap concat (sym l.1) ∙ w.1.1.1), w.1.2))

-- memory ended before anything was written
pub completes : (words : List (List ℕ)) (told : Option (List File)) (old : Option (List ℕ)) → LaunchesAlways
    → IfSome told (λ files. IfSome old (λ before. Completes words files before NoMemory old))
completes words None old always = tt
completes words (Some files) None always = tt
completes words (Some files) (Some before) always =
    let l = always words files in
    inr (refl, (l.0, l.1, l.2, ([], (l.1, refl), ap Some (sym (append-nil before)))))
