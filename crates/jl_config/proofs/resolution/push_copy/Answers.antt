use Rattle.std.proofs.Common.{◌≡◌, ◌∙◌, ◌++◌, ap, sym, map, Option, None, List}
use Rattle.std.specs.List.{slice_get}
use Rattle.std.specs.Option.{option_to_list}
use Rattle.std.proofs.lemmas.List.{append-nil}
use Rattle.std.proofs.lemmas.Option.{slice_get_past}
use Rattle.jl_config.specs.declared.candidate.Candidate.{Candidate}
use Rattle.jl_config.proofs.resolution.push_copy.Goals as goal

pub returns-in_default : goal.returns-in_default
returns-in_default c =
    let past : slice_get c.args.scene.now.candidates c.args.place ≡ None = ap (λ (l : List Candidate). slice_get l c.args.place) (sym c.candidates.ensures) ∙ slice_get_past c.candidates.result.now c.args.place c.in_default.ensures.lookup.3 in
    sym (append-nil c.args.copies.now.items) ∙ ap (λ (o : Option Candidate). c.args.copies.now.items ++ map (λ (s : Candidate). s.observed) (option_to_list o)) (sym past)
