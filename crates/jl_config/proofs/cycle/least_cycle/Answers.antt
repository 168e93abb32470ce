use Rattle.std.proofs.Common.{◌≡◌, ◌∙◌, ◌<◌, ap, sym, subst, None, Some, All, Option, length, slice_get, List, ℕ}
use Rattle.jl_logic.specs.Order.{IsLeast}
use Rattle.jl_config.specs.declared.candidate.Candidate.{Candidate}
use Rattle.jl_config.specs.declared.fault.ResolveFault.{ResolveFault}
use Rattle.jl_config.specs.Places.{CycleFault}
use Rattle.jl_config.specs.Refusals.{fault_cmp}
use Rattle.jl_config.specs.Cycles.{edge_rows, IsFirstOnCycle}
use Rattle.jl_config.proofs.CyclePlaces.{edges_within, no_cycle, cycle_right, first_within}
use Rattle.jl_config.proofs.cycle.least_cycle.Goals as goal

pub first_on_cycle-requires-clause-graph : goal.first_on_cycle-requires-clause-graph
first_on_cycle-requires-clause-graph c =
    let w = c.args.scene.now in
    let marks = c.args.members.now.marks.items in
    let e : c.as_slice-2.result.now ≡ edge_rows w marks = c.as_slice-2.ensures.value ∙ c.in_ok-rows.ensures ∙ ap (edge_rows w) c.as_slice.ensures.value in
    subst (λ (n : List (List ℕ)). All (λ row. All (λ p. p < length n) row) n) (sym e) (edges_within w marks c.requires.marks)

-- what the search found, over the rows of the scene
as_found : (rows rows_seen : List (List ℕ)) (ps ps_seen : List ℕ) (found other : Option ℕ) → rows_seen ≡ rows → ps_seen ≡ ps → found ≡ other → IsFirstOnCycle rows_seen ps_seen found → IsFirstOnCycle rows ps other
as_found rows rows_seen ps ps_seen found other e f g h =
    subst (λ (o : Option ℕ). IsFirstOnCycle rows ps o) g (subst (λ (l : List ℕ). IsFirstOnCycle rows l found) f (subst (λ (n : List (List ℕ)). IsFirstOnCycle n ps_seen found) e h))

pub returns-in-None : goal.returns-in-None
returns-in-None c =
    let w = c.args.scene.now in
    let marks = c.args.members.now.marks.items in
    let ps = c.args.members.now.places.items in
    let e : c.as_slice-2.result.now ≡ edge_rows w marks = c.as_slice-2.ensures.value ∙ c.in_ok-rows.ensures ∙ ap (edge_rows w) c.as_slice.ensures.value in
    let first : IsFirstOnCycle (edge_rows w marks) ps None = as_found (edge_rows w marks) c.as_slice-2.result.now ps c.as_slice-3.result.now c.in_ok-first_on_cycle.field-0 None e c.as_slice-3.ensures.value c.in-None.is c.in_ok-first_on_cycle.ensures in
    no_cycle w marks c.requires.marks ps c.requires.places first

pub cycle_at-requires : goal.cycle_at-requires
cycle_at-requires c =
    let w = c.args.scene.now in
    let marks = c.args.members.now.marks.items in
    let ps = c.args.members.now.places.items in
    let e : c.as_slice-2.result.now ≡ edge_rows w marks = c.as_slice-2.ensures.value ∙ c.in_ok-rows.ensures ∙ ap (edge_rows w) c.as_slice.ensures.value in
    let first : IsFirstOnCycle (edge_rows w marks) ps (Some c.in-Some.place) = as_found (edge_rows w marks) c.as_slice-2.result.now ps c.as_slice-3.result.now c.in_ok-first_on_cycle.field-0 (Some c.in-Some.place) e c.as_slice-3.ensures.value c.in-Some.is c.in_ok-first_on_cycle.ensures in
    subst (λ (l : List Candidate). c.in-Some.place < length l) (sym c.candidates.ensures) (first_within w marks c.requires.marks ps c.requires.places c.in-Some.place first)

pub returns : goal.returns
returns c =
    let w = c.args.scene.now in
    let marks = c.args.members.now.marks.items in
    let ps = c.args.members.now.places.items in
    let e : c.as_slice-2.result.now ≡ edge_rows w marks = c.as_slice-2.ensures.value ∙ c.in_ok-rows.ensures ∙ ap (edge_rows w) c.as_slice.ensures.value in
    let first : IsFirstOnCycle (edge_rows w marks) ps (Some c.in-Some.place) = as_found (edge_rows w marks) c.as_slice-2.result.now ps c.as_slice-3.result.now c.in_ok-first_on_cycle.field-0 (Some c.in-Some.place) e c.as_slice-3.ensures.value c.in-Some.is c.in_ok-first_on_cycle.ensures in
    let at = c.in_ok-cycle_at-in-Some.ensures in
    let here : slice_get w.candidates c.in-Some.place ≡ Some at.0 = ap (λ (l : List Candidate). slice_get l c.in-Some.place) (sym c.candidates.ensures) ∙ at.1 in
    subst (λ (f : ResolveFault). IsLeast fault_cmp (CycleFault w) f) (sym at.2) (cycle_right w marks c.requires.marks ps c.requires.places c.in-Some.place at.0 here first)
