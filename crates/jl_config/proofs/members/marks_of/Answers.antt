use Rattle.std.proofs.Common.{◌≡◌, ◌∙◌, ◌<◌, ap, subst, sym, length, List, ℕ, All}
use Rattle.std.proofs.lemmas.Result.{IfOk-weaker}
use Rattle.jl_closure.specs.Reached.{AreMarksOf}
use Rattle.jl_config.specs.MemberRows.{cleared, member_rows, member_starts}
use Rattle.jl_config.specs.Places.{AreMarks}
use Rattle.jl_config.proofs.MemberChains.{marks_right, rows_within, starts_within}
use Rattle.jl_config.proofs.members.marks_of.Goals as goal

pub closure-requires-clause-graph : goal.closure-requires-clause-graph
closure-requires-clause-graph c =
    let w = c.args.scene.now in
    let e : c.as_slice.result.now ≡ member_rows w = c.as_slice.ensures.value ∙ c.in_ok-rows.ensures in
    subst (λ (n : List (List ℕ)). All (λ row. All (λ p. p < length n) row) n) (sym e) (rows_within w)

pub closure-requires-clause-within : goal.closure-requires-clause-within
closure-requires-clause-within c =
    let w = c.args.scene.now in
    let e : c.as_slice.result.now ≡ member_rows w = c.as_slice.ensures.value ∙ c.in_ok-rows.ensures in
    let f : c.as_slice-2.result.now ≡ member_starts w = c.as_slice-2.ensures.value ∙ c.in_ok-starts.ensures in
    subst (λ (n : List (List ℕ)). All (λ p. p < length n) c.as_slice-2.result.now) (sym e) (subst (λ (l : List ℕ). All (λ p. p < length (member_rows w)) l) (sym f) (starts_within w))

pub returns : goal.returns
returns c =
    let w = c.args.scene.now in
    let e : c.as_slice.result.now ≡ member_rows w = c.as_slice.ensures.value ∙ c.in_ok-rows.ensures in
    let f : c.as_slice-2.result.now ≡ member_starts w = c.as_slice-2.ensures.value ∙ c.in_ok-starts.ensures in
    let given : AreMarksOf c.as_slice.result.now c.as_slice-2.result.now c.in_ok-reached.reached.items = record { one_each = c.in_ok-reached.ensures.one_each; only = c.in_ok-reached.ensures.only; all = c.in_ok-reached.ensures.all } in
    let marks : AreMarksOf (member_rows w) (member_starts w) c.in_ok-reached.reached.items = subst (λ (l : List ℕ). AreMarksOf (member_rows w) l c.in_ok-reached.reached.items) f (subst (λ (n : List (List ℕ)). AreMarksOf n c.as_slice-2.result.now c.in_ok-reached.reached.items) e given) in
    IfOk-weaker c.cleared_of.result (λ kept. kept.items ≡ cleared w w.candidates c.as_slice-3.result.now) (λ kept. AreMarks w kept.items)
    (λ kept g. marks_right w c.in_ok-reached.reached.items kept.items marks (g ∙ ap (cleared w w.candidates) c.as_slice-3.ensures.value))
    c.cleared_of.ensures
