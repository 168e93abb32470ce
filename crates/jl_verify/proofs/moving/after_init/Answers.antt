use Rattle.std.proofs.Common.{◌≡◌, ◌∙◌, ◌+◌, ℕ, List, length, drop-drop, IfOk, ap, ap₂, subst}
use Rattle.jl_vtypes.specs.declared.item.Item.{Item}
use Rattle.jl_verify.specs.declared.want.Wanted.{Wanted}
use Rattle.jl_verify.specs.Frames.{Frame}
use Rattle.jl_verify.specs.Moves.{item_at, method_arguments}
use Rattle.jl_verify.specs.Rows.{after_init, initialized_as, replaced, unmarked_by, without}
use Rattle.jl_verify.proofs.moving.after_init.Goals as goal

pub returns : goal.returns
returns c =
    let f : Frame = c.args.f in
    let n : ℕ = c.len-below.result in
    let count : n ≡ length (method_arguments c.args.c.now c.args.index) = c.len-below.ensures ∙ c.in_ok-method_arguments.field-0.ok.0 ∙ ap (λ (ws : List Wanted). length ws) c.in_ok-method_arguments.ensures in
    let left : c.pop-2.new.self ≡ without (n + 1) f =
    c.pop-2.ensures
    ∙ ap (λ (g : Frame). without 1 g) c.pop.ensures
    ∙ ap (λ (xs : List Item). let g : Frame = record { locals = f.locals; stack = xs; marked = f.marked } in g) (drop-drop 1 n f.stack) in
    let is : replaced c.in_ok-receiver.receiver (initialized_as c.args.c.now c.in_ok-receiver.receiver c.args.index) (unmarked_by c.in_ok-receiver.receiver c.pop-2.new.self) ≡ after_init c.args.c.now f c.args.index =
    ap₂ (λ (r : Item) (g : Frame). replaced r (initialized_as c.args.c.now r c.args.index) (unmarked_by r g)) c.in_ok-receiver.ensures left
    ∙ ap (λ (k : ℕ). let r : Item = item_at f.stack k in replaced r (initialized_as c.args.c.now r c.args.index) (unmarked_by r (without (k + 1) f))) count in
    subst (λ (g : Frame). IfOk c.with_initialized.result (λ h. h ≡ g)) is c.with_initialized.ensures
