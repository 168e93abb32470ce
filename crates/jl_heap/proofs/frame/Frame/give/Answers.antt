use Rattle.std.proofs.Common.{◌≡◌, ◌∙◌, ◌++◌, List, ℕ, length, take, drop, reverse, replicate, ap, sym, subst}
use Rattle.std.proofs.lemmas.List.{drop-replicate}
use Rattle.jl_heap.specs.declared.value.Value.{Value}
use Rattle.jl_heap.specs.declared.value.Value.TheVariants as values
use Rattle.jl_heap.specs.declared.frame.FrameKind.{FrameKind}
use Rattle.jl_heap.proofs.Giving.{whole}
use Rattle.jl_heap.specs.Frames.{FrameState, called_locals}
use Rattle.jl_heap.proofs.frame.Frame.give.Goals as goal

-- a frame by its parts
abbrev framed : FrameKind → ℕ → ℕ → ℕ → List Value → List Value → FrameState
framed kind max_stack max_locals pc locals stack = record { kind = kind; max_stack = max_stack; max_locals = max_locals; pc = pc; locals = locals; stack = stack }

pub returns-clause-given : goal.returns-clause-given
returns-clause-given c =
    let n : ℕ = c.args.slots in
    let stack : List Value = c.self.inside.stack.items in
    let nothing : c.to.inside.locals.items ≡ replicate c.to.inside.max_locals values.Top =
    subst (λ (g : FrameState). g.locals ≡ replicate g.max_locals values.Top) (sym c.to.view_is) c.requires.nothing in
    let given : c.copy_last.new.to ≡ called_locals n c.to.inside.max_locals (reverse stack) =
    c.copy_last.ensures.copied ∙ (ap (λ l. reverse (take n (reverse l)) ++ drop n c.deref_mut.result.now) c.deref.ensures.value ∙ ap (λ l. reverse (take n (reverse stack)) ++ l) (ap (drop n) (c.deref_mut.ensures.value ∙ nothing) ∙ drop-replicate n c.to.inside.max_locals values.Top)) in
    let same : c.to.inside.locals.len ≡ length c.copy_last.new.to = sym (c.copy_last.ensures.length ∙ c.deref_mut.ensures.len) in
    rw (← c.to.view_is, ← c.self.view_is) (ap (λ l. framed c.to.inside.kind c.to.inside.max_stack c.to.inside.max_locals c.to.inside.pc l (reverse c.to.inside.stack.items)) (whole c.to.inside.locals.len c.copy_last.new.to _ same ∙ given))
