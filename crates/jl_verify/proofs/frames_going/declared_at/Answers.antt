use Rattle.std.proofs.Common.{◌∙◌, rules, sym, ap}
use Rattle.std.specs.Option.{option_map}
use Rattle.std.specs.Ordering.{nat_cmp}
use Rattle.std.proofs.lemmas.Fn.{always_returns_same}
use Rattle.jl_verify.specs.Checked.{Checked}
use Rattle.jl_verify.specs.Rules.{declared_at}
use Rattle.jl_verify.specs.declared.declared_frame.DeclaredFrame.{DeclaredFrame}
use Rattle.jl_verify.proofs.Rising.{found_in, missing_in}
use Rattle.jl_verify.proofs.frames_going.declared_at.Goals as goal

pub returns-in-Ok : goal.returns-in-Ok
returns-in-Ok c =
    ap (option_map (λ (d : DeclaredFrame). d.frame))
    (sym (found_in c.args.place c.c.inside.declared.now c.in-Ok.at c.index-declared-at.result c.c.invariant c.in-Ok.ensures.bound
    (c.in-Ok.ensures.position (λ (x : DeclaredFrame). nat_cmp x.offset c.args.place) (always_returns_same _ _ _ (λ a r q k. search rules)) c.index-declared-at.result)))
    ∙ ap (λ (k : Checked). declared_at k c.args.place) c.c.view_is

pub returns-in-Err : goal.returns-in-Err
returns-in-Err c =
    ap (option_map (λ (d : DeclaredFrame). d.frame))
    (sym (missing_in c.args.place c.c.inside.declared.now c.in-Err.field-0 c.c.invariant
    (c.in-Err.ensures.position (λ (x : DeclaredFrame). nat_cmp x.offset c.args.place) (always_returns_same _ _ _ (λ a r q k. search rules)))))
    ∙ ap (λ (k : Checked). declared_at k c.args.place) c.c.view_is
