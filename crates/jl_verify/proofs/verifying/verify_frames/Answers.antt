use Rattle.std.proofs.Common.{subst, sym}
use Rattle.jl_code.specs.Sound.{starts}
use Rattle.jl_code.specs.Places.{stands}
use Rattle.jl_verify.specs.Declaring.{first_items, made}
use Rattle.jl_verify.specs.Rising.{PlacesRise}
use Rattle.jl_verify.proofs.Judgements.{by_declared, not_declared}
use Rattle.jl_verify.proofs.Rising.{made_rises}
use Rattle.jl_verify.proofs.verifying.verify_frames.Goals as goal

pub invariant_of-c : goal.invariant_of-c
invariant_of-c g c =
    subst PlacesRise (sym c.deref.ensures.value)
    (made_rises c.args.class.now.pool (stands (starts c.args.code.1.now)) (first_items c.args.class.now c.args.method.now) c.args.stated.now c.in-Ok-declared.declared.items
    (c.in-Ok-declared.ensures c.args.code.1.now c.in-Ok.ensures) c.requires.rise)

pub returns-in-Ok-declared : goal.returns-in-Ok-declared
returns-in-Ok-declared g c =
    by_declared g.H.Hierarchy.step c.args.class.now c.args.method.now c.args.code.0.now c.args.code.1.now c.in-Ok-declared.declared.items c.deref.result.now
    (made c.args.class.now.pool (stands (starts c.args.code.1.now)) (first_items c.args.class.now c.args.method.now) c.args.stated.now)
    (c.in-Ok-declared.ensures c.args.code.1.now c.in-Ok.ensures) c.deref.ensures.value c.args.h.now c.verify_typed.result c.verify_typed.new.h c.verify_typed.ensures

pub returns : goal.returns
returns g c =
    not_declared g.H.Hierarchy.step c.args.class.now c.args.method.now c.args.code.0.now c.args.code.1.now
    (made c.args.class.now.pool (stands (starts c.args.code.1.now)) (first_items c.args.class.now c.args.method.now) c.args.stated.now)
    c.in-Err.fault c.args.h.now (c.in-Err.ensures c.args.code.1.now c.in-Ok.ensures)
