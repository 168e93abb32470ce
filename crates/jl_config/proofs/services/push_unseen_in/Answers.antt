use Rattle.std.proofs.Common.{◌≡◌, subst, Some, slice_get}
use Rattle.jl_config.specs.Collected.{Adds, Among}
use Rattle.jl_config.specs.Imported.{IsUnseen, IsUnseenProvided, IsUnseenIn}
use Rattle.jl_config.proofs.Lists.{item_here}
use Rattle.jl_config.proofs.Collects.{adds_then}
use Rattle.jl_config.proofs.PackageFaults.{import_within}
use Rattle.jl_config.proofs.ServiceFaults.{used_in, provided_in, unseen_from}
use Rattle.jl_config.proofs.services.push_unseen_in.Goals as goal

pub returns : goal.returns
returns c =
    let w = c.args.scene.now in
    let m = c.args.imports.now in
    let s = c.index-candidates-imports.result in
    let at : slice_get w.candidates m.reader ≡ Some s = item_here w.candidates c.candidates.result.now m.reader s c.candidates.ensures (import_within w m c.requires) c.index-candidates-imports.is in
    let first : Adds c.args.unseen.now.items c.push_unseen_uses.new.unseen.items (Among (IsUnseen s m.exported) s.observed.declaration.uses) =
    subst (λ es. Adds c.args.unseen.now.items c.push_unseen_uses.new.unseen.items (Among (IsUnseen s es) s.observed.declaration.uses)) c.as_slice-exported.ensures c.in_ok-push_unseen_uses.ensures in
    let second : Adds c.push_unseen_uses.new.unseen.items c.push_unseen_provides.new.unseen.items (Among (IsUnseenProvided s m.exported) s.observed.declaration.provides) =
    subst (λ es. Adds c.push_unseen_uses.new.unseen.items c.push_unseen_provides.new.unseen.items (Among (IsUnseenProvided s es) s.observed.declaration.provides)) c.as_slice-exported.ensures c.in_ok-push_unseen_provides.ensures in
    adds_then _ _ _ (Among (IsUnseen s m.exported) s.observed.declaration.uses) (Among (IsUnseenProvided s m.exported) s.observed.declaration.provides) (IsUnseenIn w m) first second (used_in w m s at) (provided_in w m s at) (unseen_from w m s at)
