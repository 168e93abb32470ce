use Rattle.std.proofs.Common.{◌≡◌, length, take, ap, subst, ◌∙◌}
use Rattle.std.specs.Prelude.{IfOk, IsUtf8}
use Rattle.jl_names.specs.Names.{package_of}
use Rattle.jl_modinfo.proofs.PackageLaws.{package_front, package_boundary}
use Rattle.jl_modinfo.proofs.rules.package.Goals as goal

pub split_at-requires : goal.split_at-requires
split_at-requires c =
    let named : c.package_of-end.result.now ≡ package_of c.args.class.now = c.package_of-end.ensures ∙ ap package_of c.as_bytes.ensures in
    rw (named, c.as_str.ensures) (package_boundary c.args.class.now (subst IsUtf8 c.as_str.ensures c.as_str.utf8))

pub returns : goal.returns
returns c =
    let named : c.package_of-end.result.now ≡ package_of c.args.class.now = c.package_of-end.ensures ∙ ap package_of c.as_bytes.ensures in
    let front : take (length c.package_of-end.result.now) c.as_str.result.now ≡ package_of c.args.class.now = rw (named, c.as_str.ensures) (package_front c.args.class.now) in
    subst (λ p. IfOk c.from_text.result (λ name. name ≡ p)) (c.split_at.ensures.front ∙ front) c.from_text.ensures
