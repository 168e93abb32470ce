use Rattle.std.proofs.Common.{sym, subst, Some, None}
use Rattle.jl_access.specs.Kept.{IsNumberOf}
use Rattle.jl_access.proofs.Numbers.{number_found, number_missing, found_text}
use Rattle.jl_access.proofs.names.Names.number_of.Goals as goal

pub returns-in-Some : goal.returns-in-Some
returns-in-Some c =
    let keys = c.self.inside.texts.keys in
    let key = c.in-Some.field-0-1.now in
    subst (λ n. IsNumberOf n.texts c.args.text.now (Some c.in-Some.number)) c.self.view_is
    (number_found (λ v. v.items) keys c.args.text.now c.in-Some.number key c.self.invariant.0 c.in-Some.ensures.stored (found_text (λ v. v.items) keys c.args.text.now key c.in-Some.ensures.key))

pub returns-in-None : goal.returns-in-None
returns-in-None c =
    subst (λ n. IsNumberOf n.texts c.args.text.now None) c.self.view_is
    (number_missing (λ v. v.items) c.self.inside.texts.keys c.args.text.now (sym c.in-None.ensures.found))
