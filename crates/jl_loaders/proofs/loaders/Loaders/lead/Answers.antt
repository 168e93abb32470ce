use Rattle.std.proofs.Common.{◌∙◌, ◌<◌, ap, sym, subst}
use Rattle.jl_prim.specs.declared.declaration.ParentLoader.{ParentLoader}
use Rattle.jl_loaders.specs.Loaders.{IsLoader, ParentExists}
use Rattle.jl_loaders.proofs.Leads.{fuel_of, lead_of, lead_found, lead_onward, null_lead, parent_below, parent_is_there}
use Rattle.jl_loaders.proofs.loaders.Loaders.lead.Goals as goal

pub numbered-parts-requires : goal.numbered-parts-requires
numbered-parts-requires c = subst (ParentExists c.args.self.now) c.in-Loader.is c.loop-parent.invariant.there

pub returns-in-Some : goal.returns-in-Some
returns-in-Some c =
    let s = c.args.self.now in
    let p = c.package_of-package.result.now in
    let there : IsLoader s c.in-Loader.loader = subst (ParentExists s) c.in-Loader.is c.loop-parent.invariant.there in
    sym (lead_found s c.in-Loader.loader p c.numbered-parts.result.now c.numbered-parts.ensures.below there.0 c.numbered-parts.ensures.here c.in-Some.m (sym c.in-Some.ensures))
    ∙ ap (λ (q : ParentLoader). lead_of s q p) (sym c.in-Loader.is)
    ∙ c.loop-parent.invariant.same

pub loop-parent-smaller : goal.loop-parent-smaller
loop-parent-smaller c =
    let s = c.args.self.now in
    let p = c.package_of-package.result.now in
    let there : IsLoader s c.in-Loader.loader = subst (ParentExists s) c.in-Loader.is c.loop-parent.invariant.there in
    let x = c.numbered-parts.result.now in
    let less : fuel_of x.parent < c.in-Loader.loader.0 = parent_below s c.in-Loader.loader p x c.numbered-parts.ensures.below there.0 c.numbered-parts.ensures.here in
    subst (λ (q : ParentLoader). fuel_of q < fuel_of c.loop-parent.parent) (sym c.parent-parent.ensures) (subst (λ (q : ParentLoader). fuel_of x.parent < fuel_of q) (sym c.in-Loader.is) less)

pub loop-parent-preserved : goal.loop-parent-preserved
loop-parent-preserved c =
    let s = c.args.self.now in
    let p = c.package_of-package.result.now in
    let there : IsLoader s c.in-Loader.loader = subst (ParentExists s) c.in-Loader.is c.loop-parent.invariant.there in
    let x = c.numbered-parts.result.now in
    record {
      there = subst (ParentExists s) (sym c.parent-parent.ensures) (parent_is_there s c.in-Loader.loader.0 x c.numbered-parts.ensures.below there.1 c.numbered-parts.ensures.here);
      same =
          ap (λ (q : ParentLoader). lead_of s q p) c.parent-parent.ensures
          ∙ lead_onward s c.in-Loader.loader p x c.numbered-parts.ensures.below there.0 c.numbered-parts.ensures.here (sym c.module_for.ensures ∙ c.in_default-module_for.is)
          ∙ ap (λ (q : ParentLoader). lead_of s q p) (sym c.in-Loader.is)
          ∙ c.loop-parent.invariant.same;
    }

pub returns : goal.returns
returns c =
    let s = c.args.self.now in
    let p = c.package_of-package.result.now in
    c.base_lead.ensures
    ∙ sym (null_lead 0 s p)
    ∙ ap (λ (q : ParentLoader). lead_of s q p) (sym c.in_default.is)
    ∙ c.loop-parent.invariant.same
