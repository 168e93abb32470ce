use Rattle.std.proofs.Common.{refl, ◌≡◌, true, Some, sym, subst, arith}
use Rattle.jl_optable.specs.declared.attributes.AttrForm.TheVariants as forms
use Rattle.jl_optable.specs.Attributes.{name_of}
use Rattle.jl_class.specs.Spelling.{names_form}
use Rattle.jl_classw.specs.Building.{Making, may_have_form}
use Rattle.jl_classw.proofs.NestsGiven.{permits_kept}
use Rattle.jl_classw.proofs.builder.ClassBuilder.permits.Goals as goal

pub invariant_of-self-2 : goal.invariant_of-self-2
invariant_of-self-2 c =
    let b = c.self.inside in
    permits_kept (record { major = b.major; minor = 0; flags = b.flags; name = b.name; super_name = b.super_name; interfaces = b.interfaces.items; fields = b.fields; methods = b.methods; nest_host = b.nests.host; nest_members = b.nests.members; permits = b.nests.permits; pool = b.entries })
    b.entries c.in_ok-added.added.items c.append.new.self c.in_ok-names.names c.args.content.now c.classes_of.result
    c.self.invariant.1 (λ i. omega (arith, c.type_inv.content i))
    (subst (λ (m : Making). may_have_form m.class c.args.content.now (Some forms.Permits) ≡ true) (sym c.self.view_is) c.requires.may)
    (subst (λ (m : Making). names_form m.class.major forms.Permits (name_of forms.Permits) ≡ true) (sym c.self.view_is) c.requires.read)
    refl c.in_ok-added.ensures.exact c.classes_of.ensures c.in_ok-names.ensures.same c.in_ok-append.ensures.ok
