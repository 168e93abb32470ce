use Rattle.std.proofs.Common.{◌<◌, ◌∙◌, Ok, sym, ap, subst, arith}
use Rattle.jl_optable.specs.declared.attributes.Site.TheVariants as sites
use Rattle.jl_optable.specs.Attributes.{attribute_form}
use Rattle.jl_classw.specs.Building.{Making, with_read}
use Rattle.jl_classw.proofs.NestsGiven.{count_left, counted_on}
use Rattle.jl_classw.proofs.builder.ClassBuilder.attribute.Goals as goal

pub overflow_add-self : goal.overflow_add-self
overflow_add-self c =
    let old = c.args.self.now in
    let room : c.self.inside.attributes < 65535 = grind arith in
    let before = ap (λ (m : Making). m.attributes) c.self.view_is in
    let after = ap (λ (m : Making). m.attributes) c.self-2.view_is in
    let left = count_left old c.attribute_named.new.self (with_read old.class c.args.content.now (attribute_form sites.Class old.class.major c.args.name.now)) c.in_ok-attribute_named.ensures.exact in
    omega (arith, room, before, after, left)

pub returns-clause-exact : goal.returns-clause-exact
returns-clause-exact c =
    let b = c.self-2.inside in
    let room : c.self.inside.attributes < 65535 = grind arith in
    let made : Making = record {
      class = record { major = b.major; minor = 0; flags = b.flags; name = b.name; super_name = b.super_name; interfaces = b.interfaces.items; fields = b.fields; methods = b.methods; nest_host = b.nests.host; nest_members = b.nests.members; permits = b.nests.permits; pool = b.entries };
      attributes = b.attributes;
    } in
    counted_on c.args.self.now made c.args.name.now c.args.content.now (subst (λ (m : Making). m.attributes < 65535) c.self.view_is room)
    (c.in_ok-attribute_named.ensures.exact ∙ ap (λ (m : Making). Ok m) (sym c.self-2.view_is))
