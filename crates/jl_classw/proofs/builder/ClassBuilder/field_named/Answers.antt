use Rattle.std.proofs.Common.{refl, ◌≡◌, ◌<◌, true, false, map, length, sym, subst, arith}
use Rattle.jl_classw.specs.Building.{Making}
use Rattle.jl_class.specs.Meaning.{are_field_flags, is_interface, is_member_among, field_key}
use Rattle.jl_classw.proofs.BuiltLaws.{field_kept}
use Rattle.jl_classw.proofs.builder.ClassBuilder.field_named.Goals as goal

pub invariant_of-self-2 : goal.invariant_of-self-2
invariant_of-self-2 c =
    let b = c.self.inside in
    let room : length b.fields < 65535 = grind arith in
    let Flags : Making → Type 0 = λ k. are_field_flags (is_interface k.class.flags) c.args.flags ≡ true in
    let Fresh : Making → Type 0 = λ k. is_member_among (record { name = c.args.name.now; desc = c.args.desc.now }) (map field_key k.class.fields) ≡ false in
    field_kept (record { major = b.major; minor = 0; flags = b.flags; name = b.name; super_name = b.super_name; interfaces = b.interfaces.items; fields = b.fields; methods = b.methods; nest_host = b.nests.host; nest_members = b.nests.members; permits = b.nests.permits; pool = b.entries })
    b.entries b.entries b.entries c.new.result.items c.in_ok-added.added.items c.in_ok-added-2.added.items c.in_ok-added-3.added.items c.put_member.new.entries
    c.args.flags c.in_ok-copy.field-0 c.in_ok-copy-2.field-0 c.args.name.now c.args.desc.now c.args.constant c.in_ok-added-3.constant c.put_member.new.members
    c.self.invariant.1 (omega (arith, c.ranges.flags.fits)) (subst Flags (sym c.self.view_is) c.requires.flags) c.requires.name c.requires.desc (subst Fresh (sym c.self.view_is) c.requires.fresh)
    c.in_ok-added.ensures.utf8 c.in_ok-added-2.ensures.utf8 c.requires.short c.requires.constant c.in_ok-added-3.ensures.fit room
    refl refl refl c.new.ensures.items c.in_ok-added.ensures.exact c.in_ok-added-2.ensures.exact c.in_ok-added-3.ensures.exact
    c.in_ok-copy.ensures c.in_ok-copy-2.ensures c.in_ok-put_member.ensures.members c.in_ok-put_member.ensures.entries
