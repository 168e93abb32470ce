use Rattle.std.proofs.Common.{◌≡◌, ℕ, List, refl, subst}
use Rattle.jl_class.specs.Classes.{Class}
use Rattle.jl_class.specs.Spelling.{IsClass}
use Rattle.jl_classw.proofs.BuiltLaws.{built_file}
use Rattle.jl_classw.proofs.builder.ClassBuilder.finish.Goals as goal

pub from_parts-requires : goal.from_parts-requires
from_parts-requires c =
    let b = c.self.inside in
    let made : Class = record { major = b.major; minor = 0; flags = b.flags; name = b.name; super_name = b.super_name; interfaces = b.interfaces.items; fields = b.fields; methods = b.methods; nest_host = b.nests.host; nest_members = b.nests.members; permits = b.nests.permits; pool = b.entries } in
    let f : (bytes : List ℕ) × IsClass bytes made = built_file made c.self.invariant.1 in
    (f.0, rw (c.from_vec.ensures, c.from_vec-2.ensures, c.from_vec-3.ensures, c.from_entries.ensures, c.into_vec.ensures, c.into_vec-2.ensures, c.into_vec-3.ensures) f.1)

pub returns-clause-declared : goal.returns-clause-declared
returns-clause-declared c =
    let b = c.self.inside in
    let made : Class = record { major = b.major; minor = 0; flags = b.flags; name = b.name; super_name = b.super_name; interfaces = b.interfaces.items; fields = b.fields; methods = b.methods; nest_host = b.nests.host; nest_members = b.nests.members; permits = b.nests.permits; pool = b.entries } in
    let P : Class → Type 0 = λ k. (bytes : List ℕ) × IsClass bytes k in
    let same : made ≡ c.from_parts.result = rw (c.from_parts.ensures, c.from_vec.ensures, c.from_vec-2.ensures, c.from_vec-3.ensures, c.from_entries.ensures, c.into_vec.ensures, c.into_vec-2.ensures, c.into_vec-3.ensures) refl in
    subst P same (built_file made c.self.invariant.1)
