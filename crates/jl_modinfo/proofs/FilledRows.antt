-- Worked rows: a declaration with an entry in each table, its file, and the rules that it keeps.
use Rattle.std.proofs.Common.{◌≡◌, ℕ, List, [], ◌∷◌, ◌++◌, None, Some, true, false, Ok, refl, arith}
use Rattle.std.specs.Prelude.{codes, Contains}
use Rattle.std.specs.List.{flat_map}
use Rattle.jl_logic.proofs.Apart.{single}
use Rattle.jl_reading.specs.Reading.{two, four, counted, each_at, steps_at}
use Rattle.jl_prim.specs.declared.declaration.Declaration.{Declaration}
use Rattle.jl_names.specs.Text.{units_read, units_from, unit_at, plain, has_no_lone_surrogate}
use Rattle.jl_pool.specs.declared.entry.Entry.{Entry}
use Rattle.jl_pool.specs.declared.entry.Entry.TheVariants as entries
use Rattle.jl_pool.specs.Spelling.{entry_bytes}
use Rattle.jl_pool.specs.Reading.{pool_at, entry_at, content_at, text_at, bits_at}
use Rattle.jl_classfile.specs.Spelling.{Attribute}
use Rattle.jl_classfile.specs.Places as places
use Rattle.jl_classfile.specs.Front as framing
use Rattle.jl_classfile.specs.Attributes as walk
use Rattle.jl_names.specs.Names as names
use Rattle.jl_modinfo.specs.Info.{Body, body_bytes, back_bytes}
use Rattle.jl_modinfo.specs.Writing.{KeepsRules, members}
use Rattle.jl_modinfo.specs.Reading.{info_of, front_at, empty_class_at, this_at, zero_at, attributes_at, module_at, packages_at, main_at}
use Rattle.jl_tables.specs.Reading.{name_at, new_name_at, names_at, version_at, requires_at, requires_table_at, grant_at, grants_at, implementations_at, provides_at, provides_table_at}

abbrev filled : Declaration
filled = record {
  name = codes "m";
  is_open = false;
  version = Some (codes "1");
  required = record { name = codes "java.base"; transitive = false; is_static = false } ∷ record { name = codes "b"; transitive = true; is_static = true } ∷ [];
  exports = record { «package» = codes "p"; to = Some (codes "b" ∷ []) } ∷ [];
  opens = record { «package» = codes "p"; to = None } ∷ [];
  uses = codes "p/S" ∷ [];
  provides = record { service = codes "p/S"; implementations = codes "p/A" ∷ [] } ∷ [];
  packages = codes "p" ∷ [];
  main = Some (codes "p/A");
}

abbrev texts : List Entry
texts =
    entries.Utf8 (codes "module-info") ∷ entries.Class 1 ∷ entries.Utf8 (codes "Module") ∷ entries.Utf8 (codes "m") ∷ entries.Module 4
    ∷ entries.Utf8 (codes "java.base") ∷ entries.Module 6 ∷ entries.Utf8 (codes "b") ∷ entries.Module 8 ∷ entries.Utf8 (codes "p") ∷ entries.Package 10
    ∷ entries.Utf8 (codes "p/S") ∷ entries.Class 12 ∷ entries.Utf8 (codes "p/A") ∷ entries.Class 14
    ∷ entries.Utf8 (codes "ModulePackages") ∷ entries.Utf8 (codes "ModuleMainClass") ∷ entries.Utf8 (codes "1") ∷ []

abbrev body : Body
body = record {
  index = 5;
  flags = 0;
  version = 18;
  required = record { index = 7; flags = 0; version = 0 } ∷ record { index = 9; flags = 0x60; version = 0 } ∷ [];
  exports = record { index = 11; flags = 0; targets = 9 ∷ [] } ∷ [];
  opens = record { index = 11; flags = 0; targets = [] } ∷ [];
  uses = 13 ∷ [];
  provides = record { index = 13; classes = 15 ∷ [] } ∷ [];
}

abbrev attributes : List Attribute
attributes = record { index = 3; content = body_bytes body } ∷ record { index = 16; content = counted two (11 ∷ []) } ∷ record { index = 17; content = two 15 } ∷ []

abbrev file : List ℕ
file = four 0xCAFEBABE ++ (two 0 ++ (two 53 ++ (two 19 ++ (flat_map entry_bytes texts ++ back_bytes 2 attributes))))

filled_read : info_of file [] ≡ Ok filled
unfolding info_of front_at framing.front_at empty_class_at this_at zero_at attributes_at walk.attribute_at walk.read_at walk.passed_at places.content_at module_at packages_at main_at name_at new_name_at names_at version_at requires_at requires_table_at grant_at grants_at implementations_at provides_at provides_table_at each_at steps_at pool_at entry_at content_at text_at bits_at units_read units_from unit_at plain has_no_lone_surrogate names.parts names.package_of lib.Utf8.encode
filled_read = refl

absent : (x : List ℕ) → Contains [] x → ⊥
absent x c = omega (arith, c.1)

filled_keeps : KeepsRules filled
unfolding names.parts names.package_of
filled_keeps = record {
  name = refl;
  required = (refl, (refl, tt));
  exports = (record { granted = refl; modules = (refl, tt); distinct = (absent (codes "b"), tt); some = λ e. absurd cc }, tt);
  opens = (record { granted = refl; modules = tt; distinct = tt; some = λ e. absurd cc }, tt);
  uses = (refl, tt);
  provides = (record { service = refl; classes = (refl, tt); distinct = (absent (codes "p/A"), tt); some = λ e. absurd cc }, tt);
  packages = (refl, tt);
  main = refl;
  distinct_required = ((λ c. absurd (let e : codes "b" ≡ codes "java.base" = single (codes "b") (codes "java.base") c in cc)), (absent (codes "b"), tt));
  distinct_exports = (absent (codes "p"), tt);
  distinct_opens = (absent (codes "p"), tt);
  distinct_uses = (absent (codes "p/S"), tt);
  distinct_provides = (absent (codes "p/S"), tt);
  distinct_packages = (absent (codes "p"), tt);
  closed = λ e. absurd cc;
  base = refl;
  none_missing = refl;
}

filled_members : members filled ≡ 9
filled_members = refl
