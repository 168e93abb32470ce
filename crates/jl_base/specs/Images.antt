-- The class that a row declares (JVMS 4.1, 4.5, 4.6).
use Rattle.std.specs.Prelude.{List, [], ◌∷◌, None, Result, Ok, Err, if◌then◌else◌}
use Rattle.std.specs.List.{flat_map}
use Rattle.jl_pool.specs.declared.entry.Entry.{Entry}
use Rattle.jl_class.specs.declared.member.FieldDecl.{FieldDecl}
use Rattle.jl_class.specs.declared.member.MethodDecl.{MethodDecl}
use Rattle.jl_class.specs.Classes.{Class}
use Rattle.jl_classw.specs.declared.fault.WriteFault.{WriteFault}
use Rattle.jl_classw.specs.Building.{unless_empty}
use Rattle.jl_base.specs.Rows.{Row, Member, is_field}
use Rattle.jl_base.specs.Made.{class_made}

-- the member as a field, without a constant, if it is one
abbrev pub field_in : Member → List FieldDecl
field_in m = if is_field m.kind then (record { flags = m.flags; name = m.name; desc = m.desc; constant = None }) ∷ [] else []

-- the member as a method, without code, if it is one
abbrev pub method_in : Member → List MethodDecl
method_in m = if is_field m.kind then [] else (record { flags = m.flags; name = m.name; desc = m.desc; code = None }) ∷ []

-- The pool of a class that was made. No row of the table is refused, so that the other case is never read.
abbrev pub pool_in : Result Class WriteFault → List Entry
pool_in (Ok c) = c.pool
pool_in (Err fault) = []

-- The class of a row, of Java SE 17, with its members in their order and no attributes. It is what `class_made` gives, and its pool has what these parts name, in the order in which they are entered.
unfoldable pub class_of : Row → Class
class_of row = record {
  major = 61;
  minor = 0;
  flags = row.flags;
  name = row.name;
  super_name = unless_empty row.super_name;
  interfaces = row.interfaces;
  fields = flat_map field_in row.members;
  methods = flat_map method_in row.members;
  nest_host = None;
  nest_members = [];
  permits = None;
  pool = pool_in (class_made row);
}
