-- Classes and interfaces as a class file declares them (JVMS 4.1).
use Rattle.std.specs.Prelude.{ℕ, List, Option}
use Rattle.jl_pool.specs.declared.entry.Entry.{Entry}
use Rattle.jl_class.specs.declared.member.FieldDecl.{FieldDecl}
use Rattle.jl_class.specs.declared.member.MethodDecl.{MethodDecl}

-- what a class file declares, with the pool to which its code refers
pub record Class : Type 0 where
  pub major : ℕ
  pub minor : ℕ
  pub flags : ℕ
  pub name : List ℕ
  pub super_name : Option (List ℕ)
  pub interfaces : List (List ℕ)
  pub fields : List FieldDecl
  pub methods : List MethodDecl
  pub nest_host : Option (List ℕ)
  pub nest_members : List (List ℕ)
  pub permits : Option (List (List ℕ))
  pub pool : List Entry
