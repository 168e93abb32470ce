-- Rows of the table of classes.
use Rattle.std.specs.Prelude.{ℕ, List, map, Bool, true, false}
use Rattle.std.specs.Borrow.{Bor}
use Rattle.jl_base.specs.declared.row.MemberKind.{MemberKind}
use Rattle.jl_base.specs.declared.row.MemberKind.TheVariants as kinds

-- Every other kind is of methods.
abbrev pub is_field : MemberKind → Bool
is_field kinds.Field = true
is_field _ = false

-- a member by its row
pub record Member : Type 0 where
  pub flags : ℕ
  pub name : List ℕ
  pub desc : List ℕ
  pub kind : MemberKind

-- A class by its row. A superclass without a name is none.
pub record Row : Type 0 where
  pub flags : ℕ
  pub name : List ℕ
  pub super_name : List ℕ
  pub interfaces : List (List ℕ)
  pub members : List Member

-- a member as the program has it, and a class
abbrev pub MemberParts : Type 0
MemberParts = ℕ × Bor (List ℕ) × Bor (List ℕ) × MemberKind

abbrev pub RowParts : Type 0
RowParts = ℕ × Bor (List ℕ) × Bor (List ℕ) × Bor (List (Bor (List ℕ))) × Bor (List MemberParts)

-- a member and a class by what the program has of them
abbrev pub member_of : MemberParts → Member
member_of m = record { flags = m.0; name = m.1.now; desc = m.2.now; kind = m.3 }

abbrev pub row_of : RowParts → Row
row_of r = record { flags = r.0; name = r.1.now; super_name = r.2.now; interfaces = map (λ name. name.now) r.3.now; members = map member_of r.4.now }
