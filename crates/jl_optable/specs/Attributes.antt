-- The attributes that are read, with where they stand and from which major version on (JVMS 4.7).
use Rattle.std.specs.Prelude.{ℕ, List, [], ◌∷◌, Option, None, Some, Bool, true, false, ◌&&◌, nat_le, codes, if◌then◌else◌}
use Rattle.jl_logic.specs.Order.{is_text}
use Rattle.jl_optable.specs.declared.attributes.Site.{Site}
use Rattle.jl_optable.specs.declared.attributes.Site.TheVariants as sites
use Rattle.jl_optable.specs.declared.attributes.AttrForm.{AttrForm}
use Rattle.jl_optable.specs.declared.attributes.AttrForm.TheVariants as forms
use Rattle.jl_optable.specs.declared.attributes.AttrRow.{AttrRow}

-- the same site
abbrev pub is_site : Site → Site → Bool
is_site sites.Class sites.Class = true
is_site sites.Field sites.Field = true
is_site sites.Method sites.Method = true
is_site sites.Code sites.Code = true
is_site _ _ = false

-- the name of the attributes of a form
abbrev pub name_of : AttrForm → List ℕ
name_of forms.ConstantIndex = codes "ConstantValue"
name_of forms.CodeBody = codes "Code"
name_of forms.Frames = codes "StackMapTable"
name_of forms.Host = codes "NestHost"
name_of forms.Members = codes "NestMembers"
name_of forms.Components = codes "Record"
name_of forms.Permits = codes "PermittedSubclasses"

-- all rows, in order
abbrev pub table : List AttrRow
table =
    record { site = sites.Field; major = 53; form = forms.ConstantIndex }
    ∷ record { site = sites.Method; major = 53; form = forms.CodeBody }
    ∷ record { site = sites.Code; major = 53; form = forms.Frames }
    ∷ record { site = sites.Class; major = 55; form = forms.Host }
    ∷ record { site = sites.Class; major = 55; form = forms.Members }
    ∷ record { site = sites.Class; major = 60; form = forms.Components }
    ∷ record { site = sites.Class; major = 61; form = forms.Permits }
    ∷ []

-- the row is one for the attributes of a name at a site, in a file of a major version
abbrev pub is_for : Site → ℕ → List ℕ → AttrRow → Bool
is_for site major name row = is_site row.site site && (nat_le row.major major && is_text (name_of row.form) name)

-- the form of the first such row
unfoldable pub first_row : Site → ℕ → List ℕ → List AttrRow → Option AttrForm
first_row site major name [] = None
first_row site major name (row ∷ rows) = if is_for site major name row then Some row.form else first_row site major name rows

-- what the attributes of a name hold at a site, in a file of a major version, where they are read
abbrev pub attribute_form : Site → ℕ → List ℕ → Option AttrForm
attribute_form site major name = first_row site major name table
