-- Worked rows of the definitions of attributes.
use Rattle.std.proofs.Common.{◌≡◌, None, Some, refl}
use Rattle.std.specs.Prelude.{codes}
use Rattle.jl_optable.specs.declared.attributes.Site.TheVariants as sites
use Rattle.jl_optable.specs.declared.attributes.AttrForm.TheVariants as forms
use Rattle.jl_optable.specs.Attributes.{attribute_form, first_row}

code_of_a_method : attribute_form sites.Method 53 (codes "Code") ≡ Some forms.CodeBody
unfolding first_row
code_of_a_method = refl

code_of_a_class : attribute_form sites.Class 61 (codes "Code") ≡ None
unfolding first_row
code_of_a_class = refl

host_at_54 : attribute_form sites.Class 54 (codes "NestHost") ≡ None
unfolding first_row
host_at_54 = refl

host_at_55 : attribute_form sites.Class 55 (codes "NestHost") ≡ Some forms.Host
unfolding first_row
host_at_55 = refl

permits_at_61 : attribute_form sites.Class 61 (codes "PermittedSubclasses") ≡ Some forms.Permits
unfolding first_row
permits_at_61 = refl

source_file : attribute_form sites.Class 61 (codes "SourceFile") ≡ None
unfolding first_row
source_file = refl
