-- Members of a class that some file declares are right in themselves.
use Rattle.std.proofs.Common.{◌≡◌, ℕ, Bool, true, List, [], ◌∷◌, Option, None, Some, subst, inl, inr}
use Rattle.std.specs.List.{AllByRecursion}
use Rattle.std.specs.Option.{option_and_then}
use Rattle.std.proofs.lemmas.Bool.{cases_Bool}
use Rattle.jl_logic.specs.Lists.{Match}
use Rattle.jl_names.specs.Names.{names_a_field}
use Rattle.jl_pool.specs.declared.entry.Entry.{Entry}
use Rattle.jl_pool.specs.Pool.{that, paired_text}
use Rattle.jl_class.specs.declared.member.CodeBytes.{CodeBytes}
use Rattle.jl_class.specs.declared.member.FieldDecl.{FieldDecl}
use Rattle.jl_class.specs.declared.member.MethodDecl.{MethodDecl}
use Rattle.jl_classfile.specs.Spelling.{AtMostOne, contents}
use Rattle.jl_class.specs.Meaning.{names_constant_value, names_code, names_method_with, describes_a_field, describes_method_with, is_interface}
use Rattle.jl_class.specs.Classes.{Class}
use Rattle.jl_class.specs.Spelling.{Member, IsConstant, IsCode, IsField, IsMethod, IsSet, IsRightField, FitsWhereThere, IsRightMethod, IsClass}

-- a text that has a property has it
that_right : (test : List ℕ → Bool) (o : Option (List ℕ)) (name : List ℕ) → option_and_then (that test) o ≡ Some name → test name ≡ true
that_right test None name e = absurd cc
that_right test (Some text) name e = elim (cases_Bool (test text)) [
  | inl t ↦ let found : Some text ≡ Some name = (rw t at e) in let same : text ≡ name = cc in subst (λ (x : List ℕ). test x ≡ true) same t
  | inr f ↦ absurd (let none : None ≡ Some name = (rw f at e) in cc)
]

is_set : (flags : ℕ) (desc : List ℕ) (pool : List Entry) (cs : List (List ℕ)) (o : Option ℕ) → AtMostOne (IsConstant flags desc pool) cs o → IsSet flags desc pool o
is_set flags desc pool cs None one = tt
is_set flags desc pool cs (Some i) one = one.2.2

field_right : (in_interface : Bool) (pool : List Entry) (m : Member) (f : FieldDecl) → IsField in_interface pool m f → IsRightField in_interface pool f
field_right in_interface pool m f is = record {
  flagged = is.flagged;
  named = that_right names_a_field (paired_text pool m.name) f.name is.named;
  described = that_right describes_a_field (paired_text pool m.desc) f.desc is.described;
  constant = is_set f.flags f.desc pool (contents pool names_constant_value m.attributes) f.constant is.constant;
}

fits_there : (pool : List Entry) (cs : List (List ℕ)) (o : Option CodeBytes) → AtMostOne (IsCode pool) cs o → FitsWhereThere o
fits_there pool cs None one = tt
fits_there pool cs (Some c) one = let code : IsCode pool one.0 c = one.2 in code.fits

method_right : (pool : List Entry) (m : Member) (d : MethodDecl) → IsMethod pool m d → IsRightMethod d
method_right pool m d is = record {
  flagged = is.flagged;
  named = that_right (names_method_with d.flags) (paired_text pool m.name) d.name is.named;
  described = that_right (describes_method_with d.name) (paired_text pool m.desc) d.desc is.described;
  has = is.has;
  fits = fits_there pool (contents pool names_code m.attributes) d.code is.code;
}

all_right : {A B : Type 0} (R : A → B → Type 0) (P : B → Type 0) → ((a : A) (b : B) → R a b → P b) → (xs : List A) (ys : List B) → Match R xs ys → AllByRecursion P ys
all_right R P h [] [] m = tt
all_right R P h (a ∷ xs) (b ∷ ys) m = (h a b m.0, all_right R P h xs ys m.1)
all_right R P h [] (b ∷ ys) m = absurd m
all_right R P h (a ∷ xs) [] m = absurd m

pub fields_right : (bytes : List ℕ) (c : Class) → IsClass bytes c → AllByRecursion (IsRightField (is_interface c.flags) c.pool) c.fields
fields_right bytes c is =
    all_right (IsField (is_interface c.flags) c.pool) (IsRightField (is_interface c.flags) c.pool) (field_right (is_interface c.flags) c.pool) is.parts.fields c.fields is.declares.fields.each

pub methods_right : (bytes : List ℕ) (c : Class) → IsClass bytes c → AllByRecursion IsRightMethod c.methods
methods_right bytes c is = all_right (IsMethod c.pool) IsRightMethod (method_right c.pool) is.parts.methods c.methods is.declares.methods.each
