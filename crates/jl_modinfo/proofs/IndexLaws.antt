-- The indices of the constants of a pool have their names.
use Rattle.std.proofs.Common.{◌≡◌, ℕ, ◌<◌, Bool, true, List, [], ◌∷◌, Option, Some, refl, sym, ap, subst, ◌∙◌, inl, inr}
use Rattle.std.specs.Prelude.{IsUtf8, option_map, if◌then◌else◌}
use Rattle.std.specs.List.{AllByRecursion}
use Rattle.std.specs.Option.{option_and_then}
use Rattle.std.proofs.lemmas.Bool.{cases_Bool}
use Rattle.jl_names.specs.Text.{plain}
use Rattle.jl_names.specs.Utf16.{utf16}
use Rattle.jl_names.specs.Names.{names_a_class}
use Rattle.jl_names.proofs.Utf16Laws.{utf16_back, utf16_paired}
use Rattle.jl_prim.specs.Names.{names_a_module}
use Rattle.jl_pool.specs.declared.constant.Constant.{Constant}
use Rattle.jl_pool.specs.declared.constant.Constant.TheVariants as constants
use Rattle.jl_pool.specs.Pool.{paired, that, text_that, utf8_of, utf8_units, text_of, class_name, module_name, package_name, class_named}
use Rattle.jl_pool.specs.Builder.{is_same, text_in, has, with_constant, with_needed, index_of, index_in, pool_of, IsKept, AreKept}
use Rattle.jl_pool.proofs.BuilderLaws.{same_is, has_kept, has_new}
use Rattle.jl_pool.proofs.PoolLaws.{entry_there, index_fits}
use Rattle.jl_tables.specs.Meaning.{module_named, package_named}
use Rattle.jl_modinfo.specs.Meaning.{class_text}
use Rattle.jl_tables.specs.Spelling.{Names}
use Rattle.jl_modinfo.specs.Layout.{with_all}
use Rattle.jl_tables.specs.Layout.{module_index, class_index, package_index}

-- ---- what is entered is there

has_needed : (cs : List Constant) (x c : Constant) → has cs c ≡ true → has (with_needed cs x) c ≡ true
has_needed cs x c e = has_kept (with_constant cs (constants.Text (text_in x))) x c (has_kept cs (constants.Text (text_in x)) c e)

stays : (xs cs : List Constant) (c : Constant) → has cs c ≡ true → has (with_all cs xs) c ≡ true
stays [] cs c e = e
stays (x ∷ xs) cs c e = stays xs (with_needed cs x) c (has_needed cs x c e)

pub all_there : (xs cs : List Constant) → AllByRecursion (λ (c : Constant). has (with_all cs xs) c ≡ true) xs
all_there [] cs = tt
all_there (x ∷ xs) cs = (stays xs (with_needed cs x) x (has_new (with_constant cs (constants.Text (text_in x))) x), all_there xs (with_needed cs x))

pub kept_of : (all cs : List Constant) (c : Constant) → AllByRecursion (IsKept all) cs → has cs c ≡ true → IsKept all c
kept_of all [] c a e = absurd cc
kept_of all (x ∷ xs) c a e = elim (cases_Bool (is_same c x)) [
  | inl t ↦ subst (IsKept all) (sym (same_is c x t)) a.0
  | inr f ↦ kept_of all xs c a.1 (rw f at e)
]

-- ---- names by their indices

module _ (cs : List Constant) (kept : AreKept cs) where
  pub index_is : (c : Constant) → has cs c ≡ true → index_in cs c ≡ index_of cs c
  index_is c e = ap (λ (b : Bool). if b then index_of cs c else 0) e

  pub small : (c : Constant) → has cs c ≡ true → index_in cs c < 65536
  small c e = subst (λ (n : ℕ). n < 65536) (sym (index_is c e)) (index_fits cs c kept e)

  units_at : (t : List ℕ) → has cs (constants.Text t) ≡ true → utf8_of (pool_of cs) (index_of cs (constants.Text t)) ≡ Some (utf16 t)
  units_at t e = ap utf8_units (entry_there cs (constants.Text t) e)

  utf8_in : (c : Constant) → has cs c ≡ true → IsUtf8 (text_in c)
  utf8_in c e = (kept_of cs cs c kept.each e).utf8

  text_in_pool : (c : Constant) → has cs c ≡ true → has cs (constants.Text (text_in c)) ≡ true
  text_in_pool c e = (kept_of cs cs c kept.each e).text

  text_named : (is_name : List ℕ → Bool) (c : Constant) → has cs c ≡ true → is_name (text_in c) ≡ true → text_that is_name (pool_of cs) (index_of cs (constants.Text (text_in c))) ≡ Some (text_in c)
  text_named is_name c e fine =
      ap (λ o. option_and_then (that is_name) (option_and_then paired o)) (units_at (text_in c) (text_in_pool c e)) ∙ rw (utf16_paired (text_in c) (utf8_in c e), utf16_back (text_in c) (utf8_in c e), fine) refl

  pub text_there : (t : List ℕ) → has cs (constants.Text t) ≡ true → text_of (pool_of cs) (index_in cs (constants.Text t)) ≡ Some t
  text_there t e =
      ap (text_of (pool_of cs)) (index_is (constants.Text t) e) ∙ (ap (λ (o : Option (List ℕ)). option_map plain o) (units_at t e) ∙ ap (λ (n : List ℕ). Some n) (utf16_back t (utf8_in (constants.Text t) e)))

  pub class_there : (t : List ℕ) → has cs (constants.Class t) ≡ true → names_a_class t ≡ true → Names class_named (pool_of cs) (class_index cs t) t
  class_there t e fine = (
    small (constants.Class t) e,
    ap (class_named (pool_of cs)) (index_is (constants.Class t) e)
        ∙ (ap (λ o. option_and_then (text_that names_a_class (pool_of cs)) (class_name o)) (entry_there cs (constants.Class t) e) ∙ text_named names_a_class (constants.Class t) e fine),
  )

  pub module_there : (t : List ℕ) → has cs (constants.Module t) ≡ true → names_a_module t ≡ true → Names module_named (pool_of cs) (module_index cs t) t
  module_there t e fine = (
    small (constants.Module t) e,
    ap (module_named (pool_of cs)) (index_is (constants.Module t) e)
        ∙ (ap (λ o. option_and_then (text_that names_a_module (pool_of cs)) (module_name o)) (entry_there cs (constants.Module t) e) ∙ text_named names_a_module (constants.Module t) e fine),
  )

  pub package_there : (t : List ℕ) → has cs (constants.Package t) ≡ true → names_a_class t ≡ true → Names package_named (pool_of cs) (package_index cs t) t
  package_there t e fine = (
    small (constants.Package t) e,
    ap (package_named (pool_of cs)) (index_is (constants.Package t) e)
        ∙ (ap (λ o. option_and_then (text_that names_a_class (pool_of cs)) (package_name o)) (entry_there cs (constants.Package t) e) ∙ text_named names_a_class (constants.Package t) e fine),
  )

  pub class_text_there : (t : List ℕ) → has cs (constants.Class t) ≡ true → class_text (pool_of cs) (class_index cs t) ≡ Some t
  class_text_there t e =
      ap (class_text (pool_of cs)) (index_is (constants.Class t) e)
      ∙ (ap (λ o. option_and_then (text_of (pool_of cs)) (class_name o)) (entry_there cs (constants.Class t) e)
      ∙ (ap (text_of (pool_of cs)) (sym (index_is (constants.Text t) (text_in_pool (constants.Class t) e))) ∙ text_there t (text_in_pool (constants.Class t) e)))
