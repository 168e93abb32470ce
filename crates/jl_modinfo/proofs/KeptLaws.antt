-- What a file declares keeps the rules under which writing gives it back.
use Rattle.std.proofs.Common.{◌≡◌, ℕ, Bool, true, List, [], ◌∷◌, map, Option, None, Some, refl, sym, subst, ◌∙◌, inl, inr}
use Rattle.std.specs.Prelude.{IsTrue}
use Rattle.std.specs.List.{AllByRecursion}
use Rattle.std.proofs.lemmas.Bool.{cond_both}
use Rattle.std.proofs.lemmas.Option.{option_and_then_some}
use Rattle.jl_logic.specs.Lists.{AreDistinct, Match}
use Rattle.jl_prim.specs.Names.{names_a_module}
use Rattle.jl_prim.specs.declared.declaration.Requires.{Requires}
use Rattle.jl_prim.specs.declared.declaration.Grant.{Grant}
use Rattle.jl_prim.specs.declared.declaration.Provides.{Provides}
use Rattle.jl_names.specs.Names.{names_a_class}
use Rattle.jl_pool.specs.declared.entry.Entry.{Entry}
use Rattle.jl_pool.specs.Pool.{that, text_that, paired_text, class_of, module_of, package_of, class_named}
use Rattle.jl_classfile.specs.Spelling.{Attribute}
use Rattle.jl_tables.specs.Meaning.{module_named, package_named, targets_of}
use Rattle.jl_tables.specs.Spelling.{RequiresRow, GrantRow, ProvidesRow, Names, NameAll, IsRequires, IsGrant, IsProvides}
use Rattle.jl_modinfo.specs.Info.{ArePackages, IsMain}
use Rattle.jl_tables.specs.Layout.{targets}
use Rattle.jl_modinfo.specs.Writing.{AreModules, AreClasses, IsFineGrant, IsFineProvides, IsFineMain}
use Rattle.jl_modinfo.specs.Kept.{FilesKeepRules}

-- ---- names

some_is : {X : Type 0} (x y : X) → Some x ≡ Some y → x ≡ y
some_is x y e = cc

that_right : (p : List ℕ → Bool) (text y : List ℕ) → that p text ≡ Some y → IsTrue (p y)
that_right p text y = cond_both (p text) (Some text) None (λ o. o ≡ Some y → IsTrue (p y)) (λ t e. subst (λ z. p z ≡ true) (some_is text y e) t) (λ f e. absurd cc)

text_right : (p : List ℕ → Bool) (pool : List Entry) (i : ℕ) (y : List ℕ) → text_that p pool i ≡ Some y → IsTrue (p y)
text_right p pool i y e = option_and_then_some (that p) (paired_text pool i) y e (λ x a b. that_right p x y b)

module_right : (pool : List Entry) (i : ℕ) (y : List ℕ) → module_named pool i ≡ Some y → IsTrue (names_a_module y)
module_right pool i y e = option_and_then_some (text_that names_a_module pool) (module_of pool i) y e (λ x a b. text_right names_a_module pool x y b)

package_right : (pool : List Entry) (i : ℕ) (y : List ℕ) → package_named pool i ≡ Some y → IsTrue (names_a_class y)
package_right pool i y e = option_and_then_some (text_that names_a_class pool) (package_of pool i) y e (λ x a b. text_right names_a_class pool x y b)

class_right : (pool : List Entry) (i : ℕ) (y : List ℕ) → class_named pool i ≡ Some y → IsTrue (names_a_class y)
class_right pool i y e = option_and_then_some (text_that names_a_class pool) (class_of pool i) y e (λ x a b. text_right names_a_class pool x y b)

-- ---- tables

each_right : {A B : Type 0} (R : A → B → Type 0) (P : B → Type 0) → ((a : A) (b : B) → R a b → P b) → (xs : List A) (ys : List B) → Match R xs ys → AllByRecursion P ys
each_right R P h [] [] m = tt
each_right R P h (a ∷ xs) [] m = tt
each_right R P h [] (b ∷ ys) m = absurd m
each_right R P h (a ∷ xs) (b ∷ ys) m = (h a b m.0, each_right R P h xs ys m.1)

none_left : {A B : Type 0} (R : A → B → Type 0) (xs : List A) → Match R xs [] → xs ≡ []
none_left R [] m = refl
none_left R (a ∷ xs) m = absurd m

of_map : {A B : Type 0} (f : A → B) (P : B → Type 0) (xs : List A) → AllByRecursion (λ a. P (f a)) xs → AllByRecursion P (map f xs)
of_map f P [] all = tt
of_map f P (a ∷ xs) all = (all.0, of_map f P xs all.1)

all_modules : (pool : List Entry) (is : List ℕ) (names : List (List ℕ)) → NameAll module_named pool is names → AreModules names
all_modules pool is names all = each_right (Names module_named pool) (λ n. IsTrue (names_a_module n)) (λ i n r. module_right pool i n r.1) is names all.each

all_classes : (pool : List Entry) (is : List ℕ) (names : List (List ℕ)) → NameAll class_named pool is names → AreClasses names
all_classes pool is names all = each_right (Names class_named pool) (λ n. IsTrue (names_a_class n)) (λ i n r. class_right pool i n r.1) is names all.each

all_packages : (pool : List Entry) (is : List ℕ) (names : List (List ℕ)) → NameAll package_named pool is names → AreClasses names
all_packages pool is names all = each_right (Names package_named pool) (λ n. IsTrue (names_a_class n)) (λ i n r. package_right pool i n r.1) is names all.each

-- ---- grants and services

granted_to : (g : Grant) (ts : List (List ℕ)) → g.to ≡ targets_of ts → targets g ≡ ts
granted_to g [] e = rw e refl
granted_to g (t ∷ ts) e = rw e refl

not_to_none : (ts : List (List ℕ)) → targets_of ts ≡ Some [] → ⊥
not_to_none [] e = absurd cc
not_to_none (t ∷ ts) e = absurd cc

fine_grant : (pool : List Entry) (r : GrantRow) (g : Grant) → IsGrant pool r g → IsFineGrant g
fine_grant pool r g is =
    let same = sym (granted_to g is.targets is.to) in
    record {
      granted = package_right pool r.index g.«package» is.named.1;
      modules = subst AreModules same (all_modules pool r.targets is.targets is.all);
      distinct = subst AreDistinct same is.all.distinct;
      some = λ e. not_to_none is.targets (sym is.to ∙ e);
    }

fine_provides : (pool : List Entry) (r : ProvidesRow) (p : Provides) → IsProvides pool r p → IsFineProvides p
fine_provides pool r p is = record {
  service = class_right pool r.index p.service is.named.1;
  classes = all_classes pool r.classes p.implementations is.all;
  distinct = is.all.distinct;
  some = λ e. is.some (none_left (Names class_named pool) r.classes (subst (λ names. Match (Names class_named pool) r.classes names) e is.all.each));
}

-- ---- packages and main class

fine_packages : (pool : List Entry) (attributes : List Attribute) (found packages : List (List ℕ)) → ArePackages pool attributes found packages → AreClasses found → AreDistinct found → AreClasses packages × AreDistinct packages
fine_packages pool attributes found packages (inl given) classes distinct = (subst AreClasses (sym given.1) classes, subst AreDistinct (sym given.1) distinct)
fine_packages pool attributes found packages (inr listed) classes distinct = (all_packages pool listed.0 packages listed.2, listed.2.distinct)

fine_main : (pool : List Entry) (attributes : List Attribute) (main : Option (List ℕ)) → IsMain pool attributes main → IsFineMain main
fine_main pool attributes None is = tt
fine_main pool attributes (Some class) is = class_right pool is.0 class is.2.1

pub files_keep_rules : FilesKeepRules
files_keep_rules bytes found d is classes distinct =
    let b = is.declares in
    let packages = fine_packages is.pool is.attributes found d.packages is.packages classes distinct in
    record {
      name = module_right is.pool is.body.index d.name b.name.1;
      required = of_map (λ (r : Requires). r.name) (λ n. IsTrue (names_a_module n)) d.required
          (each_right (IsRequires is.pool) (λ (r : Requires). IsTrue (names_a_module r.name)) (λ (row : RequiresRow) (r : Requires) h. module_right is.pool row.index r.name h.named.1) is.body.required d.required b.required.each);
      exports = each_right (IsGrant is.pool) IsFineGrant (fine_grant is.pool) is.body.exports d.exports b.exports.each;
      opens = each_right (IsGrant is.pool) IsFineGrant (fine_grant is.pool) is.body.opens d.opens b.opens.each;
      uses = all_classes is.pool is.body.uses d.uses b.uses;
      provides = each_right (IsProvides is.pool) IsFineProvides (fine_provides is.pool) is.body.provides d.provides b.provides.each;
      packages = packages.0;
      main = fine_main is.pool is.attributes d.main is.main;
      distinct_required = b.required.distinct;
      distinct_exports = b.exports.distinct;
      distinct_opens = b.opens.distinct;
      distinct_uses = b.uses.distinct;
      distinct_provides = b.provides.distinct;
      distinct_packages = packages.1;
      closed = b.closed;
      base = is.base;
      none_missing = is.none_missing;
    }
