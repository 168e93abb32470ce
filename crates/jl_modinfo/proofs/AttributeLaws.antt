-- Attributes: what is read stands there, and what stands there is read.
use Rattle.std.proofs.Common.{◌≡◌, ℕ, List, [], ◌∷◌, length, Bool, true, false, not, cond, ◌||◌, Option, None, Some, Ok, refl, sym, ap, ◌∙◌, subst}
use Rattle.std.specs.Prelude.{codes}
use Rattle.std.specs.List.{list_any}
use Rattle.std.specs.Cmp.Lexicographic.{bytes_decides}
use Rattle.jl_logic.specs.Order.{is_text}
use Rattle.jl_reading.specs.Reading.{◌>>=◌, Stands, IsBytes, number_at, two, counted}
use Rattle.jl_reading.proofs.Steps.{bind_ok, ok_is, bind_to}
use Rattle.jl_pool.specs.declared.entry.Entry.{Entry}
use Rattle.jl_pool.specs.Pool.{class_named}
use Rattle.jl_classfile.specs.Spelling.{Attribute, attribute_bytes, AreAttributes, AtMostOne, is_some_that}
use Rattle.jl_classfile.specs.Spelling as spelling
use Rattle.jl_classfile.specs.Attributes.{first_that, or_else}
use Rattle.jl_classfile.specs.Attributes as framing
use Rattle.jl_classfile.proofs.AttributeLaws.{Laws, AreRead, forms_of}
use Rattle.jl_classfile.proofs.AttributeLaws as walk
use Rattle.jl_classfile.proofs.Slots.{Slot, Slots, slot_found, slots_read, names_form, has_kind, meant_once, at_most_once}
use Rattle.jl_modinfo.specs.declared.module.Module.{Module}
use Rattle.jl_modinfo.specs.declared.attribute.FileParts.{FileParts}
use Rattle.jl_modinfo.specs.declared.attribute.Form.{Form}
use Rattle.jl_modinfo.specs.declared.attribute.Form.TheVariants as forms
use Rattle.jl_modinfo.specs.declared.attribute.Part.{Part}
use Rattle.jl_modinfo.specs.declared.attribute.Part.TheVariants as parts
use Rattle.jl_tables.specs.Faults.{short}
use Rattle.jl_tables.specs.Meaning.{package_named}
use Rattle.jl_modinfo.specs.Info.{Body, body_bytes, contents}
use Rattle.jl_tables.specs.Spelling.{Names, NameAll}
use Rattle.jl_modinfo.specs.Reading.{form_of, is_form, part_form, part_at, is_first, reader_of, module_in, packages_in, main_in, attributes_in, attributes_at, module_at, packages_at, main_at}
use Rattle.jl_modinfo.proofs.BodyLaws.{Declares, module_stands, module_reads, packages_stand, packages_read, main_stands, main_reads}

-- ---- the three contents

abbrev pub IsModuleContent : List Entry → List ℕ → Module → Type 0
IsModuleContent pool content m = (b : Body) × (content ≡ body_bytes b) × Declares pool b m

abbrev pub IsPackagesContent : List Entry → List ℕ → List (List ℕ) → Type 0
IsPackagesContent pool content packages = (is : List ℕ) × (content ≡ counted two is) × NameAll package_named pool is packages

abbrev pub IsMainContent : List Entry → List ℕ → List ℕ → Type 0
IsMainContent pool content class = (i : ℕ) × (content ≡ two i) × Names class_named pool i class

-- what the content of an attribute of a form means
abbrev pub Means : List Entry → Form → List ℕ → Part → Type 0
Means pool forms.Module content (parts.Module m) = IsModuleContent pool content m
Means pool forms.Packages content (parts.Packages packages) = IsPackagesContent pool content packages
Means pool forms.MainClass content (parts.MainClass class) = IsMainContent pool content class
Means pool _ content _ = ⊥

abbrev Held : List Entry → Form → List ℕ → ℕ → Part → Type 0
Held pool k bytes at v = (content : List ℕ) × Means pool k content v × Stands bytes at content (length bytes)

means_stand : (pool : List Entry) (k : Form) (bytes : List ℕ) (at : ℕ) (v : Part) → IsBytes bytes → part_at pool k bytes at ≡ Ok v → Held pool k bytes at v
means_stand pool forms.Module bytes at v b e =
    let s = bind_ok (module_at pool bytes at) (λ m. Ok (parts.Module m)) v e in
    let c = module_stands pool bytes at s.0 b s.1 in
    subst (Held pool forms.Module bytes at) (ok_is (parts.Module s.0) v s.2) (body_bytes c.body, (c.body, refl, c.declares), c.stands)
means_stand pool forms.Packages bytes at v b e =
    let s = bind_ok (packages_at pool bytes at) (λ packages. Ok (parts.Packages packages)) v e in
    let c = packages_stand pool bytes at s.0 b s.1 in
    subst (Held pool forms.Packages bytes at) (ok_is (parts.Packages s.0) v s.2) (counted two c.indices, (c.indices, refl, c.all), c.stands)
means_stand pool forms.MainClass bytes at v b e =
    let s = bind_ok (main_at pool bytes at) (λ class. Ok (parts.MainClass class)) v e in
    let c = main_stands pool bytes at s.0 b s.1 in
    subst (Held pool forms.MainClass bytes at) (ok_is (parts.MainClass s.0) v s.2) (two c.index, (c.index, refl, c.is), c.stands)

means_read : (pool : List Entry) (k : Form) (bytes : List ℕ) (at : ℕ) (v : Part) (content : List ℕ) → Means pool k content v → Stands bytes at content (length bytes) → part_at pool k bytes at ≡ Ok v
means_read pool forms.Module bytes at (parts.Module m) content h s = bind_to (λ m. Ok (parts.Module m)) (module_reads pool bytes at m h.0 h.2 (subst (λ t. Stands bytes at t (length bytes)) h.1 s)) refl
means_read pool forms.Module bytes at (parts.Packages x) content h s = absurd h
means_read pool forms.Module bytes at (parts.MainClass x) content h s = absurd h
means_read pool forms.Packages bytes at (parts.Module x) content h s = absurd h
means_read pool forms.Packages bytes at (parts.Packages ps) content h s = bind_to (λ packages. Ok (parts.Packages packages)) (packages_read pool bytes at ps h.0 h.2 (subst (λ t. Stands bytes at t (length bytes)) h.1 s)) refl
means_read pool forms.Packages bytes at (parts.MainClass x) content h s = absurd h
means_read pool forms.MainClass bytes at (parts.Module x) content h s = absurd h
means_read pool forms.MainClass bytes at (parts.Packages x) content h s = absurd h
means_read pool forms.MainClass bytes at (parts.MainClass c) content h s = bind_to (λ class. Ok (parts.MainClass class)) (main_reads pool bytes at c h.0 h.2 (subst (λ t. Stands bytes at t (length bytes)) h.1 s)) refl

laws : (pool : List Entry) → Laws (reader_of pool) (Means pool)
laws pool = record {
  stand = λ k place bytes at v b le e. means_stand pool k bytes at v b e;
  read = λ k place bytes at v content m s. means_read pool k bytes at v content m s;
}

-- ---- each form once

not_any : (b c : Bool) → not (cond b true c) ≡ true → (b ≡ false) × (not c ≡ true)
not_any true c e = absurd cc
not_any false c e = (refl, e)

first_module : (done : List Part) → is_first done forms.Module ≡ true → first_that module_in done ≡ None
first_module [] e = refl
first_module (parts.Module m ∷ done) e = absurd cc
first_module (parts.Packages x ∷ done) e = first_module done e
first_module (parts.MainClass x ∷ done) e = first_module done e

first_packages : (done : List Part) → is_first done forms.Packages ≡ true → first_that packages_in done ≡ None
first_packages [] e = refl
first_packages (parts.Module m ∷ done) e = first_packages done e
first_packages (parts.Packages x ∷ done) e = absurd cc
first_packages (parts.MainClass x ∷ done) e = first_packages done e

first_main : (done : List Part) → is_first done forms.MainClass ≡ true → first_that main_in done ≡ None
first_main [] e = refl
first_main (parts.Module m ∷ done) e = first_main done e
first_main (parts.Packages x ∷ done) e = first_main done e
first_main (parts.MainClass x ∷ done) e = absurd cc

module_slot : (pool : List Entry) → Slot (Means pool) is_first (is_form forms.Module) module_in (IsModuleContent pool)
module_slot pool = record { here = here; other = other; apart = apart }
  where
    here : (k : Form) (c : List ℕ) (v : Part) → is_form forms.Module k ≡ true → Means pool k c v → (w : Module) × (module_in v ≡ Some w) × IsModuleContent pool c w
    here forms.Module c (parts.Module m) e h = (m, refl, h)
    here forms.Module c (parts.Packages x) e h = absurd h
    here forms.Module c (parts.MainClass x) e h = absurd h
    here forms.Packages c v e h = absurd cc
    here forms.MainClass c v e h = absurd cc

    other : (k : Form) (c : List ℕ) (v : Part) → is_form forms.Module k ≡ false → Means pool k c v → module_in v ≡ None
    other forms.Module c v e h = absurd cc
    other forms.Packages c (parts.Packages x) e h = refl
    other forms.Packages c (parts.Module x) e h = absurd h
    other forms.Packages c (parts.MainClass x) e h = absurd h
    other forms.MainClass c (parts.MainClass x) e h = refl
    other forms.MainClass c (parts.Module x) e h = absurd h
    other forms.MainClass c (parts.Packages x) e h = absurd h

    apart : (done : List Part) (k : Form) → is_form forms.Module k ≡ true → is_first done k ≡ true → first_that module_in done ≡ None
    apart done forms.Module e f = first_module done f
    apart done forms.Packages e f = absurd cc
    apart done forms.MainClass e f = absurd cc

packages_slot : (pool : List Entry) → Slot (Means pool) is_first (is_form forms.Packages) packages_in (IsPackagesContent pool)
packages_slot pool = record { here = here; other = other; apart = apart }
  where
    here : (k : Form) (c : List ℕ) (v : Part) → is_form forms.Packages k ≡ true → Means pool k c v → (w : List (List ℕ)) × (packages_in v ≡ Some w) × IsPackagesContent pool c w
    here forms.Packages c (parts.Packages m) e h = (m, refl, h)
    here forms.Packages c (parts.Module x) e h = absurd h
    here forms.Packages c (parts.MainClass x) e h = absurd h
    here forms.Module c v e h = absurd cc
    here forms.MainClass c v e h = absurd cc

    other : (k : Form) (c : List ℕ) (v : Part) → is_form forms.Packages k ≡ false → Means pool k c v → packages_in v ≡ None
    other forms.Packages c v e h = absurd cc
    other forms.Module c (parts.Module x) e h = refl
    other forms.Module c (parts.Packages x) e h = absurd h
    other forms.Module c (parts.MainClass x) e h = absurd h
    other forms.MainClass c (parts.MainClass x) e h = refl
    other forms.MainClass c (parts.Module x) e h = absurd h
    other forms.MainClass c (parts.Packages x) e h = absurd h

    apart : (done : List Part) (k : Form) → is_form forms.Packages k ≡ true → is_first done k ≡ true → first_that packages_in done ≡ None
    apart done forms.Packages e f = first_packages done f
    apart done forms.Module e f = absurd cc
    apart done forms.MainClass e f = absurd cc

main_slot : (pool : List Entry) → Slot (Means pool) is_first (is_form forms.MainClass) main_in (IsMainContent pool)
main_slot pool = record { here = here; other = other; apart = apart }
  where
    here : (k : Form) (c : List ℕ) (v : Part) → is_form forms.MainClass k ≡ true → Means pool k c v → (w : List ℕ) × (main_in v ≡ Some w) × IsMainContent pool c w
    here forms.MainClass c (parts.MainClass m) e h = (m, refl, h)
    here forms.MainClass c (parts.Module x) e h = absurd h
    here forms.MainClass c (parts.Packages x) e h = absurd h
    here forms.Module c v e h = absurd cc
    here forms.Packages c v e h = absurd cc

    other : (k : Form) (c : List ℕ) (v : Part) → is_form forms.MainClass k ≡ false → Means pool k c v → main_in v ≡ None
    other forms.MainClass c v e h = absurd cc
    other forms.Module c (parts.Module x) e h = refl
    other forms.Module c (parts.Packages x) e h = absurd h
    other forms.Module c (parts.MainClass x) e h = absurd h
    other forms.Packages c (parts.Packages x) e h = refl
    other forms.Packages c (parts.Module x) e h = absurd h
    other forms.Packages c (parts.MainClass x) e h = absurd h

    apart : (done : List Part) (k : Form) → is_form forms.MainClass k ≡ true → is_first done k ≡ true → first_that main_in done ≡ None
    apart done forms.MainClass e f = first_main done f
    apart done forms.Module e f = absurd cc
    apart done forms.Packages e f = absurd cc

-- ---- contents by names and by forms

abbrev form_by : Bool → Bool → Bool → Option Form
form_by a b c = cond a (Some forms.Module) (cond b (Some forms.Packages) (cond c (Some forms.MainClass) None))

is_module_by : (a b c : Bool) → is_some_that (is_form forms.Module) (form_by a b c) ≡ a
is_module_by true b c = refl
is_module_by false true c = refl
is_module_by false false true = refl
is_module_by false false false = refl

is_packages_by : (a b c : Bool) → (a ≡ true → b ≡ false) → is_some_that (is_form forms.Packages) (form_by a b c) ≡ b
is_packages_by true b c h = sym (h refl)
is_packages_by false true c h = refl
is_packages_by false false true h = refl
is_packages_by false false false h = refl

is_main_by : (a b c : Bool) → (a ≡ true → c ≡ false) → (b ≡ true → c ≡ false) → is_some_that (is_form forms.MainClass) (form_by a b c) ≡ c
is_main_by true b c h g = sym (h refl)
is_main_by false true c h g = sym (g refl)
is_main_by false false true h g = refl
is_main_by false false false h g = refl

other_text : (n t u : List ℕ) → is_text t u ≡ false → is_text n t ≡ true → is_text n u ≡ false
other_text n t u apart e = subst (λ m. is_text m u ≡ false) (sym ((bytes_decides n t).0 e)) apart

by_names : (pool : List Entry) (attributes : List Attribute) (is name : List ℕ → Bool) → ((n : List ℕ) → is n ≡ name n) → spelling.contents pool is attributes ≡ spelling.contents pool name attributes
by_names pool attributes is name same = ap (λ (p : List ℕ → Bool). spelling.contents pool p attributes) (λ i n. same n i)

module_names : (pool : List Entry) (attributes : List Attribute) → spelling.contents pool (names_form form_of (is_form forms.Module)) attributes ≡ contents pool (codes "Module") attributes
module_names pool attributes = by_names pool attributes (names_form form_of (is_form forms.Module)) (λ n. is_text n (codes "Module"))
    (λ n. is_module_by (is_text n (codes "Module")) (is_text n (codes "ModulePackages")) (is_text n (codes "ModuleMainClass")))

packages_names : (pool : List Entry) (attributes : List Attribute) → spelling.contents pool (names_form form_of (is_form forms.Packages)) attributes ≡ contents pool (codes "ModulePackages") attributes
packages_names pool attributes = by_names pool attributes (names_form form_of (is_form forms.Packages)) (λ n. is_text n (codes "ModulePackages"))
    (λ n. is_packages_by (is_text n (codes "Module")) (is_text n (codes "ModulePackages")) (is_text n (codes "ModuleMainClass")) (other_text n (codes "Module") (codes "ModulePackages") refl))

main_names : (pool : List Entry) (attributes : List Attribute) → spelling.contents pool (names_form form_of (is_form forms.MainClass)) attributes ≡ contents pool (codes "ModuleMainClass") attributes
main_names pool attributes = by_names pool attributes (names_form form_of (is_form forms.MainClass)) (λ n. is_text n (codes "ModuleMainClass"))
    (λ n. is_main_by (is_text n (codes "Module")) (is_text n (codes "ModulePackages")) (is_text n (codes "ModuleMainClass"))
    (other_text n (codes "Module") (codes "ModuleMainClass") refl) (other_text n (codes "ModulePackages") (codes "ModuleMainClass") refl))

-- ---- all attributes

-- the attributes declare this together
pub record Declared (pool : List Entry) (attributes : List Attribute) (all : FileParts) : Type 0 where
  pub modules : AtMostOne (IsModuleContent pool) (contents pool (codes "Module") attributes) all.«module»
  pub packages : AtMostOne (IsPackagesContent pool) (contents pool (codes "ModulePackages") attributes) all.packages
  pub main : AtMostOne (IsMainContent pool) (contents pool (codes "ModuleMainClass") attributes) all.main

declared_by : (pool : List Entry) (attributes : List Attribute) (vs : List Part) → AreRead (Means pool) is_first [] (forms_of form_of pool attributes) vs → Declared pool attributes (attributes_in vs)
declared_by pool attributes vs read = record {
  modules = subst (λ cs. AtMostOne (IsModuleContent pool) cs (first_that module_in vs)) (module_names pool attributes)
      (slot_found (Means pool) is_first (is_form forms.Module) module_in (IsModuleContent pool) (module_slot pool) form_of pool attributes vs read);
  packages = subst (λ cs. AtMostOne (IsPackagesContent pool) cs (first_that packages_in vs)) (packages_names pool attributes)
      (slot_found (Means pool) is_first (is_form forms.Packages) packages_in (IsPackagesContent pool) (packages_slot pool) form_of pool attributes vs read);
  main = subst (λ cs. AtMostOne (IsMainContent pool) cs (first_that main_in vs)) (main_names pool attributes)
      (slot_found (Means pool) is_first (is_form forms.MainClass) main_in (IsMainContent pool) (main_slot pool) form_of pool attributes vs read);
}

pub record AllStand (pool : List Entry) (bytes : List ℕ) (at : ℕ) (x : FileParts × ℕ) : Type 0 where
  pub attributes : List Attribute
  pub are : AreAttributes pool attributes
  pub stands : Stands bytes at (counted attribute_bytes attributes) x.1
  pub declared : Declared pool attributes x.0

pub attributes_stand : (pool : List Entry) (bytes : List ℕ) (at : ℕ) (x : FileParts × ℕ) → IsBytes bytes → attributes_at pool bytes at ≡ Ok x → AllStand pool bytes at x
unfolding attributes_at
attributes_stand pool bytes at x b e =
    let s1 = bind_ok (number_at short 2 bytes at) (λ count. framing.attributes_at (reader_of pool) pool count.0 bytes count.1 >>= λ read. Ok (attributes_in read.0, read.1)) x e in
    let s2 = bind_ok (framing.attributes_at (reader_of pool) pool s1.0.0 bytes s1.0.1) (λ read. Ok (attributes_in read.0, read.1)) x s1.2 in
    let a = walk.attributes_stand short (reader_of pool) (Means pool) (laws pool) pool bytes at s1.0 s2.0 b s1.1 s2.1 in
    subst (AllStand pool bytes at) (ok_is (attributes_in s2.0.0, s2.0.1) x s2.2) (record {
      attributes = a.attributes;
      are = a.are;
      stands = a.stands;
      declared = declared_by pool a.attributes s2.0.0 a.read;
    })

-- ---- what stands there is read

same_is : (j k : Form) → is_form j k ≡ true → j ≡ k
same_is forms.Module forms.Module e = refl
same_is forms.Packages forms.Packages e = refl
same_is forms.MainClass forms.MainClass e = refl
same_is _ _ e = absurd cc

same_self : (k : Form) → is_form k k ≡ true
same_self forms.Module = refl
same_self forms.Packages = refl
same_self forms.MainClass = refl

kinds : (pool : List Entry) (k : Form) (c : List ℕ) (v : Part) → Means pool k c v → part_form v ≡ k
kinds pool forms.Module c (parts.Module m) h = refl
kinds pool forms.Module c (parts.Packages x) h = absurd h
kinds pool forms.Module c (parts.MainClass x) h = absurd h
kinds pool forms.Packages c (parts.Module x) h = absurd h
kinds pool forms.Packages c (parts.Packages m) h = refl
kinds pool forms.Packages c (parts.MainClass x) h = absurd h
kinds pool forms.MainClass c (parts.Module x) h = absurd h
kinds pool forms.MainClass c (parts.Packages x) h = absurd h
kinds pool forms.MainClass c (parts.MainClass m) h = refl

none_before : (k : Form) (done : List Part) → has_kind (is_form k) part_form done ≡ list_any (λ part. is_form k (part_form part)) done
none_before k [] = refl
none_before k (v ∷ done) = either (is_form k (part_form v)) (none_before k done)
  where
    either : {x y : Bool} (b : Bool) → x ≡ y → cond b true x ≡ (b || y)
    either true e = refl
    either false e = e

abbrev slot_in : FileParts → Form → Option Part
slot_in all forms.Module = by all.«module» where
  by : Option Module → Option Part
  by None = None
  by (Some m) = Some (parts.Module m)
slot_in all forms.Packages = by all.packages where
  by : Option (List (List ℕ)) → Option Part
  by None = None
  by (Some packages) = Some (parts.Packages packages)
slot_in all forms.MainClass = by all.main where
  by : Option (List ℕ) → Option Part
  by None = None
  by (Some class) = Some (parts.MainClass class)

slots : (pool : List Entry) (all : FileParts) → Slots (Means pool) is_first is_form part_form (slot_in all)
slots pool all = record {
  same_is = same_is;
  same_self = same_self;
  kinds = kinds pool;
  allowed = λ done k v is each none. ap not (sym (none_before k done) ∙ none);
}

slot_of : (pool : List Entry) (attributes : List Attribute) (all : FileParts) → Declared pool attributes all → (k : Form) → AtMostOne (Means pool k) (spelling.contents pool (names_form form_of (is_form k)) attributes) (slot_in all k)
slot_of pool attributes all d forms.Module = subst (λ cs. AtMostOne (Means pool forms.Module) cs (slot_in all forms.Module)) (sym (module_names pool attributes)) (by all.«module» d.modules)
  where
    by : (o : Option Module) → AtMostOne (IsModuleContent pool) (contents pool (codes "Module") attributes) o → AtMostOne (Means pool forms.Module) (contents pool (codes "Module") attributes) (slot_in (record all { «module» = o }) forms.Module)
    by None one = one
    by (Some m) one = one
slot_of pool attributes all d forms.Packages = subst (λ cs. AtMostOne (Means pool forms.Packages) cs (slot_in all forms.Packages)) (sym (packages_names pool attributes)) (by all.packages d.packages)
  where
    by : (o : Option (List (List ℕ))) → AtMostOne (IsPackagesContent pool) (contents pool (codes "ModulePackages") attributes) o → AtMostOne (Means pool forms.Packages) (contents pool (codes "ModulePackages") attributes) (slot_in (record all { packages = o }) forms.Packages)
    by None one = one
    by (Some m) one = one
slot_of pool attributes all d forms.MainClass = subst (λ cs. AtMostOne (Means pool forms.MainClass) cs (slot_in all forms.MainClass)) (sym (main_names pool attributes)) (by all.main d.main)
  where
    by : (o : Option (List ℕ)) → AtMostOne (IsMainContent pool) (contents pool (codes "ModuleMainClass") attributes) o → AtMostOne (Means pool forms.MainClass) (contents pool (codes "ModuleMainClass") attributes) (slot_in (record all { main = o }) forms.MainClass)
    by None one = one
    by (Some m) one = one

module_once : (pool : List Entry) (c : List ℕ) (v w : Module) → IsModuleContent pool c v → IsModuleContent pool c w → v ≡ w
module_once pool c v w a b = is (meant_once (reader_of pool) (Means pool) (laws pool) forms.Module c (parts.Module v) (parts.Module w) a b)
  where
    is : parts.Module v ≡ parts.Module w → v ≡ w
    is e = cc

packages_once : (pool : List Entry) (c : List ℕ) (v w : List (List ℕ)) → IsPackagesContent pool c v → IsPackagesContent pool c w → v ≡ w
packages_once pool c v w a b = is (meant_once (reader_of pool) (Means pool) (laws pool) forms.Packages c (parts.Packages v) (parts.Packages w) a b)
  where
    is : parts.Packages v ≡ parts.Packages w → v ≡ w
    is e = cc

main_once : (pool : List Entry) (c : List ℕ) (v w : List ℕ) → IsMainContent pool c v → IsMainContent pool c w → v ≡ w
main_once pool c v w a b = is (meant_once (reader_of pool) (Means pool) (laws pool) forms.MainClass c (parts.MainClass v) (parts.MainClass w) a b)
  where
    is : parts.MainClass v ≡ parts.MainClass w → v ≡ w
    is e = cc

-- attributes declare one thing together
declared_once : (pool : List Entry) (attributes : List Attribute) (all other : FileParts) → Declared pool attributes all → Declared pool attributes other → all ≡ other
declared_once pool attributes all other a b =
    let modules = at_most_once (IsModuleContent pool) (module_once pool) (contents pool (codes "Module") attributes) all.«module» other.«module» a.modules b.modules in
    let packages = at_most_once (IsPackagesContent pool) (packages_once pool) (contents pool (codes "ModulePackages") attributes) all.packages other.packages a.packages b.packages in
    let main = at_most_once (IsMainContent pool) (main_once pool) (contents pool (codes "ModuleMainClass") attributes) all.main other.main a.main b.main in
    λ i. record { «module» = modules i; packages = packages i; main = main i }

pub attributes_again : (pool : List Entry) (bytes : List ℕ) (at next : ℕ) (attributes : List Attribute) (all : FileParts) → Declared pool attributes all → AreAttributes pool attributes
    → Stands bytes at (counted attribute_bytes attributes) next → attributes_at pool bytes at ≡ Ok (all, next)
unfolding attributes_at
attributes_again pool bytes at next attributes all d are s =
    let vs = slots_read (Means pool) is_first is_form part_form (slot_in all) (slots pool all) form_of pool attributes (slot_of pool attributes all d) in
    let r = walk.attributes_again short (reader_of pool) (Means pool) (laws pool) pool bytes at next attributes vs.0 are vs.1 s in
    let same = declared_once pool attributes (attributes_in vs.0) all (declared_by pool attributes vs.0 vs.1) d in
    bind_to _ r.0 (bind_to _ r.1 (ap (λ (a : FileParts). Ok (a, next)) same))
