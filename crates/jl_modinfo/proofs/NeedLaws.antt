-- What a declaration needs, as constants, and how many there are.
use Rattle.std.proofs.Common.{◌≡◌, ℕ, ◌+◌, Bool, List, [], ◌∷◌, ◌++◌, length, map, Option, None, Some, refl, inl, inr, sym, ap, ap₂, subst, ◌∙◌, append_assoc, arith}
use Rattle.std.specs.Prelude.{Result, Ok, Err, IsOkUnless, codes, find, nat_lt, if◌then◌else◌}
use Rattle.std.specs.List.{flat_map, AllByRecursion}
use Rattle.std.specs.Option.{option_to_list}
use Rattle.std.proofs.lemmas.Bool.{cases_Bool, lt-ltb, le-ltb}
use Rattle.std.proofs.lemmas.List.{map-append}
use Rattle.std.proofs.lemmas.List.Concat.{flat_map-cons}
use Rattle.jl_prim.specs.declared.declaration.Requires.{Requires}
use Rattle.jl_prim.specs.declared.declaration.Grant.{Grant}
use Rattle.jl_prim.specs.declared.declaration.Provides.{Provides}
use Rattle.jl_prim.specs.declared.declaration.Declaration.{Declaration}
use Rattle.jl_pool.specs.declared.constant.Constant.{Constant}
use Rattle.jl_pool.specs.declared.constant.Constant.TheVariants as constants
use Rattle.jl_pool.specs.declared.constant.BuildEnd.TheVariants as ends
use Rattle.jl_pool.specs.Builder.{text_in, IsShort, fitting}
use Rattle.jl_logic.specs.Answers.{Gives}
use Rattle.jl_tables.specs.declared.fault.InfoWriteFault.{InfoWriteFault}
use Rattle.jl_tables.specs.declared.fault.InfoWriteFault.TheVariants as faults
use Rattle.jl_modinfo.specs.Writing.{Need, Counted, text_need, class_need, module_need, package_need, grant_needs, provides_needs, main_needs, named, with_text, each_once, pool_count, tables, too_many, AreShort, accepted, write_told}
use Rattle.jl_tables.specs.Layout.{targets}
use Rattle.jl_modinfo.specs.Layout.{need_of, module_constant, class_constant, package_constant, required_constant, grant_constants, provides_constants, main_constants, version_constants, front_constants, table_constants, back_constants, named_constants, with_all, first_long}
use Rattle.jl_modinfo.proofs.WritingLaws.{parts, length_all, fitting_is, fitting_not}

each_need : {X : Type 0} (f : X → Constant) (g : X → Need) → ((x : X) → need_of (f x) ≡ g x) → (xs : List X) → map need_of (map f xs) ≡ map g xs
each_need f g same [] = refl
each_need f g same (x ∷ xs) = ap₂ (λ (n : Need) (ns : List Need). n ∷ ns) (same x) (each_need f g same xs)

all_needs : {X : Type 0} (f : X → List Constant) (g : X → List Need) → ((x : X) → map need_of (f x) ≡ g x) → (xs : List X) → map need_of (flat_map f xs) ≡ flat_map g xs
all_needs f g same [] = refl
all_needs f g same (x ∷ xs) =
    ap (map need_of) (flat_map-cons f x xs) ∙ (map-append need_of (f x) (flat_map f xs)
    ∙ (ap₂ (λ (a b : List Need). a ++ b) (same x) (all_needs f g same xs) ∙ sym (flat_map-cons g x xs)))

grant_same : (g : Grant) → map need_of (grant_constants g) ≡ grant_needs g
grant_same g = ap (λ (ns : List Need). package_need g.package ∷ ns) (each_need module_constant module_need (λ n. refl) (targets g))

provides_same : (p : Provides) → map need_of (provides_constants p) ≡ provides_needs p
provides_same p = ap (λ (ns : List Need). class_need p.service ∷ ns) (each_need class_constant class_need (λ n. refl) p.implementations)

version_same : (v : Option (List ℕ)) → map need_of (version_constants v) ≡ map text_need (option_to_list v)
version_same None = refl
version_same (Some v) = refl

main_same : (m : Option (List ℕ)) → map need_of (main_constants m) ≡ main_needs m
main_same None = refl
main_same (Some m) = refl

joined : (a b : List Constant) (x y : List Need) → map need_of a ≡ x → map need_of b ≡ y → map need_of (a ++ b) ≡ x ++ y
joined a b x y e f = map-append need_of a b ∙ ap₂ (λ (l r : List Need). l ++ r) e f

pub named_same : (d : Declaration) → map need_of (named_constants d) ≡ named d
named_same d =
    let v = map text_need (option_to_list d.version) in
    let r = map (λ (q : Requires). module_need q.name) d.required in
    let e = flat_map grant_needs d.exports in
    let o = flat_map grant_needs d.opens in
    let u = map class_need d.uses in
    let p = flat_map provides_needs d.provides in
    let b = text_need (codes "ModulePackages") ∷ (map package_need d.packages ++ main_needs d.main) in
    let first = class_need (codes "module-info") ∷ text_need (codes "Module") ∷ module_need d.name ∷ [] in
    let front : map need_of (front_constants d) ≡ first ++ (v ++ r) =
    ap (λ (ns : List Need). first ++ ns) (joined (version_constants d.version) (map required_constant d.required) v r (version_same d.version) (each_need required_constant (λ (q : Requires). module_need q.name) (λ q. refl) d.required)) in
    let provided : map need_of (flat_map provides_constants d.provides) ≡ p = all_needs provides_constants provides_needs provides_same d.provides in
    let used : map need_of (map class_constant d.uses) ≡ u = each_need class_constant class_need (λ n. refl) d.uses in
    let granted : (gs : List Grant) → map need_of (flat_map grant_constants gs) ≡ flat_map grant_needs gs = all_needs grant_constants grant_needs grant_same in
    let table : map need_of (table_constants d) ≡ e ++ (o ++ (u ++ p)) =
    joined (flat_map grant_constants d.exports) (flat_map grant_constants d.opens ++ (map class_constant d.uses ++ flat_map provides_constants d.provides)) e (o ++ (u ++ p)) (granted d.exports)
    (joined (flat_map grant_constants d.opens) (map class_constant d.uses ++ flat_map provides_constants d.provides) o (u ++ p) (granted d.opens)
    (joined (map class_constant d.uses) (flat_map provides_constants d.provides) u p used provided)) in
    let back : map need_of (back_constants d) ≡ b =
    ap (λ (ns : List Need). text_need (codes "ModulePackages") ∷ ns) (joined (map package_constant d.packages) (main_constants d.main) (map package_need d.packages) (main_needs d.main) (each_need package_constant package_need (λ n. refl) d.packages) (main_same d.main)) in
    let whole : map need_of (named_constants d) ≡ (first ++ (v ++ r)) ++ ((e ++ (o ++ (u ++ p))) ++ b) =
    joined (front_constants d) (table_constants d ++ back_constants d) (first ++ (v ++ r)) ((e ++ (o ++ (u ++ p))) ++ b) front (joined (table_constants d) (back_constants d) (e ++ (o ++ (u ++ p))) b table back) in
    whole ∙ (ap (λ (ns : List Need). (first ++ (v ++ r)) ++ ns) (append_assoc e (o ++ (u ++ p)) b ∙ ap (λ (ns : List Need). e ++ ns) (append_assoc o (u ++ p) b ∙ ap (λ (ns : List Need). o ++ ns) (append_assoc u p b)))
    ∙ (append_assoc first (v ++ r) (e ++ (o ++ (u ++ (p ++ b)))) ∙ ap (λ (ns : List Need). first ++ ns) (append_assoc v r (e ++ (o ++ (u ++ (p ++ b)))))))

-- ---- the count of the pool

parts_same : (c : Constant) → with_text (need_of c) ≡ map need_of (parts c)
parts_same (constants.Text t) = refl
parts_same (constants.Class t) = refl
parts_same (constants.Module t) = refl
parts_same (constants.Package t) = refl

texts_same : (cs : List Constant) → flat_map with_text (map need_of cs) ≡ map need_of (flat_map parts cs)
texts_same [] = refl
texts_same (c ∷ cs) =
    flat_map-cons with_text (need_of c) (map need_of cs) ∙ (ap₂ (λ (a b : List Need). a ++ b) (parts_same c) (texts_same cs)
    ∙ (sym (map-append need_of (parts c) (flat_map parts cs)) ∙ ap (map need_of) (sym (flat_map-cons parts c cs))))

pub count_is : (d : Declaration) → length (with_all [] (named_constants d)) + 1 ≡ pool_count d
count_is d =
    ap (λ (n : ℕ). n + 1) (length_all (named_constants d) ∙ ap (λ (ns : List Need). length (each_once ns)) (sym (texts_same (named_constants d)) ∙ ap (flat_map with_text) (named_same d)))

-- ---- what is short

pub need_text : (c : Constant) → (need_of c).1 ≡ text_in c
need_text (constants.Text t) = refl
need_text (constants.Class t) = refl
need_text (constants.Module t) = refl
need_text (constants.Package t) = refl

short_constants : (cs : List Constant) → AllByRecursion (λ (n : Need). IsShort n.1) (map need_of cs) → AllByRecursion (λ (c : Constant). IsShort (text_in c)) cs
short_constants [] a = tt
short_constants (c ∷ cs) a = (subst IsShort (need_text c) a.0, short_constants cs a.1)

pub all_short : (d : Declaration) → AreShort d → AllByRecursion (λ (c : Constant). IsShort (text_in c)) (named_constants d)
all_short d short = short_constants (named_constants d) (subst (AllByRecursion (λ (n : Need). IsShort n.1)) (sym (named_same d)) short)

-- ---- what is refused

-- the name of the first that is too long, or what comes else
abbrev named_or : Option (List ℕ) → Option Counted → Option (List ℕ)
named_or other None = other
named_or other (Some t) = Some t.0

abbrev long_or : Option (List ℕ) → Option (List ℕ) → Option (List ℕ)
long_or other None = other
long_or other (Some n) = Some n

first_found : (other : Option (List ℕ)) (ts : List Counted) → named_or other (find (λ (t : Counted). nat_lt 65535 t.1) ts) ≡ long_or other (first_long ts)
first_found other [] = refl
first_found other (t ∷ ts) = elim (cases_Bool (nat_lt 65535 t.1)) [
  | inl l ↦ rw l refl
  | inr s ↦ rw s (first_found other ts)
]

abbrev pool_or : Declaration → Option (List ℕ)
pool_or d = if nat_lt 65535 (pool_count d) then Some (codes "pool") else None

unfolded : (d : Declaration) (o : Option Counted) → find (λ (t : Counted). nat_lt 65535 t.1) (tables d) ≡ o → too_many d ≡ named_or (pool_or d) o
unfolded d None e = rw e refl
unfolded d (Some t) e = rw e refl

too_many_is : (d : Declaration) → too_many d ≡ long_or (pool_or d) (first_long (tables d))
too_many_is d = unfolded d (find (λ (t : Counted). nat_lt 65535 t.1) (tables d)) refl ∙ first_found (pool_or d) (tables d)

pub refused_table : (d : Declaration) (table : List ℕ) → first_long (tables d) ≡ Some table → too_many d ≡ Some table
refused_table d table e = too_many_is d ∙ ap (long_or (pool_or d)) e

pub refused_pool : (d : Declaration) → first_long (tables d) ≡ None → fitting (with_all [] (named_constants d)) ≡ Err ends.TooMany → too_many d ≡ Some (codes "pool")
refused_pool d none e =
    let many = fitting_not (with_all [] (named_constants d)) e in
    let count = count_is d in
    too_many_is d ∙ (ap (long_or (pool_or d)) none ∙ ap (λ (b : Bool). if b then Some (codes "pool") else None) (lt-ltb 65535 (pool_count d) (omega (arith, many, count))))

pub refused_none : (d : Declaration) (cs : List Constant) → first_long (tables d) ≡ None → fitting (with_all [] (named_constants d)) ≡ Ok cs → too_many d ≡ None
refused_none d cs none e =
    let few = (fitting_is (with_all [] (named_constants d)) cs e).1 in
    let count = count_is d in
    too_many_is d ∙ (ap (long_or (pool_or d)) none ∙ ap (λ (b : Bool). if b then Some (codes "pool") else None) (le-ltb 65535 (pool_count d) (omega (arith, few, count))))

-- ---- the clause on what is refused

pub refused_as : {X : Type 0} (r : Result X InfoWriteFault) (a b : Option (List ℕ)) → a ≡ b → Gives {Y = Unit {0}} write_told (λ _. tt) r (accepted a) → Gives {Y = Unit {0}} write_told (λ _. tt) r (accepted b)
refused_as {X = X} r a b e g = subst (λ (o : Option (List ℕ)). Gives {X = X} {Y = Unit {0}} write_told (λ _. tt) r (accepted o)) e g

pub accepted_unless : {X : Type 0} (r : Result X InfoWriteFault) (a : Option (List ℕ)) → IsOkUnless r faults.NoMemory → a ≡ None → Gives {Y = Unit {0}} write_told (λ _. tt) r (accepted a)
accepted_unless (Ok x) a memory e = ap accepted e
accepted_unless (Err faults.NoMemory) a memory e = tt
accepted_unless (Err (faults.TooMany t)) a memory e = absurd cc
