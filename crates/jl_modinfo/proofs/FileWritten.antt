-- What is written is a file of the declaration.
use Rattle.std.proofs.Common.{◌≡◌, ℕ, ◌+◌, ◌<◌, ◌≤◌, true, List, [], ◌∷◌, ◌++◌, map, length, drop, Option, None, Some, refl, sym, ap, ap₂, subst, ◌∙◌, append_assoc, arith, inl, inr}
use Rattle.std.specs.Prelude.{Result, Ok, Err, IfOk, codes}
use Rattle.std.specs.List.{flat_map, AllByRecursion}
use Rattle.std.proofs.lemmas.List.{append-nil, length-append, drop_at}
use Rattle.std.proofs.lemmas.List.Concat.{flat_map-cons}
use Rattle.jl_reading.specs.Reading.{Stands, two, counted}
use Rattle.jl_reading.proofs.Stands.{Stands-from_parts}
use Rattle.jl_prim.specs.declared.declaration.Declaration.{Declaration}
use Rattle.jl_pool.specs.declared.constant.Constant.{Constant}
use Rattle.jl_pool.specs.declared.constant.Constant.TheVariants as constants
use Rattle.jl_pool.specs.declared.entry.Entry.{Entry}
use Rattle.jl_pool.specs.declared.entry.Entry.TheVariants as entries
use Rattle.jl_names.specs.Names.{names_a_class}
use Rattle.jl_tables.specs.Meaning.{package_named}
use Rattle.jl_pool.specs.Builder.{has, pool_of, entries_of, AreKept}
use Rattle.jl_pool.specs.Pool.{text_of}
use Rattle.jl_pool.specs.Spelling.{entry_bytes}
use Rattle.jl_pool.proofs.PoolLaws.{makes_pool}
use Rattle.jl_classfile.specs.Spelling.{Attribute, attribute_bytes, AttributeFits}
use Rattle.jl_modinfo.specs.Info.{back_bytes, body_bytes, contents, IsMain, IsInfo}
use Rattle.jl_modinfo.specs.Writing.{members, KeepsRules, IsFineMain, write_told, accepted}
use Rattle.jl_logic.specs.Answers.{Gives}
use Rattle.jl_tables.specs.declared.fault.InfoWriteFault.{InfoWriteFault}
use Rattle.jl_modinfo.specs.Layout.{package_constant, main_constants, front_constants, table_constants, back_constants, named_constants, body_of, named_attribute, main_attributes, attributes_of, attribute_written, main_written, attribute_count, attributes_written, class_written, front_written, pool_written, file_written, AreFew}
use Rattle.jl_tables.specs.Layout.{class_index, package_index, class_bytes, package_bytes}
use Rattle.jl_modinfo.proofs.IndexLaws.{class_there, package_there, class_text_there, text_there, small}
use Rattle.jl_modinfo.proofs.SizeLaws.{small_body, small_packages}
use Rattle.jl_modinfo.proofs.AllLaws.{all_front, all_back}
use Rattle.jl_modinfo.proofs.BodyWritten.{body_is, body_same, counted_same, names_there}

-- ---- the parts stand one behind the other

-- a text behind a front, before a rest
stands_in : (front text rest : List ℕ) → Stands (front ++ (text ++ rest)) (length front) text (length front + length text)
stands_in front text rest =
    let l = length-append front (text ++ rest) in
    let m = length-append text rest in
    Stands-from_parts (front ++ (text ++ rest)) (length front) text rest (length front + length text) (drop_at front (text ++ rest) (length front) refl) refl (omega (arith, l, m))

-- ---- the attributes

main_counts : (cs : List Constant) (m : Option (List ℕ)) → 2 + length (main_attributes cs m) ≡ attribute_count m
main_counts cs None = refl
main_counts cs (Some m) = refl

main_same : (cs : List Constant) (m : Option (List ℕ)) → flat_map attribute_bytes (main_attributes cs m) ≡ main_written cs m
main_same cs None = refl
main_same cs (Some m) = flat_map-cons attribute_bytes (named_attribute cs (codes "ModuleMainClass") (two (class_index cs m))) [] ∙ append-nil (attribute_written cs (codes "ModuleMainClass") (class_bytes cs m))

attributes_same : (cs : List Constant) (d : Declaration) → counted attribute_bytes (attributes_of cs d) ≡ attributes_written cs d
attributes_same cs d =
    let one = named_attribute cs (codes "Module") (body_bytes (body_of cs d)) in
    let other = named_attribute cs (codes "ModulePackages") (counted two (map (package_index cs) d.packages)) in
    let main = main_attributes cs d.main in
    let count : length (attributes_of cs d) ≡ attribute_count d.main = let c = main_counts cs d.main in omega (arith, c) in
    ap₂ (λ (n : ℕ) (l : List ℕ). two n ++ l) count
    (flat_map-cons attribute_bytes one (other ∷ main)
    ∙ ap₂ (λ (a b : List ℕ). a ++ b) (ap (attribute_written cs (codes "Module")) (body_same cs d))
    (flat_map-cons attribute_bytes other main
    ∙ ap₂ (λ (a b : List ℕ). a ++ b) (ap (attribute_written cs (codes "ModulePackages")) (counted_same two (package_index cs) (package_bytes cs) (λ n. refl) d.packages)) (main_same cs d.main)))

back_same : (cs : List Constant) (d : Declaration) → class_written cs ++ attributes_written cs d ≡ back_bytes (class_index cs (codes "module-info")) (attributes_of cs d)
back_same cs d = ap (λ (l : List ℕ). class_written cs ++ l) (sym (attributes_same cs d))

pub pool_same : (cs : List Constant) → pool_written cs ≡ two (length (pool_of cs)) ++ flat_map entry_bytes (entries_of cs)
pool_same cs = ap (λ (l : List ℕ). two (length (pool_of cs)) ++ l) (flat_map-cons entry_bytes entries.Unused (entries_of cs))

-- ---- attributes by their names

module_two : (pool : List Entry) (a b : Attribute) → text_of pool a.index ≡ Some (codes "Module") → text_of pool b.index ≡ Some (codes "ModulePackages")
    → (contents pool (codes "Module") (a ∷ b ∷ []) ≡ a.content ∷ []) × (contents pool (codes "ModulePackages") (a ∷ b ∷ []) ≡ b.content ∷ []) × (contents pool (codes "ModuleMainClass") (a ∷ b ∷ []) ≡ [])
module_two pool a b ea eb = (rw (ea, eb) refl, rw (ea, eb) refl, rw (ea, eb) refl)

module_three : (pool : List Entry) (a b c : Attribute) → text_of pool a.index ≡ Some (codes "Module") → text_of pool b.index ≡ Some (codes "ModulePackages") → text_of pool c.index ≡ Some (codes "ModuleMainClass")
    → (contents pool (codes "Module") (a ∷ b ∷ c ∷ []) ≡ a.content ∷ []) × (contents pool (codes "ModulePackages") (a ∷ b ∷ c ∷ []) ≡ b.content ∷ []) × (contents pool (codes "ModuleMainClass") (a ∷ b ∷ c ∷ []) ≡ c.content ∷ [])
module_three pool a b c ea eb ec = (rw (ea, eb, ec) refl, rw (ea, eb, ec) refl, rw (ea, eb, ec) refl)

record AreRight (pool : List Entry) (a b : Attribute) (rest : List Attribute) (m : Option (List ℕ)) : Type 0 where
  pub fit : AllByRecursion (AttributeFits pool) (a ∷ b ∷ rest)
  pub declared : contents pool (codes "Module") (a ∷ b ∷ rest) ≡ a.content ∷ []
  pub listed : contents pool (codes "ModulePackages") (a ∷ b ∷ rest) ≡ b.content ∷ []
  pub main : IsMain pool (a ∷ b ∷ rest) m

module _ (cs : List Constant) (kept : AreKept cs) where
  abbrev There : Constant → Type 0
  There c = has cs c ≡ true

  named_fits : (name content : List ℕ) → has cs (constants.Text name) ≡ true → length content < 4294967296 → AttributeFits (pool_of cs) (named_attribute cs name content)
  named_fits name content there lt = (small cs kept (constants.Text name) there, lt, (name, text_there cs kept name there))

  are_right : (one other : List ℕ) (m : Option (List ℕ)) → has cs (constants.Text (codes "Module")) ≡ true → has cs (constants.Text (codes "ModulePackages")) ≡ true
      → AllByRecursion (λ (c : Constant). has cs c ≡ true) (main_constants m) → IsFineMain m → length one < 4294967296 → length other < 4294967296
      → AreRight (pool_of cs) (named_attribute cs (codes "Module") one) (named_attribute cs (codes "ModulePackages") other) (main_attributes cs m) m
  are_right one other None there_one there_other there fine lt_one lt_other =
      let three = module_two (pool_of cs) (named_attribute cs (codes "Module") one) (named_attribute cs (codes "ModulePackages") other) (text_there cs kept (codes "Module") there_one) (text_there cs kept (codes "ModulePackages") there_other) in
      record {
        fit = (named_fits (codes "Module") one there_one lt_one, (named_fits (codes "ModulePackages") other there_other lt_other, tt));
        declared = three.0;
        listed = three.1;
        main = three.2;
      }
  are_right one other (Some class) there_one there_other there fine lt_one lt_other =
      let three = module_three (pool_of cs) (named_attribute cs (codes "Module") one) (named_attribute cs (codes "ModulePackages") other) (named_attribute cs (codes "ModuleMainClass") (two (class_index cs class)))
      (text_there cs kept (codes "Module") there_one) (text_there cs kept (codes "ModulePackages") there_other) (text_there cs kept (codes "ModuleMainClass") there.0) in
      record {
        fit = (named_fits (codes "Module") one there_one lt_one, (named_fits (codes "ModulePackages") other there_other lt_other, (named_fits (codes "ModuleMainClass") (two (class_index cs class)) there.0 (omega arith), tt)));
        declared = three.0;
        listed = three.1;
        main = (class_index cs class, three.2, class_there cs kept class there.1.0 fine);
      }

  few_attributes : (m : Option (List ℕ)) → 2 + length (main_attributes cs m) < 65536
  few_attributes None = omega arith
  few_attributes (Some m) = omega arith

  pub whole : (d : Declaration) → AllByRecursion (λ (c : Constant). has cs c ≡ true) (named_constants d) → AreFew d
      → members d ≤ 16777216 → KeepsRules d → (found : List (List ℕ)) → IsInfo (file_written cs d) found d
  whole d there few few_members rules found =
      let lt_body = small_body cs d few_members in
      let lt_packages = small_packages cs d few_members in
      let front = all_front There (front_constants d) (table_constants d ++ back_constants d) there in
      let behind = all_back There (table_constants d) (back_constants d) (all_back There (front_constants d) (table_constants d ++ back_constants d) there) in
      let packages = all_front There (map package_constant d.packages) (main_constants d.main) behind.1 in
      let main = all_back There (map package_constant d.packages) (main_constants d.main) behind.1 in
      let body = body_bytes (body_of cs d) in
      let list = counted two (map (package_index cs) d.packages) in
      let rest = class_written cs ++ attributes_written cs d in
      let end = length front_written + length (pool_written cs) in
      let right = are_right body list d.main front.1.0 behind.0 main rules.main
      (subst (λ (l : List ℕ). length l < 4294967296) (sym (body_same cs d)) lt_body)
      (subst (λ (l : List ℕ). length l < 4294967296) (sym (counted_same two (package_index cs) (package_bytes cs) (λ n. refl) d.packages)) lt_packages) in
      let pool_stands = stands_in front_written (pool_written cs) rest in
      let l = length-append front_written (pool_written cs ++ rest) in
      let m = length-append (pool_written cs) rest in
      let back = Stands-from_parts (file_written cs d) end rest [] (length (file_written cs d))
      (ap (drop end) (sym (append_assoc front_written (pool_written cs) rest)) ∙ (drop_at (front_written ++ pool_written cs) rest end (length-append front_written (pool_written cs)) ∙ sym (append-nil rest)))
      (omega (arith, l, m)) (omega arith) in
      record {
        minor = 0;
        major = 53;
        pool = pool_of cs;
        pool_end = end;
        this = class_index cs (codes "module-info");
        attributes = attributes_of cs d;
        body = body_of cs d;
        numbers = (omega arith, small cs kept (constants.Class (codes "module-info")) front.0);
        front = stands_in [] front_written (pool_written cs ++ rest);
        version = refl;
        pool_stands = record {
          es = entries_of cs;
          count = length (pool_of cs);
          first_unused = refl;
          counts = inl refl;
          right = makes_pool cs kept;
          stands = subst (λ (text : List ℕ). Stands (file_written cs d) 8 text end) (pool_same cs) pool_stands;
        };
        back = subst (λ (text : List ℕ). Stands (file_written cs d) end text (length (file_written cs d))) (back_same cs d) back;
        this_named = class_text_there cs kept (codes "module-info") front.0;
        are = record { few = let few = few_attributes d.main in omega (arith, few); fit = right.fit };
        module_there = right.declared;
        declares = body_is cs kept d there few rules;
        packages = inr (map (package_index cs) d.packages, right.listed, names_there cs kept package_named package_constant names_a_class (package_there cs kept) d.packages packages rules.packages few.packages rules.distinct_packages);
        main = right.main;
        base = rules.base;
        none_missing = rules.none_missing;
      }

-- ---- the clause on what is read back

pub written_back : {X : Type 0} (items : X → List ℕ) (r : Result X InfoWriteFault) (cs : List Constant) (d : Declaration) → AllByRecursion (λ (c : Constant). has cs c ≡ true) (named_constants d) → AreFew d
    → IfOk r (λ x. items x ≡ file_written cs d) → IfOk r (λ _. AreKept cs) → members d ≤ 16777216
    → IfOk r (λ x. KeepsRules d → (found : List (List ℕ)) → IsInfo (items x) found d)
written_back items (Ok x) cs d there few e kept few_members = λ rules found. subst (λ (bytes : List ℕ). IsInfo bytes found d) (sym e) (whole cs kept d there few few_members rules found)
written_back items (Err f) cs d there few e kept few_members = tt

pub refused_never : {X : Type 0} (P : X → Type 0) (r : Result X InfoWriteFault) (table : List ℕ) → Gives {Y = Unit {0}} write_told (λ _. tt) r (accepted (Some table)) → IfOk r P
refused_never P (Ok x) table e = absurd cc
refused_never P (Err f) table e = tt
