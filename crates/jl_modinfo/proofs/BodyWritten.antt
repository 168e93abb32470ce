-- The rows that are written declare the entries that they were made of.
use Rattle.std.proofs.Common.{◌≡◌, ℕ, ◌+◌, ◌<◌, Bool, true, false, ◌==◌, List, [], ◌∷◌, ◌++◌, map, length, Option, None, Some, refl, sym, ap, ap₂, ◌∙◌, arith}
use Rattle.std.specs.Prelude.{IsTrue, if◌then◌else◌}
use Rattle.std.specs.List.{flat_map, AllByRecursion}
use Rattle.std.specs.Option.{option_and_then}
use Rattle.std.proofs.lemmas.Bool.{ne_eqb}
use Rattle.std.proofs.lemmas.List.{length-map}
use Rattle.std.proofs.lemmas.List.Concat.{flat_map-cons}
use Rattle.std.proofs.lemmas.List.Folds.{flat_map-map}
use Rattle.jl_logic.specs.Lists.{AreDistinct, Match}
use Rattle.jl_reading.specs.Reading.{two, counted}
use Rattle.jl_prim.specs.Names.{names_a_module}
use Rattle.jl_prim.specs.declared.declaration.Requires.{Requires}
use Rattle.jl_prim.specs.declared.declaration.Grant.{Grant}
use Rattle.jl_prim.specs.declared.declaration.Provides.{Provides}
use Rattle.jl_prim.specs.declared.declaration.Declaration.{Declaration}
use Rattle.jl_names.specs.Names.{names_a_class}
use Rattle.jl_pool.specs.declared.constant.Constant.{Constant}
use Rattle.jl_pool.specs.declared.entry.Entry.{Entry}
use Rattle.jl_pool.specs.declared.constant.Constant.TheVariants as constants
use Rattle.jl_pool.specs.Builder.{has, index_in, pool_of, AreKept}
use Rattle.jl_tables.specs.Meaning.{module_named, version_named, is_set, targets_of}
use Rattle.jl_pool.specs.Pool.{class_named}
use Rattle.jl_tables.specs.Spelling.{requires_bytes, grant_bytes, provides_bytes, Names, NameAll, IsRequires, IsGrant, IsProvides}
use Rattle.jl_modinfo.specs.Info.{body_bytes, IsBody}
use Rattle.jl_tables.specs.Layout.{targets}
use Rattle.jl_modinfo.specs.Writing.{IsFineGrant, IsFineProvides, KeepsRules}
use Rattle.jl_modinfo.specs.Layout.{module_constant, class_constant, required_constant, grant_constants, provides_constants, front_constants, table_constants, back_constants, named_constants, version_constants, version_index, body_of, body_written, AreFew}
use Rattle.jl_tables.specs.Layout.{module_index, class_index, requires_row, grant_row, provides_row, counted_by, class_bytes, package_bytes, requires_written, grant_written, provides_written}
use Rattle.jl_modinfo.proofs.AllLaws.{all_front, all_back, all_of, each_of, all_both}
use Rattle.jl_modinfo.proofs.IndexLaws.{class_there, module_there, package_there, text_there, index_is, small}

-- ---- lists

-- what holds of each of a list in two ways
matched : {X Y : Type 0} (R : Y → X → Type 0) (f : X → Y) (P Q : X → Type 0) → ((x : X) → P x → Q x → R (f x) x) → (xs : List X) → AllByRecursion P xs → AllByRecursion Q xs → Match R (map f xs) xs
matched R f P Q h [] a b = tt
matched R f P Q h (x ∷ xs) a b = (h x a.0 b.0, matched R f P Q h xs a.1 b.1)

few_map : {X Y : Type 0} (f : X → Y) (xs : List X) → length xs < 65536 → length (map f xs) < 65536
few_map f xs lt = let l = length-map xs f in omega (arith, l, lt)

-- a grant is to all, or to some
to_by : (p : List ℕ) (to : Option (List (List ℕ))) → (to ≡ Some [] → ⊥) → to ≡ targets_of (targets (record { «package» = p; to = to }))
to_by p None some = refl
to_by p (Some []) some = absurd (some refl)
to_by p (Some (t ∷ ts)) some = refl

to_is : (g : Grant) → (g.to ≡ Some [] → ⊥) → g.to ≡ targets_of (targets g)
to_is g some = to_by g.package g.to some

map_none : {X Y : Type 0} (f : X → Y) (xs : List X) → map f xs ≡ [] → xs ≡ []
map_none f [] e = refl
map_none f (x ∷ xs) e = absurd cc

-- ---- rows

module _ (cs : List Constant) (kept : AreKept cs) where
  abbrev There : Constant → Type 0
  There c = has cs c ≡ true

  pub names_there : (named : List Entry → ℕ → Option (List ℕ)) (constant : List ℕ → Constant) (is_name : List ℕ → Bool)
      → ((t : List ℕ) → There (constant t) → IsTrue (is_name t) → Names named (pool_of cs) (index_in cs (constant t)) t)
      → (names : List (List ℕ)) → AllByRecursion There (map constant names) → AllByRecursion (λ n. IsTrue (is_name n)) names → length names < 65536 → AreDistinct names
      → NameAll named (pool_of cs) (map (λ n. index_in cs (constant n)) names) names
  names_there named constant is_name law names there fine few apart = record {
    few = few_map (λ n. index_in cs (constant n)) names few;
    each = matched (Names named (pool_of cs)) (λ n. index_in cs (constant n)) (λ n. There (constant n)) (λ n. IsTrue (is_name n)) law names (all_of There constant names there) fine;
    distinct = apart;
  }

  classes_there : (names : List (List ℕ)) → AllByRecursion There (map class_constant names) → AllByRecursion (λ n. IsTrue (names_a_class n)) names → length names < 65536 → AreDistinct names
      → NameAll class_named (pool_of cs) (map (class_index cs) names) names
  classes_there = names_there class_named class_constant names_a_class (class_there cs kept)

  flags_fit : (t s : Bool) → (if t then 0x20 else 0) + (if s then 0x40 else 0) < 65536
  flags_fit true true = omega arith
  flags_fit true false = omega arith
  flags_fit false true = omega arith
  flags_fit false false = omega arith

  flag_transitive : (t s : Bool) → t ≡ is_set ((if t then 0x20 else 0) + (if s then 0x40 else 0)) 0x20
  flag_transitive true true = refl
  flag_transitive true false = refl
  flag_transitive false true = refl
  flag_transitive false false = refl

  flag_static : (t s : Bool) → s ≡ is_set ((if t then 0x20 else 0) + (if s then 0x40 else 0)) 0x40
  flag_static true true = refl
  flag_static true false = refl
  flag_static false true = refl
  flag_static false false = refl

  pub requires_is : (r : Requires) → There (required_constant r) → IsTrue (names_a_module r.name) → IsRequires (pool_of cs) (requires_row cs r) r
  requires_is r t f = record {
    fits = (flags_fit r.transitive r.is_static, omega arith);
    named = module_there cs kept r.name t f;
    version = (None, refl);
    transitive = flag_transitive r.transitive r.is_static;
    is_static = flag_static r.transitive r.is_static;
  }

  pub grant_is : (g : Grant) → AllByRecursion There (grant_constants g) → IsFineGrant g → length (targets g) < 65536 → IsGrant (pool_of cs) (grant_row cs g) g
  grant_is g there fine few = record {
    fits = omega arith;
    named = package_there cs kept g.package there.0 fine.granted;
    targets = targets g;
    to = to_is g fine.some;
    all = names_there module_named module_constant names_a_module (module_there cs kept) (targets g) there.1 fine.modules few fine.distinct;
  }

  pub provides_is : (p : Provides) → AllByRecursion There (provides_constants p) → IsFineProvides p → length p.implementations < 65536 → IsProvides (pool_of cs) (provides_row cs p) p
  provides_is p there fine few = record {
    named = class_there cs kept p.service there.0 fine.service;
    all = classes_there p.implementations there.1 fine.classes few fine.distinct;
    some = λ e. fine.some (map_none (class_index cs) p.implementations e);
  }

  -- ---- the whole body

  some_small : (d : Declaration) → AllByRecursion There (version_constants d.version) → version_index cs d.version < 65536
  some_small d there = by d.version there
    where
      by : (v : Option (List ℕ)) → AllByRecursion There (version_constants v) → version_index cs v < 65536
      by None there = omega arith
      by (Some v) there = small cs kept (constants.Text v) there.0

  version_is : (v : Option (List ℕ)) → AllByRecursion There (version_constants v) → version_named (pool_of cs) (version_index cs v) ≡ Some v
  version_is None there = refl
  version_is (Some v) there =
      let positive : (index_in cs (constants.Text v) == 0) ≡ false = ne_eqb (index_in cs (constants.Text v)) 0 (λ z. absurd (let i = index_is cs kept (constants.Text v) there.0 in omega (arith, z, i))) in
      rw positive (ap (option_and_then (λ (t : List ℕ). Some (Some t))) (text_there cs kept v there.0))

  open_flags : (b : Bool) → (if b then 0x20 else 0) < 65536
  open_flags true = omega arith
  open_flags false = omega arith

  open_is : (b : Bool) → b ≡ is_set (if b then 0x20 else 0) 0x20
  open_is true = refl
  open_is false = refl

  required_match : (rs : List Requires) → AllByRecursion There (map required_constant rs) → AllByRecursion (λ n. IsTrue (names_a_module n)) (map (λ (r : Requires). r.name) rs) → Match (IsRequires (pool_of cs)) (map (requires_row cs) rs) rs
  required_match rs there fine =
      matched (IsRequires (pool_of cs)) (requires_row cs) (λ r. There (required_constant r)) (λ r. IsTrue (names_a_module r.name)) requires_is rs (all_of There required_constant rs there) (all_of (λ n. IsTrue (names_a_module n)) (λ (r : Requires). r.name) rs fine)

  grants_match : (gs : List Grant) → AllByRecursion There (flat_map grant_constants gs) → AllByRecursion IsFineGrant gs → AllByRecursion (λ (g : Grant). length (targets g) < 65536) gs → Match (IsGrant (pool_of cs)) (map (grant_row cs) gs) gs
  grants_match gs there fine few =
      matched (IsGrant (pool_of cs)) (grant_row cs) (λ g. AllByRecursion There (grant_constants g)) (λ g. IsFineGrant g × (length (targets g) < 65536)) (λ g t h. grant_is g t h.0 h.1) gs (each_of There grant_constants gs there)
      (all_both IsFineGrant (λ (g : Grant). length (targets g) < 65536) gs fine few)

  provides_match : (ps : List Provides) → AllByRecursion There (flat_map provides_constants ps) → AllByRecursion IsFineProvides ps → AllByRecursion (λ (p : Provides). length p.implementations < 65536) ps → Match (IsProvides (pool_of cs)) (map (provides_row cs) ps) ps
  provides_match ps there fine few =
      matched (IsProvides (pool_of cs)) (provides_row cs) (λ p. AllByRecursion There (provides_constants p)) (λ p. IsFineProvides p × (length p.implementations < 65536)) (λ p t h. provides_is p t h.0 h.1) ps (each_of There provides_constants ps there)
      (all_both IsFineProvides (λ (p : Provides). length p.implementations < 65536) ps fine few)

  pub body_is : (d : Declaration) → AllByRecursion There (named_constants d) → AreFew d → KeepsRules d → IsBody (pool_of cs) (body_of cs d) d
  body_is d there few rules =
      let front = all_front There (front_constants d) (table_constants d ++ back_constants d) there in
      let behind = all_back There (front_constants d) (table_constants d ++ back_constants d) there in
      let table = all_front There (table_constants d) (back_constants d) behind in
      let versions = all_front There (version_constants d.version) (map required_constant d.required) front.1.1.1 in
      let required = all_back There (version_constants d.version) (map required_constant d.required) front.1.1.1 in
      let provided = flat_map provides_constants d.provides in
      let used = map class_constant d.uses in
      let from_opens = all_back There (flat_map grant_constants d.exports) (flat_map grant_constants d.opens ++ (used ++ provided)) table in
      let from_uses = all_back There (flat_map grant_constants d.opens) (used ++ provided) from_opens in
      record {
        fits = (open_flags d.is_open, some_small d versions);
        name = module_there cs kept d.name front.1.1.0 rules.name;
        is_open = open_is d.is_open;
        version = version_is d.version versions;
        required = record { few = few_map (requires_row cs) d.required few.required; each = required_match d.required required rules.required; distinct = rules.distinct_required };
        exports = record {
          few = few_map (grant_row cs) d.exports few.exports;
          each = grants_match d.exports (all_front There (flat_map grant_constants d.exports) (flat_map grant_constants d.opens ++ (used ++ provided)) table) rules.exports few.exported;
          distinct = rules.distinct_exports;
        };
        opens = record {
          few = few_map (grant_row cs) d.opens few.opens;
          each = grants_match d.opens (all_front There (flat_map grant_constants d.opens) (used ++ provided) from_opens) rules.opens few.opened;
          distinct = rules.distinct_opens;
        };
        closed = rules.closed;
        uses = classes_there d.uses (all_front There used provided from_uses) rules.uses few.uses rules.distinct_uses;
        provides = record {
          few = few_map (provides_row cs) d.provides few.provides;
          each = provides_match d.provides (all_back There used provided from_uses) rules.provides few.provided;
          distinct = rules.distinct_provides;
        };
      }

-- ---- the bytes of the body

counted_map : {X Y : Type 0} (bytes : Y → List ℕ) (row : X → Y) (xs : List X) → counted bytes (map row xs) ≡ counted_by (λ x. bytes (row x)) xs
counted_map bytes row xs = ap₂ (λ (n : ℕ) (l : List ℕ). two n ++ l) (length-map xs row) (flat_map-map bytes row xs)

flat_same : {X : Type 0} (f g : X → List ℕ) → ((x : X) → f x ≡ g x) → (xs : List X) → flat_map f xs ≡ flat_map g xs
flat_same f g same [] = refl
flat_same f g same (x ∷ xs) = flat_map-cons f x xs ∙ (ap₂ (λ (a b : List ℕ). a ++ b) (same x) (flat_same f g same xs) ∙ sym (flat_map-cons g x xs))

pub counted_same : {X Y : Type 0} (bytes : Y → List ℕ) (row : X → Y) (written : X → List ℕ) → ((x : X) → bytes (row x) ≡ written x) → (xs : List X) → counted bytes (map row xs) ≡ counted_by written xs
counted_same bytes row written same xs = counted_map bytes row xs ∙ ap (λ (l : List ℕ). two (length xs) ++ l) (flat_same (λ x. bytes (row x)) written same xs)

grant_same : (cs : List Constant) (g : Grant) → grant_bytes (grant_row cs g) ≡ grant_written cs g
grant_same cs g = ap (λ (l : List ℕ). package_bytes cs g.package ++ (two 0 ++ l)) (counted_map two (module_index cs) (targets g))

provides_same : (cs : List Constant) (p : Provides) → provides_bytes (provides_row cs p) ≡ provides_written cs p
provides_same cs p = ap (λ (l : List ℕ). class_bytes cs p.service ++ l) (counted_map two (class_index cs) p.implementations)

pub body_same : (cs : List Constant) (d : Declaration) → body_bytes (body_of cs d) ≡ body_written cs d
body_same cs d =
    let required = counted_same requires_bytes (requires_row cs) (requires_written cs) (λ r. refl) d.required in
    let exports = counted_same grant_bytes (grant_row cs) (grant_written cs) (grant_same cs) d.exports in
    let opens = counted_same grant_bytes (grant_row cs) (grant_written cs) (grant_same cs) d.opens in
    let uses = counted_map two (class_index cs) d.uses in
    let provides = counted_same provides_bytes (provides_row cs) (provides_written cs) (provides_same cs) d.provides in
    let tables = ap₂ (λ (a b : List ℕ). a ++ b) required (ap₂ (λ (a b : List ℕ). a ++ b) exports (ap₂ (λ (a b : List ℕ). a ++ b) opens (ap₂ (λ (a b : List ℕ). a ++ b) uses provides))) in
    ap (λ (l : List ℕ). two (module_index cs d.name) ++ (two (if d.is_open then 0x20 else 0) ++ (two (version_index cs d.version) ++ l))) tables
