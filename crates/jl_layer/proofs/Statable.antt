-- What a layer states may be stated: its modules are there, and its packages are in them (`java.lang.Module`).
use Rattle.std.proofs.Common.{◌≡◌, ◌⊎◌, ◌<◌, ◌≤◌, ◌+◌, ◌||◌, ℕ, zero, suc, List, [], ◌∷◌, ◌++◌, length, get_or, map, find, flat_map, Option, Some, None, option_map, Bool, true, false, true≢false, if◌then◌else◌, IsTrue, inl, inr, refl, sym, ◌∙◌, ap, subst, All, arith}
use Rattle.std.specs.Prelude.{Contains}
use Rattle.std.specs.List.{list_any}
use Rattle.std.specs.Option.{option_or}
use Rattle.std.specs.Cmp.Lexicographic.{bytes_decides}
use Rattle.std.proofs.lemmas.Bool.{cases_lt}
use Rattle.std.proofs.lemmas.List.{length-map, get_or_past}
use Rattle.std.proofs.lemmas.List.Elements.{All-contains, Contains-append_cases}
use Rattle.std.proofs.lemmas.Option.{none-some, slice_get-map}
use Rattle.jl_logic.specs.Order.{is_text}
use Rattle.jl_logic.proofs.Rising.{contains_nothing, contains_cases}
use Rattle.jl_prim.specs.declared.numbers.ModuleId.{ModuleId}
use Rattle.jl_prim.specs.declared.numbers.LayerId.{LayerId}
use Rattle.jl_prim.specs.declared.declaration.Grant.{Grant}
use Rattle.jl_config.specs.declared.configuration.Read.{Read}
use Rattle.jl_config.specs.Located.{is_numbered}
use Rattle.jl_access.specs.declared.statement.Reach.{Reach}
use Rattle.jl_access.specs.declared.statement.Reach.TheVariants as reach
use Rattle.jl_access.specs.declared.statement.Statement.{Statement}
use Rattle.jl_access.specs.declared.statement.Statement.TheVariants.{Exports, Opens, Uses}
use Rattle.jl_access.specs.Facts as access
use Rattle.jl_layer.specs.declared.layer.Layer.{Layer}
use Rattle.jl_layer.specs.declared.layer.Member.{Member}
use Rattle.jl_layer.specs.Layers.{State, IsConfiguration, empty_layer, layer_at, configuration_at, member_of, numbered, declaration_of, has_name, named_in, above, first_given, find_module, IsModule}
use Rattle.jl_layer.specs.Meaning.{is_layer_of, meant_above, read_module, read_pair, reads_of, reach_found, reaches, exports_by, opens_by, uses_by, stated_by, stated_of, stated_in, stated_read, statements_of}
use Rattle.jl_layer.specs.Defining.{Asked, asked_modules, next_layer, declared_module}
use Rattle.jl_layer.specs.Keeping.{AreAmong, AreKept}
use Rattle.jl_layer.specs.Orderly.{AreOrderly, IsWithin}
use Rattle.jl_layer.proofs.KeptBehind.{exports_among, opens_among}
use Rattle.jl_layer.proofs.Added.{IsPlaced, new_in_layer}
use Rattle.jl_layer.proofs.Listed.{at_place, all_of, find_from, map_from, flat_map_from, filter_map_from, and_then_from, zip_from}

-- ---- modules that are found are there

-- the modules of each layer are there
abbrev pub AreInside : State → Type 0
AreInside s = (l : LayerId) (m : ModuleId) → Contains (layer_at s l).modules m → IsModule s m

pub orderly_inside : (s : State) → AreOrderly s.layers s.modules → AreInside s
orderly_inside s orderly l m c = by l.0 (cases_lt l.0 (length s.layers + 1)) c
  where
    in_layer : (k : ℕ) → k < length s.layers → Contains (get_or s.layers k empty_layer).modules m → IsModule s m
    in_layer k lt d = All-contains (IsWithin (length s.modules)) (get_or s.layers k empty_layer).modules m (orderly k empty_layer lt).there d

    by : (n : ℕ) → (n < length s.layers + 1) ⊎ (length s.layers + 1 ≤ n) → Contains (get_or (empty_layer ∷ s.layers) n empty_layer).modules m → IsModule s m
    by zero lt d = contains_nothing m d
    by (suc k) (inl lt) d = in_layer k (omega arith) d
    by (suc k) (inr ge) d = contains_nothing m (subst (λ (x : Layer). Contains x.modules m) (get_or_past (empty_layer ∷ s.layers) (suc k) empty_layer (omega arith)) d)

first_from : {X Y : Type 0} (f : X → Option Y) (xs : List X) (y : Y) → first_given f xs ≡ Some y → (x : X) × (f x ≡ Some y)
first_from {X} {Y} f [] y e = absurd (none-some y e)
first_from {X} {Y} f (x ∷ xs) y e = by (f x) refl e (first_from f xs y)
  where
    by : (o : Option Y) → f x ≡ o → option_or o (first_given f xs) ≡ Some y → (first_given f xs ≡ Some y → (z : X) × (f z ≡ Some y)) → (z : X) × (f z ≡ Some y)
    by None i k more = more k
    by (Some w) i k more = (x, i ∙ k)

-- ---- what facts know

-- the modules of facts are these
pub facts_module : (s : State) (f : access.State) (m : ModuleId) → f.modules ≡ map declared_module s.modules → IsModule s m → access.IsModule f m
facts_module s f m same there = (there.0, omega (arith, there.1, ap (λ (ds : List access.Declared). length ds) same, length-map s.modules declared_module))

declared_at : (ms : List Member) (n : ℕ) → access.numbered (map declared_module ms) n ≡ option_map declared_module (numbered ms n)
declared_at ms zero = refl
declared_at ms (suc n) = slice_get-map declared_module ms n

any_text : (names : List (List ℕ)) (p : List ℕ) → Contains names p → list_any (λ (n : List ℕ). is_text n p) names ≡ true
any_text [] p c = contains_nothing p c
any_text (n ∷ ns) p c = by (is_text n p) refl (any_text ns p)
  where
    by : (b : Bool) → is_text n p ≡ b → (Contains ns p → list_any (λ (x : List ℕ). is_text x p) ns ≡ true) → (b || list_any (λ (x : List ℕ). is_text x p) ns) ≡ true
    by true e more = refl
    by false e more = elim (contains_cases n p ns c) [ inl i ↦ absurd (true≢false (sym ((bytes_decides n p).1 i) ∙ e)) | inr d ↦ more d ]

-- a package of a module is one that facts know
pub facts_package : (s : State) (f : access.State) (m : ModuleId) (x : Member) (p : List ℕ) → f.modules ≡ map declared_module s.modules → member_of s m ≡ Some x → Contains (declaration_of x).packages p → IsTrue (access.has_package f m p)
facts_package s f m x p same e c =
    ap (λ (ds : List access.Declared). list_any (λ (n : List ℕ). is_text n p) (access.packages_in (access.numbered ds m.0))) same
    ∙ ap (λ (o : Option access.Declared). list_any (λ (n : List ℕ). is_text n p) (access.packages_in o)) (declared_at s.modules m.0 ∙ ap (option_map declared_module) e)
    ∙ any_text (declaration_of x).packages p c

-- ---- statements

-- each module of the layer exports and opens packages that it has
abbrev pub AreDeclared : State → LayerId → Type 0
AreDeclared s l = (m : ModuleId) (x : Member) → Contains (layer_at s l).modules m → member_of s m ≡ Some x
    → AreAmong (declaration_of x).packages (declaration_of x).exports × AreAmong (declaration_of x).packages (declaration_of x).opens

-- those of a new layer do
pub new_declared : (old s : State) (q : Asked) → IsPlaced old q s → AreKept [] old.configurations → IsConfiguration old q.config → AreDeclared s (next_layer old)
new_declared old s q placed kept known m x c e =
    let a = new_in_layer old s q placed m x c e in
    let there : Contains (asked_modules old q) a.observed = at_place (asked_modules old q) a.place a.observed a.there in
    subst (λ (z : Member). AreAmong (declaration_of z).packages (declaration_of z).exports × AreAmong (declaration_of z).packages (declaration_of z).opens) (sym a.is)
    (exports_among old.configurations q.config a.observed kept known there, opens_among old.configurations q.config a.observed kept known there)

module _ (s : State) (f : access.State) (inside : AreInside s) (same : f.modules ≡ map declared_module s.modules) where
  named_is : (l : LayerId) (name : List ℕ) (m : ModuleId) → named_in s l name ≡ Some m → access.IsModule f m
  named_is l name m e = facts_module s f m same (inside l m (find_from (has_name s name) (layer_at s l).modules m e).0)

  found_is : (l : LayerId) (name : List ℕ) (m : ModuleId) → find_module s l name ≡ Some m → access.IsModule f m
  found_is l name m e = let r = first_from (λ (k : LayerId). named_in s k name) (above s (l ∷ [])) m e in named_is r.0 name m r.1

  read_is : (l : LayerId) (r : Read) (m : ModuleId) → read_module s l r ≡ Some m → access.IsModule f m
  read_is l r m e = by (is_numbered r.config (layer_at s l).config) e
    where
      by : (b : Bool) → (if b then named_in s l r.name else meant_above s (layer_at s l).parents r.config r.name) ≡ Some m → access.IsModule f m
      by true k = named_is l r.name m k
      by false k = let h = and_then_from (λ (j : LayerId). named_in s j r.name) (find (is_layer_of s r.config) (above s (layer_at s l).parents)) m k in named_is h.0 r.name m h.2

  reads_statable : (l : LayerId) (x : Statement) → Contains (map stated_read (reads_of s l)) x → access.IsStatable f x
  reads_statable l x c =
      let r = map_from stated_read (reads_of s l) x c in
      let h = filter_map_from (read_pair s l) (configuration_at s l).reads r.0 r.1 in
      let z = zip_from (named_in s l h.0.reader) (read_module s l h.0) r.0.0 r.0.1 h.2 in
      subst (access.IsStatable f) r.2 (named_is l h.0.reader r.0.0 z.0, read_is l h.0 r.0.1 z.1)

  reach_is : (o : Option ModuleId) → ((m : ModuleId) → o ≡ Some m → access.IsModule f m) → access.ReachExists f (reach_found o)
  reach_is None h = tt
  reach_is (Some m) h = h m refl

  reaches_are : (l : LayerId) (to : Option (List (List ℕ))) (r : Reach) → Contains (reaches s l to) r → access.ReachExists f r
  reaches_are l None r c = elim (contains_cases reach.All r [] c) [ inl e ↦ subst (access.ReachExists f) e tt | inr d ↦ contains_nothing r d ]
  reaches_are l (Some names) r c =
      let n = map_from (λ (name : List ℕ). reach_found (find_module s l name)) names r c in
      subst (access.ReachExists f) n.2 (reach_is (find_module s l n.0) (λ m e. found_is l n.0 m e))

  module _ (l : LayerId) (m : ModuleId) (x : Member) (there : access.IsModule f m) (e : member_of s m ≡ Some x) where
    exports_statable : (gs : List Grant) → AreAmong (declaration_of x).packages gs → (y : Statement) → Contains (flat_map (exports_by s l m) gs) y → access.IsStatable f y
    exports_statable gs among y c =
        let g = flat_map_from (exports_by s l m) gs y c in
        let r = map_from (λ (to : Reach). Exports m g.0.«package» to) (reaches s l g.0.to) y g.2 in
        let held = All-contains (λ (k : Grant). Contains (declaration_of x).packages k.«package») gs g.0 among g.1 in
        subst (access.IsStatable f) r.2 (there, (facts_package s f m x g.0.«package» same e held, reaches_are l g.0.to r.0 r.1))

    opens_statable : (gs : List Grant) → AreAmong (declaration_of x).packages gs → (y : Statement) → Contains (flat_map (opens_by s l m) gs) y → access.IsStatable f y
    opens_statable gs among y c =
        let g = flat_map_from (opens_by s l m) gs y c in
        let r = map_from (λ (to : Reach). Opens m g.0.«package» to) (reaches s l g.0.to) y g.2 in
        let held = All-contains (λ (k : Grant). Contains (declaration_of x).packages k.«package») gs g.0 among g.1 in
        subst (access.IsStatable f) r.2 (there, (facts_package s f m x g.0.«package» same e held, reaches_are l g.0.to r.0 r.1))

    uses_statable : (y : Statement) → Contains (uses_by m (declaration_of x).uses) y → access.IsStatable f y
    uses_statable y c = let r = map_from (λ (service : List ℕ). Uses m service) (declaration_of x).uses y c in subst (access.IsStatable f) r.2 there

    declared_statable : AreAmong (declaration_of x).packages (declaration_of x).exports → AreAmong (declaration_of x).packages (declaration_of x).opens → (y : Statement) → Contains (stated_by s l m (declaration_of x)) y → access.IsStatable f y
    declared_statable exports opens y c = elim (Contains-append_cases (flat_map (exports_by s l m) (declaration_of x).exports ++ flat_map (opens_by s l m) (declaration_of x).opens) (uses_by m (declaration_of x).uses) y c) [
      | inl d ↦
          elim (Contains-append_cases (flat_map (exports_by s l m) (declaration_of x).exports) (flat_map (opens_by s l m) (declaration_of x).opens) y d) [
            | inl k ↦ exports_statable (declaration_of x).exports exports y k
            | inr k ↦ opens_statable (declaration_of x).opens opens y k
          ]
      | inr d ↦ uses_statable y d
    ]

  in_statable : (l : LayerId) → AreDeclared s l → (m : ModuleId) → Contains (layer_at s l).modules m → (y : Statement) → Contains (stated_in s l m) y → access.IsStatable f y
  in_statable l declared m c y d = by (member_of s m) refl d
    where
      by : (o : Option Member) → member_of s m ≡ o → Contains (stated_of s l m o) y → access.IsStatable f y
      by None e k = contains_nothing y k
      by (Some x) e k = let a = declared m x c e in declared_statable l m x (facts_module s f m same (inside l m c)) e a.0 a.1 y k

  -- What a layer states may be stated of facts with its modules.
  pub statements_statable : (l : LayerId) → AreDeclared s l → All (access.IsStatable f) (statements_of s l)
  statements_statable l declared = all_of (access.IsStatable f) (statements_of s l) (λ y c. by y (Contains-append_cases (map stated_read (reads_of s l)) (flat_map (stated_in s l) (layer_at s l).modules) y c))
    where
      by : (y : Statement) → Contains (map stated_read (reads_of s l)) y ⊎ Contains (flat_map (stated_in s l) (layer_at s l).modules) y → access.IsStatable f y
      by y (inl c) = reads_statable l y c
      by y (inr c) = let r = flat_map_from (stated_in s l) (layer_at s l).modules y c in in_statable l declared r.0 r.1 y r.2
