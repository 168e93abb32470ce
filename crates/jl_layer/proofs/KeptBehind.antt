-- Configurations that were kept one behind the other (`Configuration.resolve`).
use Rattle.std.proofs.Common.{◌≡◌, ◌<◌, ◌≤◌, ◌+◌, ℕ, zero, suc, List, [], ◌∷◌, ◌++◌, length, get_or, slice_get, Some, inl, inr, refl, sym, ◌∙◌, ap, subst, ap₂, All, append_assoc, append-nil, Bool, true, false, None, Less, if◌then◌else◌, arith}
use Rattle.std.specs.Prelude.{Contains}
use Rattle.std.specs.List.{AllByRecursion}
use Rattle.std.proofs.lemmas.List.{length_push}
use Rattle.std.proofs.lemmas.List.Elements.{All-contains}
use Rattle.std.proofs.lemmas.Option.{none-some, same_Some, slice_get-get_or}
use Rattle.std.specs.Cmp.Lexicographic.{nat_list_cmp_total}
use Rattle.std.proofs.lemmas.Cmp.{on_total}
use Rattle.jl_logic.specs.Lists.{IsFront}
use Rattle.jl_logic.specs.Order.{name_cmp, RisesBy}
use Rattle.jl_logic.proofs.Rising.{contains_nothing, apart_from_total, each_of_member}
use Rattle.jl_prim.specs.declared.numbers.ConfigId.{ConfigId}
use Rattle.jl_prim.specs.declared.declaration.Declaration.{Declaration}
use Rattle.jl_prim.specs.declared.declaration.Grant.{Grant}
use Rattle.jl_prim.specs.declared.declaration.Observed.{Observed}
use Rattle.jl_config.specs.declared.configuration.Read.{Read}
use Rattle.jl_config.specs.Configurations.{Configuration}
use Rattle.jl_config.specs.Located.{configuration_of, empty_configuration, name_of}
use Rattle.jl_config.specs.Orders.{module_cmp}
use Rattle.jl_layer.specs.Meaning.{reaches_name, reaching, exported_to}
use Rattle.jl_layer.specs.Keeping.{IsAboveBy, HasModule, ReadsModule, Gets, AreAmong, IsKeepable, AreKept}
use Rattle.jl_layer.proofs.Listed.{front_or, front_long, filter_map_from, at_place}

-- ---- by number

pub kept_at : (before gs : List Configuration) (i : ℕ) (g : Configuration) → AreKept before gs → slice_get gs i ≡ Some g
    → (front : List Configuration) × IsFront front (before ++ gs) × IsKeepable front g × (length front ≡ length before + i)
unfolding AreKept
kept_at before [] i g h e = absurd (none-some g e)
kept_at before (x ∷ gs) zero g h e = (before, (x ∷ gs, refl), subst (IsKeepable before) (same_Some x g e) h.0, omega arith)
kept_at before (x ∷ gs) (suc i) g h e =
    let r = kept_at (before ++ x ∷ []) gs i g h.1 e in
    (r.0, (r.1.0, sym (append_assoc before (x ∷ []) gs) ∙ r.1.1), r.2, omega (arith, r.3, length_push before x))

-- a configuration, and those that it was kept behind
pub kept_of : (known : List Configuration) (c : ConfigId) → AreKept [] known → 0 < c.0 → c.0 ≤ length known
    → (front : List Configuration) × IsFront front known × IsKeepable front (configuration_of known c) × (c.0 ≡ length front + 1)
kept_of known c kept lt le = by c.0 refl
  where
    by : (k : ℕ) → c.0 ≡ k → (front : List Configuration) × IsFront front known × IsKeepable front (configuration_of known c) × (c.0 ≡ length front + 1)
    by zero e = absurd (omega arith)
    by (suc i) e =
        let is : configuration_of known c ≡ get_or known i empty_configuration = ap (λ (n : ℕ). get_or (empty_configuration ∷ known) n empty_configuration) e in
        let r = kept_at [] known i (get_or known i empty_configuration) kept (slice_get-get_or known i empty_configuration (omega arith)) in
        (r.0, r.1, subst (IsKeepable r.0) (sym is) r.2, omega (arith, r.3))

-- configuration 0 is the empty one
pub configuration_zero : (known : List Configuration) (c : ConfigId) → c.0 ≡ 0 → configuration_of known c ≡ empty_configuration
configuration_zero known c e = ap (λ (n : ℕ). get_or (empty_configuration ∷ known) n empty_configuration) e

pub same_config : (a b : ConfigId) → a.0 ≡ b.0 → a ≡ b
same_config a b e = ap (λ (k : ℕ). let c : ConfigId = record { 0 = k } in c) e

-- its number is its own
pub kept_id : (known : List Configuration) (c : ConfigId) → AreKept [] known → c.0 ≤ length known → (configuration_of known c).id ≡ c
kept_id known c kept le = by c.0 refl
  where
    by : (k : ℕ) → c.0 ≡ k → (configuration_of known c).id ≡ c
    by zero e = ap (λ (g : Configuration). g.id) (configuration_zero known c e) ∙ same_config (record { 0 = 0 }) c (sym e)
    by (suc i) e = let r = kept_of known c kept (omega arith) le in r.2.number ∙ same_config (record { 0 = length r.0 + 1 }) c (sym r.3)

-- its parents have lower numbers
pub kept_below : (known : List Configuration) (c p : ConfigId) → AreKept [] known → c.0 ≤ length known → Contains (configuration_of known c).parents p → p.0 < c.0
kept_below known c p kept le there = by c.0 refl
  where
    by : (k : ℕ) → c.0 ≡ k → p.0 < c.0
    by zero e = contains_nothing p (subst (λ (g : Configuration). Contains g.parents p) (configuration_zero known c e) there)
    by (suc i) e =
        let r = kept_of known c kept (omega arith) le in
        let low : p.0 ≤ length r.0 = All-contains (λ (q : ConfigId). q.0 ≤ length r.0) (configuration_of known c).parents p r.2.parents there in
        omega (arith, r.3)

pub kept_nothing : (before : List Configuration) → AreKept before []
unfolding AreKept
kept_nothing before = tt

-- one more
pub kept_more : (before gs : List Configuration) (g : Configuration) → AreKept before gs → IsKeepable (before ++ gs) g → AreKept before (gs ++ g ∷ [])
unfolding AreKept
kept_more before [] g h k = (subst (λ (l : List Configuration). IsKeepable l g) (append-nil before) k, tt)
kept_more before (x ∷ gs) g h k = (h.0, kept_more (before ++ x ∷ []) gs g h.1 (subst (λ (l : List Configuration). IsKeepable l g) (sym (append_assoc before (x ∷ []) gs)) k))

-- ---- what is above a configuration is there when it is kept

module _ (known front : List Configuration) (kept : AreKept [] known) (before : IsFront front known) where
  front_config : (c : ConfigId) → c.0 ≤ length front → configuration_of known c ≡ configuration_of front c
  front_config c le = front_or empty_configuration front known c.0 before le

  above_front : (n : ℕ) (ps : List ConfigId) (c : ConfigId) → ((p : ConfigId) → Contains ps p → p.0 ≤ length front) → IsAboveBy n known ps c → IsAboveBy n front ps c × (c.0 ≤ length front)
  above_front zero ps c low h = (h, low c h)
  above_front (suc n) ps c low (d, there, h) =
      let le : d.0 ≤ length front = low d there in
      let long : length front ≤ length known = front_long front known before in
      let r = above_front n (configuration_of known d).parents c (λ p k. let lt : p.0 < d.0 = kept_below known d p kept (omega arith) k in omega arith) h in
      ((d, there, subst (λ (g : Configuration). IsAboveBy n front g.parents c) (front_config d le) r.0), r.1)

  module _ (g : Configuration) (low : (p : ConfigId) → Contains g.parents p → p.0 ≤ length front) where
    pub reads_front : (r : Read) (o : Observed) → ReadsModule known g r o → ReadsModule front g r o
    reads_front r o (inl h) = inl h
    reads_front r o (inr ((n, h), k)) =
        let a = above_front n g.parents r.config low h in
        inr ((n, a.0), subst (λ (x : Configuration). HasModule x r.name o) (front_config r.config a.1) k)

    pub gets_front : (reader p : List ℕ) (r : Read) → Gets known g reader r p → Gets front g reader r p
    gets_front reader p r (c, e, o, h, x) = (c, e, o, reads_front r o h, x)

-- ---- exports

pub exported_held : (d : Declaration) (name p : List ℕ) → AreAmong d.packages d.exports → Contains (exported_to d name) p → Contains d.packages p
exported_held d name p among c =
    let r = filter_map_from (reaching name) d.exports p c in
    let is : r.0.«package» ≡ p = by r.0 (reaches_name r.0.to name) r.2 in
    subst (Contains d.packages) is (All-contains (λ (g : Grant). Contains d.packages g.«package») d.exports r.0 among r.1)
  where
    by : (g : Grant) (b : Bool) → (if b then Some g.«package» else None) ≡ Some p → g.«package» ≡ p
    by g true e = same_Some g.«package» p e
    by g false e = absurd (none-some p e)

-- what a module of a configuration exports is a package that it has
pub exports_among : (known : List Configuration) (c : ConfigId) (o : Observed) → AreKept [] known → c.0 ≤ length known → Contains (configuration_of known c).modules o → AreAmong o.declaration.packages o.declaration.exports
exports_among known c o kept le there = by c.0 refl
  where
    by : (k : ℕ) → c.0 ≡ k → AreAmong o.declaration.packages o.declaration.exports
    by zero e = contains_nothing o (subst (λ (g : Configuration). Contains g.modules o) (configuration_zero known c e) there)
    by (suc i) e = let r = kept_of known c kept (omega arith) le in r.2.exports o there

-- likewise what it opens
pub opens_among : (known : List Configuration) (c : ConfigId) (o : Observed) → AreKept [] known → c.0 ≤ length known → Contains (configuration_of known c).modules o → AreAmong o.declaration.packages o.declaration.opens
opens_among known c o kept le there = by c.0 refl
  where
    by : (k : ℕ) → c.0 ≡ k → AreAmong o.declaration.packages o.declaration.opens
    by zero e = contains_nothing o (subst (λ (g : Configuration). Contains g.modules o) (configuration_zero known c e) there)
    by (suc i) e = let r = kept_of known c kept (omega arith) le in r.2.opens o there

-- ---- names

modules_apart : (x y : Observed) → module_cmp x y ≡ Less → module_cmp y x ≡ Less → ⊥
modules_apart = apart_from_total module_cmp (on_total name_of nat_list_cmp_total)

apart_names : (x o b : Observed) (os : List Observed) → AllByRecursion (λ y. module_cmp x y ≡ Less) os → x ≡ o → Contains os b → name_of o ≡ name_of b → ⊥
apart_names x o b os less is there same =
    let e : name_of x ≡ name_of b = ap name_of is ∙ same in
    let lt : module_cmp x b ≡ Less = each_of_member (λ (y : Observed). module_cmp x y ≡ Less) os b less there in
    let gt : module_cmp b x ≡ Less = ap₂ (λ (u v : List ℕ). name_cmp u v) (sym e) e ∙ lt in
    modules_apart x b lt gt

-- modules of one name are at one place
pub one_place : (os : List Observed) (i j : ℕ) (o b : Observed) → RisesBy module_cmp os → slice_get os i ≡ Some o → slice_get os j ≡ Some b → name_of o ≡ name_of b → i ≡ j
one_place [] i j o b up e f same = absurd (none-some o e)
one_place (x ∷ os) zero zero o b up e f same = refl
one_place (x ∷ os) zero (suc j) o b up e f same = absurd (apart_names x o b os up.0 (same_Some x o e) (at_place os j b f) same)
one_place (x ∷ os) (suc i) zero o b up e f same = absurd (apart_names x b o os up.0 (same_Some x b f) (at_place os i o e) (sym same))
one_place (x ∷ os) (suc i) (suc j) o b up e f same = ap suc (one_place os i j o b up.1 e f same)

-- the modules of a configuration stand in the order of their names
pub rise_of : (known : List Configuration) (c : ConfigId) → All (λ (g : Configuration). RisesBy module_cmp g.modules) known → c.0 ≤ length known → RisesBy module_cmp (configuration_of known c).modules
rise_of known c rise le = by c.0 refl
  where
    by : (k : ℕ) → c.0 ≡ k → RisesBy module_cmp (configuration_of known c).modules
    by zero e = subst (λ (g : Configuration). RisesBy module_cmp g.modules) (sym (configuration_zero known c e)) tt
    by (suc i) e =
        subst (λ (g : Configuration). RisesBy module_cmp g.modules) (sym (ap (λ (n : ℕ). get_or (empty_configuration ∷ known) n empty_configuration) e))
        (rise i empty_configuration (omega arith))
