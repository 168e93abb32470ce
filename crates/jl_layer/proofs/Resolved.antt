-- What a resolution over kept configurations gives may be kept behind them.
use Rattle.std.proofs.Common.{◌≡◌, ◌≢◌, ◌<◌, ◌≤◌, ℕ, List, [], ◌∷◌, length, map, inl, inr, ⊎_elim, refl, sym, ◌∙◌, ap, subst, Contains, All, Option, Some, None, Bool, true, false, ◌||◌, cond, Less, Ok}
use Rattle.std.specs.List.{AllByRecursion, list_any}
use Rattle.std.proofs.lemmas.Bool.{cases_lt, cases_eq}
use Rattle.std.proofs.lemmas.List.{length-map}
use Rattle.std.proofs.lemmas.List.Elements.{All-contains}
use Rattle.jl_logic.specs.Order.{is_text, RisesBy}
use Rattle.jl_logic.proofs.Rising.{contains_head, contains_tail}
use Rattle.jl_prim.specs.declared.numbers.ConfigId.{ConfigId}
use Rattle.jl_prim.specs.declared.declaration.Grant.{Grant}
use Rattle.jl_prim.specs.declared.declaration.Observed.{Observed}
use Rattle.jl_prim.specs.Limits.{most_modules}
use Rattle.jl_config.specs.declared.configuration.Read.{Read}
use Rattle.jl_config.specs.declared.candidate.Candidate.{Candidate}
use Rattle.jl_config.specs.declared.fault.ResolveFault.{ResolveFault}
use Rattle.jl_config.specs.declared.fault.ResolveFault.TheVariants.{TooMany, SameName, SamePackage, OwnPackage}
use Rattle.jl_config.specs.Configurations.{Configuration}
use Rattle.jl_config.specs.Located.{Asked, scene_of, configuration_of, name_of, candidate_name}
use Rattle.jl_config.specs.Members.{IsMember, Reads}
use Rattle.jl_config.specs.Orders.{module_cmp, candidate_cmp}
use Rattle.jl_config.specs.Refusals as refusals
use Rattle.jl_config.specs.Refusals.{ReachesBy, Exports, Applies, IsLarge}
use Rattle.jl_config.specs.Resolves.{new_candidate, read_of, Resolves, IsConfigurationOf}
use Rattle.jl_layer.specs.Meaning.{reaches_name, reaching, exported_to}
use Rattle.jl_layer.specs.Keeping.{IsAbove, HasModule, ReadsModule, Gets, IsKeepable}
use Rattle.jl_layer.specs.Resolved.{HasItsGrants, AsksOfKept}
use Rattle.jl_layer.proofs.ResolvedLists.{all_of, from_map, from_filter_map, text_is, text_differs, one_named}
use Rattle.jl_layer.proofs.ResolvedSight.{IsReadable, same_id, has_number, rises_at, not_both, member_observed, one_member, read_readable}

-- ---- exports

among_names : (names : List (List ℕ)) (name : List ℕ) → list_any (λ n. is_text n name) names ≡ true → Contains names name
among_names [] name e = absurd cc
among_names (n ∷ names) name e = by (among_names names name) (is_text n name) refl e
  where
    by : (list_any (λ n. is_text n name) names ≡ true → Contains names name) → (b : Bool) → is_text n name ≡ b → (b || list_any (λ n. is_text n name) names) ≡ true → Contains (n ∷ names) name
    by more true f g = subst (Contains (n ∷ names)) (text_is n name f) (contains_head n names)
    by more false f g = contains_tail n name names (more g)

reaches_by : (to : Option (List (List ℕ))) (name : List ℕ) → reaches_name to name ≡ true → ReachesBy to name
reaches_by None name e = tt
reaches_by (Some names) name e = among_names names name e

exports_by : (s : Candidate) (p reader : List ℕ) → Contains (exported_to s.observed.declaration reader) p → Exports s p reader
exports_by s p reader h =
    let r = from_filter_map (reaching reader) s.observed.declaration.exports p h in
    let k = by r.0 (reaches_name r.0.to reader) refl r.2 in
    (r.0, r.1, k.0, reaches_by r.0.to reader k.1)
  where
    by : (g : Grant) (b : Bool) → reaches_name g.to reader ≡ b → cond b (Some g.«package») None ≡ Some p → (g.«package» ≡ p) × (reaches_name g.to reader ≡ true)
    by g true e f = let same : g.«package» ≡ p = cc in (same, e)
    by g false e f = absurd cc

-- ---- modules in the order of their names

above_as : (q : Asked) (o : Observed) (os : List Observed) → AllByRecursion (λ y. module_cmp o y ≡ Less) os → AllByRecursion (λ t. candidate_cmp (new_candidate q o) t ≡ Less) (map (new_candidate q) os)
above_as q o [] h = tt
above_as q o (x ∷ os) h = (h.0, above_as q o os h.1)

rises_as : (q : Asked) (os : List Observed) → RisesBy module_cmp os → RisesBy candidate_cmp (map (new_candidate q) os)
rises_as q [] up = tt
rises_as q (o ∷ os) up = (above_as q o os up.0, rises_as q os up.1)

module _ (q : Asked) (g : Configuration) (asks : AsksOfKept q) (none : (f : ResolveFault) → Applies q f → ⊥) (is : IsConfigurationOf q g) where
  -- ---- numbers

  few : length q.known < most_modules
  few = ⊎_elim (λ lt. lt) (λ le. absurd (none TooMany (inr le))) (cases_lt (length q.known) most_modules)

  few_modules : length g.modules ≤ most_modules
  few_modules = ⊎_elim (λ lt. absurd (none TooMany (inl (large lt)))) (λ le. le) (cases_lt most_modules (length g.modules))
    where
      large : most_modules < length g.modules → IsLarge (scene_of q)
      large lt =
          let ss = map (new_candidate q) g.modules in (
            ss,
            rises_as q g.modules is.modules.rise,
            all_of (IsMember (scene_of q)) ss (λ s c. let r = from_map (new_candidate q) g.modules s c in subst (IsMember (scene_of q)) r.2 (is.modules.only r.0 r.1)),
            subst (λ (n : ℕ). most_modules < n) (sym (length-map g.modules (new_candidate q))) lt,
          )

  known_parents : All (λ (p : ConfigId). p.0 ≤ length q.known) g.parents
  known_parents = subst (λ (ps : List ConfigId). All (λ (p : ConfigId). p.0 ≤ length q.known) ps) (sym is.given) asks.parents

  here : (s : Candidate) → IsMember (scene_of q) s → s.config ≡ g.id
  here s m = (member_observed q asks.known s m).here ∙ sym is.number

  -- ---- grants

  grants : (o : Observed) → Contains g.modules o → HasItsGrants o
  grants o c = ⊎_elim (λ b. All-contains HasItsGrants q.before o asks.before b) (λ a. All-contains HasItsGrants q.after o asks.after a) (member_observed q asks.known (new_candidate q o) (is.modules.only o c)).finder

  -- ---- reads

  -- an entry, as the two modules
  pub record IsEntry (r : Read) (a b : Candidate) : Type 0 where
    pub reader : IsMember (scene_of q) a
    pub reads : Reads (scene_of q) a b
    pub same : r ≡ read_of a b

  entry : (r : Read) → Contains g.reads r → (a : Candidate) × (b : Candidate) × IsEntry r a b
  entry r c = let k = is.reads.only r c in (k.0, k.1, record { reader = k.2; reads = k.3; same = k.4 })

  reader_name : (r : Read) (a b : Candidate) → IsEntry r a b → candidate_name a ≡ r.reader
  reader_name r a b e = sym (ap (λ (x : Read). x.reader) e.same)

  read_name : (r : Read) (a b : Candidate) → IsEntry r a b → candidate_name b ≡ r.name
  read_name r a b e = sym (ap (λ (x : Read). x.name) e.same)

  read_config : (r : Read) (a b : Candidate) → IsEntry r a b → b.config ≡ r.config
  read_config r a b e = sym (ap (λ (x : Read). x.config) e.same)

  readable : (r : Read) (a b : Candidate) → IsEntry r a b → IsReadable q asks.known b
  readable r a b e = read_readable q asks.known a b e.reader e.reads

  readers : (r : Read) → Contains g.reads r → (o : Observed) × HasModule g r.reader o
  readers r c = let k = entry r c in (k.0.observed, (is.modules.all k.0 k.2.reader, reader_name r k.0 k.1 k.2))

  target_of : (a b : Candidate) → IsReadable q asks.known b → (o : Observed) × ReadsModule q.known g (read_of a b) o
  target_of a b h = (
    b.observed,
    ⊎_elim (λ m. inl (here b m, (is.modules.all b m, refl)))
        (λ u. inr (subst (λ (ps : List ConfigId). IsAbove q.known ps b.config) (sym is.given) u.above, (u.among, refl))) h,
  )

  targets : (r : Read) → Contains g.reads r → (o : Observed) × ReadsModule q.known g r o
  targets r c = let k = entry r c in subst (λ (x : Read). (o : Observed) × ReadsModule q.known g x o) (sym k.2.same) (target_of k.0 k.1 (readable r k.0 k.1 k.2))

  -- ---- names

  -- two entries of one reader have one reader
  same_reader : (r t : Read) (a b c d : Candidate) → IsEntry r a b → IsEntry t c d → r.reader ≡ t.reader → c ≡ a
  same_reader r t a b c d e f i = one_member q asks.known c a f.reader e.reader (reader_name t c d f ∙ sym i ∙ sym (reader_name r a b e))

  same_name : (r t : Read) → Contains g.reads r → Contains g.reads t → r.reader ≡ t.reader → r.name ≡ t.name → r.config ≡ t.config
  same_name r t cr ct i j =
      let k = entry r cr in
      let l = entry t ct in
      let a : Candidate = k.0 in
      let b : Candidate = k.1 in
      let d : Candidate = l.1 in
      let read : Reads (scene_of q) a d = subst (λ (x : Candidate). Reads (scene_of q) x d) (same_reader r t a b l.0 d k.2 l.2 i) l.2.reads in
      let named : candidate_name d ≡ candidate_name b = read_name t l.0 d l.2 ∙ sym j ∙ sym (read_name r a b k.2) in
      ⊎_elim (λ e. same_id r.config t.config e)
      (λ ne.
      let apart : b.config ≢ d.config = λ e. ne (ap (λ (x : ConfigId). x.0) (sym (read_config r a b k.2) ∙ e ∙ read_config t l.0 d l.2)) in
      absurd (none (SameName (candidate_name a) (candidate_name b)) (a, b, d, k.2.reader, refl, k.2.reads, read, refl, named, apart)))
      (cases_eq r.config.0 t.config.0)

  own_name : (r : Read) → Contains g.reads r → r.name ≡ r.reader → r.config ≡ g.id
  own_name r c i =
      let k = entry r c in
      let a : Candidate = k.0 in
      let b : Candidate = k.1 in
      let named : candidate_name a ≡ candidate_name b = reader_name r a b k.2 ∙ sym i ∙ sym (read_name r a b k.2) in
      ⊎_elim (λ e. same_id r.config g.id e)
      (λ ne.
      let apart : b.config ≢ a.config = λ e. ne (ap (λ (x : ConfigId). x.0) (sym (read_config r a b k.2) ∙ e ∙ here a k.2.reader)) in
      absurd (none (SameName (candidate_name a) (candidate_name b)) (a, b, a, k.2.reader, refl, k.2.reads, inl refl, refl, named, apart)))
      (cases_eq r.config.0 g.id.0)

  -- ---- packages

  -- the module that an entry reads is the only one of its configuration and name
  read_module : (r : Read) (a b : Candidate) (o : Observed) → IsEntry r a b → ReadsModule q.known g r o → o ≡ b.observed
  read_module r a b o e h =
      ⊎_elim
      (λ own. ⊎_elim (λ m. one_named g.modules o b.observed is.modules.rise own.1.0 (is.modules.all b m) (own.1.1 ∙ sym (read_name r a b e))) (λ u. not_both q asks.known b (read_config r a b e ∙ own.0 ∙ is.number) u.known) (readable r a b e))
      (λ up.
      let among : Contains (configuration_of q.known b.config).modules o = subst (λ (c : ConfigId). Contains (configuration_of q.known c).modules o) (sym (read_config r a b e)) up.1.0 in
      ⊎_elim (λ m. not_both q asks.known b (here b m ∙ is.number) (has_number q.known b.config o among))
      (λ u. one_named (configuration_of q.known b.config).modules o b.observed (rises_at q.known asks.known asks.rise b.config u.known) among u.among (up.1.1 ∙ sym (read_name r a b e)))
      (readable r a b e))
      h

  gotten : (r : Read) (reader p : List ℕ) (a b : Candidate) → IsEntry r a b → Gets q.known g reader r p → candidate_name a ≡ reader → refusals.Gets (scene_of q) a b p
  gotten r reader p a b e h named =
      let o : Observed = h.2 in
      let same : o ≡ b.observed = read_module r a b o e h.3 in
      let exported : Contains (exported_to b.observed.declaration (candidate_name a)) p =
      subst (λ (n : List ℕ). Contains (exported_to b.observed.declaration n) p) (sym named) (subst (λ (x : Observed). Contains (exported_to x.declaration reader) p) same h.4) in
      (e.reader, e.reads, exports_by b p (candidate_name a) exported)

  same_package : (reader p : List ℕ) (r t : Read) → Gets q.known g reader r p → Gets q.known g reader t p → r.name ≢ reader → t.name ≢ reader → r.name ≡ t.name
  same_package reader p r t h i not_one not_other =
      let k = entry r h.0 in
      let l = entry t i.0 in
      let a : Candidate = k.0 in
      let named : candidate_name a ≡ reader = reader_name r a k.1 k.2 ∙ h.1 in
      let same : l.0 ≡ a = same_reader r t a k.1 l.0 l.1 k.2 l.2 (h.1 ∙ sym i.1) in
      let other : IsEntry t a l.1 = subst (λ (x : Candidate). IsEntry t x l.1) same l.2 in
      by k.1 l.1 a named (gotten r reader p a k.1 k.2 h named) (gotten t reader p a l.1 other i named) (read_name r a k.1 k.2) (read_name t a l.1 other) (is_text r.name t.name) refl
    where
      by : (b d a : Candidate) → candidate_name a ≡ reader → refusals.Gets (scene_of q) a b p → refusals.Gets (scene_of q) a d p → candidate_name b ≡ r.name → candidate_name d ≡ t.name → (x : Bool) → is_text r.name t.name ≡ x → r.name ≡ t.name
      by b d a named one other n m true e = text_is r.name t.name e
      by b d a named one other n m false e = absurd (none (SamePackage reader p r.name t.name) (a, b, d, named, one, other, n, m, not_one, not_other, text_differs r.name t.name e))

  own_package : (p : List ℕ) (o : Observed) (r : Read) → Contains g.modules o → Contains o.declaration.packages p → Gets q.known g (name_of o) r p → r.name ≡ name_of o
  own_package p o r c holds h =
      let k = entry r h.0 in
      let a : Candidate = k.0 in
      let named : candidate_name a ≡ name_of o = reader_name r a k.1 k.2 ∙ h.1 in
      let same : new_candidate q o ≡ a = one_member q asks.known (new_candidate q o) a (is.modules.only o c) k.2.reader (sym named) in
      let own : Contains a.observed.declaration.packages p = subst (λ (x : Candidate). Contains x.observed.declaration.packages p) same holds in
      by k.1 a named own (gotten r (name_of o) p a k.1 k.2 h named) (read_name r a k.1 k.2) (is_text r.name (name_of o)) refl
    where
      by : (b a : Candidate) → candidate_name a ≡ name_of o → Contains a.observed.declaration.packages p → refusals.Gets (scene_of q) a b p → candidate_name b ≡ r.name → (x : Bool) → is_text r.name (name_of o) ≡ x → r.name ≡ name_of o
      by b a named own got n true e = text_is r.name (name_of o) e
      by b a named own got n false e = absurd (none (OwnPackage (name_of o) p r.name) (a, b, named, own, got, n, text_differs r.name (name_of o) e))

  keepable : IsKeepable q.known g
  keepable = record {
    few = few;
    few_modules = few_modules;
    number = is.number;
    parents = known_parents;
    readers = readers;
    targets = targets;
    exports = λ o c. (grants o c).0;
    opens = λ o c. (grants o c).1;
    same_name = same_name;
    own_name = own_name;
    same_package = same_package;
    own_package = own_package;
  }

pub resolved_keepable : (q : Asked) (g : Configuration) → AsksOfKept q → Resolves q (Ok g) → IsKeepable q.known g
resolved_keepable q g asks r = keepable q g asks r.0 r.1
