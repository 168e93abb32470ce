-- What a loader has for a package, by the parts that its layer gives it (JVMS 5.3).
use Rattle.std.proofs.Common.{◌≡◌, ◌==◌, ◌&&◌, ℕ, List, [], ◌∷◌, Option, Some, None, Bool, true, false, not, true≢false, cond, if◌then◌else◌, inl, inr, eqb-true, eq-eqb, refl, sym, ◌∙◌, ap, ap₂, subst}
use Rattle.std.specs.Prelude.{Contains}
use Rattle.std.specs.Option.{option_map_or}
use Rattle.std.specs.Cmp.Lexicographic.{bytes_decides}
use Rattle.std.proofs.lemmas.Bool.{and_parts}
use Rattle.std.proofs.lemmas.Option.{none-some, same_Some}
use Rattle.jl_logic.specs.Order.{is_text}
use Rattle.jl_logic.proofs.Rising.{contains_head, contains_tail, contains_nothing, contains_cases}
use Rattle.jl_prim.specs.declared.numbers.ModuleId.{ModuleId}
use Rattle.jl_prim.specs.declared.numbers.LayerId.{LayerId}
use Rattle.jl_prim.specs.declared.numbers.LoaderId.{LoaderId}
use Rattle.jl_loaders.specs.Loaders as delegation
use Rattle.jl_layer.specs.declared.layer.Member.{Member}
use Rattle.jl_layer.specs.Layers.{State, layer_at, member_of, declaration_of}
use Rattle.jl_layer.specs.Meaning.{reads_of, exported_to}
use Rattle.jl_layer.specs.Leads.{HasOwn, Sees, NoModule}
use Rattle.jl_layer.specs.Defining.{is_of, packages_of, with_module, own_of, exported_by, seen_of, parts_of}
use Rattle.jl_layer.specs.Sound.{AreSound}
use Rattle.jl_layer.proofs.Listed.{map_into, map_from, flat_map_into, flat_map_from}
use Rattle.jl_layer.proofs.Added.{same_loader}
use Rattle.jl_layer.proofs.StillSound.{has_exported, parts_of_loader}

abbrev Pair : Type 0
Pair = List ℕ × ModuleId

-- ---- the module of the first pair of a package

given_in : (p : List ℕ) (xs : List Pair) (m : ModuleId) → delegation.given_for p xs ≡ Some m → Contains xs (p, m)
given_in p [] m e = absurd (none-some m e)
given_in p (x ∷ xs) m e = by (is_text x.0 p) refl e (given_in p xs m)
  where
    by : (b : Bool) → is_text x.0 p ≡ b → cond b (Some x.1) (delegation.given_for p xs) ≡ Some m → (delegation.given_for p xs ≡ Some m → Contains xs (p, m)) → Contains (x ∷ xs) (p, m)
    by true i k more =
        let u : x.0 ≡ p = (bytes_decides x.0 p).0 i in
        let v : x.1 ≡ m = same_Some x.1 m k in
        let both : x ≡ (p, m) = λ j. (u j, v j) in
        subst (Contains (x ∷ xs)) both (contains_head x xs)
    by false i k more = contains_tail x (p, m) xs (more k)

given_some : (p : List ℕ) (xs : List Pair) (m : ModuleId) → Contains xs (p, m) → (n : ModuleId) × (delegation.given_for p xs ≡ Some n)
given_some p [] m c = contains_nothing (p, m) c
given_some p (x ∷ xs) m c = by (is_text x.0 p) refl (given_some p xs m)
  where
    by : (b : Bool) → is_text x.0 p ≡ b → (Contains xs (p, m) → (n : ModuleId) × (delegation.given_for p xs ≡ Some n)) → (n : ModuleId) × (cond b (Some x.1) (delegation.given_for p xs) ≡ Some n)
    by true i more = (x.1, refl)
    by false i more = elim (contains_cases x (p, m) xs c) [
      | inl e ↦ absurd (true≢false (sym ((bytes_decides x.0 p).1 (ap (λ (y : Pair). y.0) e)) ∙ i))
      | inr d ↦ more d
    ]

-- a pair of a list of names with their module
with_from : (m n : ModuleId) (names : List (List ℕ)) (p : List ℕ) → Contains (with_module n names) (p, m) → Contains names p × (n ≡ m)
with_from m n names p c =
    let r = map_from (λ (q : List ℕ). let x : Pair = (q, n) in x) names (p, m) c in
    (subst (Contains names) (ap (λ (x : Pair). x.0) r.2) r.1, ap (λ (x : Pair). x.1) r.2)

-- ---- what a loader has of its own

own_from : (s : State) (k : LayerId) (l : LoaderId) (p : List ℕ) (m : ModuleId) → Contains (parts_of s k l).own (p, m) → HasOwn s l p m
own_from s k l p m c =
    let r = flat_map_from (own_of s l) (layer_at s k).modules (p, m) c in
    by r.0 (member_of s r.0) refl r.2
  where
    of_loader : (n : ModuleId) (x : Member) (b : Bool) → member_of s n ≡ Some x → (x.loader.0 == l.0) ≡ b → Contains (if b then with_module n (declaration_of x).packages else []) (p, m) → HasOwn s l p m
    of_loader n x true e i d =
        let r = with_from m n (declaration_of x).packages p d in
        (x, subst (λ (o : ModuleId). member_of s o ≡ Some x) r.1 e, same_loader x.loader l (eqb-true x.loader.0 l.0 i), r.0)
    of_loader n x false e i d = contains_nothing (p, m) d

    by : (n : ModuleId) (o : Option Member) → member_of s n ≡ o → Contains (if option_map_or (λ (x : Member). x.loader.0 == l.0) o false then with_module n (packages_of o) else []) (p, m) → HasOwn s l p m
    by n None e d = contains_nothing (p, m) d
    by n (Some x) e d = of_loader n x (x.loader.0 == l.0) e refl d

own_into : (s : State) (k : LayerId) (l : LoaderId) (p : List ℕ) (m : ModuleId) → Contains (layer_at s k).modules m → HasOwn s l p m → Contains (parts_of s k l).own (p, m)
own_into s k l p m there (x, e, i, c) =
    let is : own_of s l m ≡ with_module m (declaration_of x).packages =
    ap (λ (o : Option Member). if option_map_or (λ (y : Member). y.loader.0 == l.0) o false then with_module m (packages_of o) else []) e
    ∙ ap (λ (b : Bool). if b then with_module m (declaration_of x).packages else []) (eq-eqb x.loader.0 l.0 (ap (λ (y : LoaderId). y.0) i)) in
    flat_map_into (own_of s l) (layer_at s k).modules m (p, m) there (subst (λ (ys : List Pair). Contains ys (p, m)) (sym is) (map_into (λ (q : List ℕ). let y : Pair = (q, m) in y) (declaration_of x).packages p c))

-- ---- what it sees

-- a module of the loader reads one of the layer's reads, which exports the package to it
record SeesBy (s : State) (k : LayerId) (l : LoaderId) (p : List ℕ) (m : ModuleId) : Type 0 where
  reader : ModuleId
  by : Member
  target : Member
  is_reader : member_of s reader ≡ Some by
  loader : by.loader ≡ l
  read : Contains (reads_of s k) (reader, m)
  is_target : member_of s m ≡ Some target
  exported : Contains (exported_to (declaration_of target) (declaration_of by).name) p

seen_from : (s : State) (k : LayerId) (l : LoaderId) (p : List ℕ) (m : ModuleId) → Contains (parts_of s k l).seen (p, m) → SeesBy s k l p m
seen_from s k l p m c =
    let r = flat_map_from (seen_of s l) (reads_of s k) (p, m) c in
    by r.0 r.1 (is_of s l r.0.0 && not (is_of s l r.0.1)) refl r.2
  where
    of_members : (a n : ModuleId) (u v : Option Member) → member_of s a ≡ u → member_of s n ≡ v → option_map_or (λ (x : Member). x.loader.0 == l.0) u false ≡ true
        → Contains (reads_of s k) (a, n) → n ≡ m → Contains (exported_by v u) p → SeesBy s k l p m
    of_members a n None v e f i read is d = absurd (true≢false (sym i))
    of_members a n (Some x) None e f i read is d = contains_nothing p d
    of_members a n (Some x) (Some y) e f i read is d = record {
      reader = a;
      by = x;
      target = y;
      is_reader = e;
      loader = same_loader x.loader l (eqb-true x.loader.0 l.0 i);
      read = subst (λ (o : ModuleId). Contains (reads_of s k) (a, o)) is read;
      is_target = subst (λ (o : ModuleId). member_of s o ≡ Some y) is f;
      exported = d;
    }

    by : (r : ModuleId × ModuleId) → Contains (reads_of s k) r → (b : Bool) → (is_of s l r.0 && not (is_of s l r.1)) ≡ b
        → Contains (if b then with_module r.1 (exported_by (member_of s r.1) (member_of s r.0)) else []) (p, m) → SeesBy s k l p m
    by r read false i d = contains_nothing (p, m) d
    by r read true i d =
        let both = and_parts (is_of s l r.0) (not (is_of s l r.1)) i in
        let w = with_from m r.1 (exported_by (member_of s r.1) (member_of s r.0)) p d in
        of_members r.0 r.1 (member_of s r.0) (member_of s r.1) refl refl both.0 read w.1 w.0

seen_into : (s : State) (k : LayerId) (l : LoaderId) (p : List ℕ) (m : ModuleId) → AreSound s → NoModule (HasOwn s l p) → SeesBy s k l p m → Contains (parts_of s k l).seen (p, m)
seen_into s k l p m sound none h =
    flat_map_into (seen_of s l) (reads_of s k) (h.reader, m) (p, m) h.read
    (subst (λ (ys : List Pair). Contains ys (p, m)) (sym is) (map_into (λ (q : List ℕ). let y : Pair = (q, m) in y) (exported_to (declaration_of h.target) (declaration_of h.by).name) p h.exported))
  where
    other : (b : Bool) → (h.target.loader.0 == l.0) ≡ b → b ≡ false
    other false i = refl
    other true i =
        absurd
        (none m
        (h.target, h.is_target, same_loader h.target.loader l (eqb-true h.target.loader.0 l.0 i), has_exported s m h.target (declaration_of h.by).name p sound h.is_target h.exported))

    is : seen_of s l (h.reader, m) ≡ with_module m (exported_to (declaration_of h.target) (declaration_of h.by).name)
    is =
        ap₂ (λ (u v : Option Member). if option_map_or (λ (z : Member). z.loader.0 == l.0) u false && not (option_map_or (λ (z : Member). z.loader.0 == l.0) v false) then with_module m (exported_by v u) else []) h.is_reader h.is_target
        ∙ ap₂ (λ (b c : Bool). if b && not c then with_module m (exported_to (declaration_of h.target) (declaration_of h.by).name) else []) (eq-eqb h.by.loader.0 l.0 (ap (λ (y : LoaderId). y.0) h.loader))
        (other (h.target.loader.0 == l.0) refl)

-- ---- a loader and its layer

-- the loader has the parts that the layer gives it, and its modules are of the layer
pub record IsLoaderOf (s : State) (l : LoaderId) (k : LayerId) : Type 0 where
  pub there : delegation.numbered s.loaders.loaders l.0 ≡ Some (parts_of s k l)
  pub only : (m : ModuleId) (x : Member) → member_of s m ≡ Some x → x.loader ≡ l → x.layer ≡ k
  pub used : (m : ModuleId) × (x : Member) × (member_of s m ≡ Some x) × (x.loader ≡ l)

pub loader_layer : (s : State) (m : ModuleId) (x : Member) → AreSound s → member_of s m ≡ Some x → IsLoaderOf s x.loader x.layer
loader_layer s m x sound e = record {
  there = parts_of_loader s m x sound e;
  only = λ n y f i. sound.one_layer n m y x f e i;
  used = (m, x, e, refl);
}

module _ (s : State) (sound : AreSound s) (l : LoaderId) (k : LayerId) (of : IsLoaderOf s l k) (p : List ℕ) where
  pub given_own : (m : ModuleId) → delegation.given_for p (parts_of s k l).own ≡ Some m → HasOwn s l p m
  given_own m e = own_from s k l p m (given_in p (parts_of s k l).own m e)

  pub own_given : (m : ModuleId) → HasOwn s l p m → delegation.given_for p (parts_of s k l).own ≡ Some m
  own_given m (x, e, i, c) =
      let there : Contains (layer_at s k).modules m = subst (λ (n : LayerId). Contains (layer_at s n).modules m) (of.only m x e i) (sound.members m x e).2 in
      let g = given_some p (parts_of s k l).own m (own_into s k l p m there (x, e, i, c)) in
      g.1 ∙ ap Some ((sound.apart l p).own g.0 m (given_own g.0 g.1) (x, e, i, c))

  of_reads : (m : ModuleId) → SeesBy s k l p m → Sees s l p m
  of_reads m h =
      (h.reader, h.by, h.target, h.is_reader, h.loader, subst (λ (n : LayerId). Contains (reads_of s n) (h.reader, m)) (sym (of.only h.reader h.by h.is_reader h.loader)) h.read, h.is_target, h.exported)

  by_reads : (m : ModuleId) → Sees s l p m → SeesBy s k l p m
  by_reads m (a, x, y, e, i, c, f, d) = record {
    reader = a;
    by = x;
    target = y;
    is_reader = e;
    loader = i;
    read = subst (λ (n : LayerId). Contains (reads_of s n) (a, m)) (of.only a x e i) c;
    is_target = f;
    exported = d;
  }

  pub given_seen : (m : ModuleId) → delegation.given_for p (parts_of s k l).seen ≡ Some m → Sees s l p m
  given_seen m e = of_reads m (seen_from s k l p m (given_in p (parts_of s k l).seen m e))

  pub seen_given : (m : ModuleId) → NoModule (HasOwn s l p) → Sees s l p m → delegation.given_for p (parts_of s k l).seen ≡ Some m
  seen_given m none h =
      let g = given_some p (parts_of s k l).seen m (seen_into s k l p m sound none (by_reads m h)) in
      g.1 ∙ ap Some ((sound.apart l p).seen g.0 m none (given_seen g.0 g.1) h)

  pub no_own : delegation.given_for p (parts_of s k l).own ≡ None → NoModule (HasOwn s l p)
  no_own e m h = none-some m (sym e ∙ own_given m h)

  pub no_seen : NoModule (HasOwn s l p) → delegation.given_for p (parts_of s k l).seen ≡ None → NoModule (Sees s l p)
  no_seen none e m h = none-some m (sym e ∙ seen_given m none h)

  pub none_given : NoModule (HasOwn s l p) → delegation.given_for p (parts_of s k l).own ≡ None
  none_given none = by (delegation.given_for p (parts_of s k l).own) refl
    where
      by : (o : Option ModuleId) → delegation.given_for p (parts_of s k l).own ≡ o → o ≡ None
      by None e = refl
      by (Some m) e = absurd (none m (given_own m e))

  pub none_seen : NoModule (Sees s l p) → delegation.given_for p (parts_of s k l).seen ≡ None
  none_seen none = by (delegation.given_for p (parts_of s k l).seen) refl
    where
      by : (o : Option ModuleId) → delegation.given_for p (parts_of s k l).seen ≡ o → o ≡ None
      by None e = refl
      by (Some m) e = absurd (none m (given_seen m e))
