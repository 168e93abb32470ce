-- What is there stays: later configurations, layers and modules change nothing of those before them (`ModuleLayer`).
use Rattle.std.proofs.Common.{◌≡◌, ◌<◌, ◌≤◌, ◌+◌, ◌==◌, ◌&&◌, ℕ, zero, suc, List, [], ◌∷◌, ◌++◌, length, map, find, flat_map, filter_map, Option, Some, None, Bool, true, false, not, inl, inr, if◌then◌else◌, refl, sym, ◌∙◌, ap, ap₂, subst, arith}
use Rattle.std.specs.Prelude.{Contains}
use Rattle.std.specs.Option.{option_and_then, option_map, option_map_or, option_zip}
use Rattle.std.specs.Cmp.Lexicographic.{bytes_decides}
use Rattle.std.proofs.lemmas.List.Elements.{All-contains}
use Rattle.jl_logic.specs.Order.{is_text}
use Rattle.jl_logic.proofs.Rising.{contains_head, contains_nothing, contains_cases}
use Rattle.jl_prim.specs.declared.numbers.ModuleId.{ModuleId}
use Rattle.jl_prim.specs.declared.numbers.LayerId.{LayerId}
use Rattle.jl_prim.specs.declared.numbers.LoaderId.{LoaderId}
use Rattle.jl_prim.specs.declared.numbers.ConfigId.{ConfigId}
use Rattle.jl_prim.specs.declared.declaration.Declaration.{Declaration}
use Rattle.jl_config.specs.declared.configuration.Read.{Read}
use Rattle.jl_config.specs.Configurations.{Configuration}
use Rattle.jl_config.specs.Located.{configuration_of, empty_configuration, is_numbered}
use Rattle.jl_access.specs.declared.statement.Reach.{Reach}
use Rattle.jl_access.specs.declared.statement.Statement.{Statement}
use Rattle.jl_access.specs.declared.statement.Statement.TheVariants.{Exports, Opens}
use Rattle.jl_logic.specs.Lists.{IsFront}
use Rattle.jl_layer.specs.declared.layer.Layer.{Layer}
use Rattle.jl_layer.specs.declared.layer.Member.{Member}
use Rattle.jl_layer.specs.Layers.{State, empty_layer, layer_at, configuration_at, member_of, IsLayer, IsConfiguration, IsModule, declaration_of, has_name, named_in, line, above, first_given, find_module}
use Rattle.jl_layer.specs.Meaning.{is_layer_of, meant_above, read_module, read_pair, reads_of, reach_found, reaches, exports_by, opens_by, uses_by, stated_by, stated_of, stated_in, stated_read, statements_of}
use Rattle.jl_layer.specs.Defining.{is_of, packages_of, own_of, exported_by, seen_of, with_module, parts_of}
use Rattle.jl_layer.specs.Sound.{AreSound}
use Rattle.jl_layer.proofs.Listed.{front_or, front_long, numbered_kept, numbered_there, find_alike, find_from, map_alike, flat_map_alike, flat_map_from, filter_map_alike, filter_map_from, first_given_alike, and_then_alike, and_then_from, zip_from}

-- ---- what the order of layers says

-- Each layer's configuration is there, its parents stand before it, and its modules are there.
pub record AreLaidOut (s : State) : Type 0 where
  pub known : (l : LayerId) → IsLayer s l → IsConfiguration s (layer_at s l).config
  pub below : (l p : LayerId) → IsLayer s l → Contains (layer_at s l).parents p → p.0 < l.0
  pub inside : (l : LayerId) (m : ModuleId) → IsLayer s l → Contains (layer_at s l).modules m → IsModule s m

-- more configurations, layers and modules behind those of before
pub record Extends (f g : State) : Type 0 where
  pub configurations : IsFront f.configurations g.configurations
  pub layers : IsFront f.layers g.layers
  pub modules : IsFront f.modules g.modules

-- layer 0 is the empty one
pub layer_zero : (s : State) (l : LayerId) → l.0 ≡ 0 → layer_at s l ≡ empty_layer
layer_zero s l e = ap (λ (k : ℕ). let z : LayerId = record { 0 = k } in layer_at s z) e

pub member_there : (s : State) (m : ModuleId) (x : Member) → member_of s m ≡ Some x → IsModule s m
member_there s m x e = numbered_there s.modules m.0 x e

has_layer : (s : State) (m : ModuleId) (l : LayerId) → option_map (λ (x : Member). x.layer) (member_of s m) ≡ Some l → IsModule s m
has_layer s m l e = by (member_of s m) refl e
  where
    by : (o : Option Member) → member_of s m ≡ o → option_map (λ (x : Member). x.layer) o ≡ Some l → IsModule s m
    by None i k = absurd cc
    by (Some x) i k = member_there s m x i

pub laid_out : (s : State) → AreSound s → AreLaidOut s
laid_out s sound = record {
  known = λ l there. known l l.0 refl there;
  below = λ l p there c. below l p l.0 refl there c;
  inside = λ l m there c. inside l m l.0 refl there c;
}
  where
    known : (l : LayerId) (k : ℕ) → l.0 ≡ k → IsLayer s l → IsConfiguration s (layer_at s l).config
    known l zero e there = subst (λ (x : Layer). IsConfiguration s x.config) (sym (layer_zero s l e)) (omega arith)
    known l (suc k) e there = (sound.layers l (omega arith) there).known

    below : (l p : LayerId) (k : ℕ) → l.0 ≡ k → IsLayer s l → Contains (layer_at s l).parents p → p.0 < l.0
    below l p zero e there c = contains_nothing p (subst (λ (x : Layer). Contains x.parents p) (layer_zero s l e) c)
    below l p (suc k) e there c = All-contains (λ (r : LayerId). r.0 < l.0) (layer_at s l).parents p (sound.layers l (omega arith) there).below c

    inside : (l : LayerId) (m : ModuleId) (k : ℕ) → l.0 ≡ k → IsLayer s l → Contains (layer_at s l).modules m → IsModule s m
    inside l m zero e there c = contains_nothing m (subst (λ (x : Layer). Contains x.modules m) (layer_zero s l e) c)
    inside l m (suc k) e there c =
        has_layer s m l (All-contains (λ (n : ModuleId). option_map (λ (x : Member). x.layer) (member_of s n) ≡ Some l) (layer_at s l).modules m (sound.layers l (omega arith) there).inside c)

-- ---- within one state

module _ (f : State) (order : AreLaidOut f) where
  pub parent_there : (l p : LayerId) → IsLayer f l → Contains (layer_at f l).parents p → IsLayer f p
  parent_there l p there c = let lt : p.0 < l.0 = order.below l p there c in omega arith

  -- all that a line meets are layers
  pub line_there : (n : ℕ) (ls : List LayerId) (k : LayerId) → ((p : LayerId) → Contains ls p → IsLayer f p) → Contains (line n f ls) k → IsLayer f k
  unfolding line
  line_there zero ls k there c = contains_nothing k c
  line_there (suc n) ls k there c =
      let r = flat_map_from (λ (l : LayerId). l ∷ line n f (layer_at f l).parents) ls k c in
      elim (contains_cases r.0 k (line n f (layer_at f r.0).parents) r.2) [
        | inl e ↦ subst (IsLayer f) e (there r.0 r.1)
        | inr d ↦ line_there n (layer_at f r.0).parents k (λ p i. parent_there r.0 p (there r.0 r.1) i) d
      ]

  -- a line that is deep enough
  pub line_deep : (n m : ℕ) (ls : List LayerId) → ((p : LayerId) → Contains ls p → IsLayer f p × (p.0 < n) × (p.0 < m)) → line n f ls ≡ line m f ls
  unfolding line
  line_deep zero zero ls h = refl
  line_deep zero (suc m) [] h = refl
  line_deep zero (suc m) (p ∷ ls) h = let r = h p (contains_head p ls) in absurd (omega (arith, r.1))
  line_deep (suc n) zero [] h = refl
  line_deep (suc n) zero (p ∷ ls) h = let r = h p (contains_head p ls) in absurd (omega (arith, r.2))
  line_deep (suc n) (suc m) ls h =
      flat_map_alike (λ (l : LayerId). l ∷ line n f (layer_at f l).parents) (λ (l : LayerId). l ∷ line m f (layer_at f l).parents) ls
      (λ p c. ap (λ (ks : List LayerId). p ∷ ks) (line_deep n m (layer_at f p).parents (λ r d. lower p r (h p c) d)))
    where
      lower : (p r : LayerId) → IsLayer f p × (p.0 < suc n) × (p.0 < suc m) → Contains (layer_at f p).parents r → IsLayer f r × (r.0 < n) × (r.0 < m)
      lower p r h d = let lt : r.0 < p.0 = order.below p r h.0 d in (omega (arith, h.0), omega (arith, h.1), omega (arith, h.2))

  pub above_there : (ls : List LayerId) (k : LayerId) → ((p : LayerId) → Contains ls p → IsLayer f p) → Contains (above f ls) k → IsLayer f k
  above_there ls k there c = line_there (length f.layers + 1) ls k there c

  pub named_there : (l : LayerId) (name : List ℕ) (m : ModuleId) → IsLayer f l → named_in f l name ≡ Some m → IsModule f m
  named_there l name m there e = order.inside l m there (find_from (has_name f name) (layer_at f l).modules m e).0

  -- the layer in which a module of a configuration is found
  pub meant_from : (ls : List LayerId) (c : ConfigId) (name : List ℕ) (m : ModuleId) → ((p : LayerId) → Contains ls p → IsLayer f p) → meant_above f ls c name ≡ Some m
      → (k : LayerId) × Contains (above f ls) k × IsLayer f k × (is_layer_of f c k ≡ true) × (named_in f k name ≡ Some m)
  meant_from ls c name m there e =
      let r = and_then_from (λ (l : LayerId). named_in f l name) (find (is_layer_of f c) (above f ls)) m e in
      let k = find_from (is_layer_of f c) (above f ls) r.0 r.1 in
      (r.0, k.0, above_there ls r.0 there k.0, k.1, r.2)

  pub meant_there : (ls : List LayerId) (c : ConfigId) (name : List ℕ) (m : ModuleId) → ((p : LayerId) → Contains ls p → IsLayer f p) → meant_above f ls c name ≡ Some m → IsModule f m
  meant_there ls c name m there e = let r = meant_from ls c name m there e in named_there r.0 name m r.2 r.4

  pub read_there : (l : LayerId) (r : Read) (m : ModuleId) → IsLayer f l → read_module f l r ≡ Some m → IsModule f m
  read_there l r m there e = by (is_numbered r.config (layer_at f l).config) e
    where
      by : (b : Bool) → (if b then named_in f l r.name else meant_above f (layer_at f l).parents r.config r.name) ≡ Some m → IsModule f m
      by true e = named_there l r.name m there e
      by false e = meant_there (layer_at f l).parents r.config r.name m (λ p c. parent_there l p there c) e

  -- the entry of a read pair
  pub reads_from : (l : LayerId) (a m : ModuleId) → Contains (reads_of f l) (a, m) → (r : Read) × Contains (configuration_at f l).reads r × (named_in f l r.reader ≡ Some a) × (read_module f l r ≡ Some m)
  reads_from l a m c =
      let r = filter_map_from (read_pair f l) (configuration_at f l).reads (a, m) c in
      let z = zip_from (named_in f l r.0.reader) (read_module f l r.0) a m r.2 in
      (r.0, r.1, z.0, z.1)

  pub reads_there : (l : LayerId) (a m : ModuleId) → IsLayer f l → Contains (reads_of f l) (a, m) → IsModule f a × IsModule f m
  reads_there l a m there c = let r = reads_from l a m c in (named_there l r.0.reader a there r.2, read_there l r.0 m there r.3)

-- ---- from one state to a later one

module _ (f g : State) (order : AreLaidOut f) (more : Extends f g) where
  pub still_layer : (l : LayerId) → IsLayer f l → IsLayer g l
  still_layer l there = let le = front_long f.layers g.layers more.layers in omega arith

  pub layer_kept : (l : LayerId) → IsLayer f l → layer_at g l ≡ layer_at f l
  layer_kept l there = front_or empty_layer f.layers g.layers l.0 more.layers there

  pub config_kept : (c : ConfigId) → IsConfiguration f c → configuration_of g.configurations c ≡ configuration_of f.configurations c
  config_kept c there = front_or empty_configuration f.configurations g.configurations c.0 more.configurations there

  pub configuration_kept : (l : LayerId) → IsLayer f l → configuration_at g l ≡ configuration_at f l
  configuration_kept l there = ap (λ (x : Layer). configuration_of g.configurations x.config) (layer_kept l there) ∙ config_kept (layer_at f l).config (order.known l there)

  pub member_kept : (m : ModuleId) → IsModule f m → member_of g m ≡ member_of f m
  member_kept m there = numbered_kept f.modules g.modules m.0 more.modules there.1

  pub still_member : (m : ModuleId) (x : Member) → member_of f m ≡ Some x → member_of g m ≡ Some x
  still_member m x e = member_kept m (member_there f m x e) ∙ e

  -- ---- names

  name_kept : (name : List ℕ) (m : ModuleId) → IsModule f m → has_name g name m ≡ has_name f name m
  name_kept name m there = ap (λ (o : Option Member). option_map_or (λ (x : Member). is_text (declaration_of x).name name) o false) (member_kept m there)

  pub named_kept : (l : LayerId) (name : List ℕ) → IsLayer f l → named_in g l name ≡ named_in f l name
  named_kept l name there =
      ap (λ (x : Layer). find (has_name g name) x.modules) (layer_kept l there)
      ∙ find_alike (has_name g name) (has_name f name) (layer_at f l).modules (λ m c. name_kept name m (order.inside l m there c))

  pub line_kept : (n : ℕ) (ls : List LayerId) → ((p : LayerId) → Contains ls p → IsLayer f p) → line n g ls ≡ line n f ls
  unfolding line
  line_kept zero ls there = refl
  line_kept (suc n) ls there =
      flat_map_alike (λ (l : LayerId). l ∷ line n g (layer_at g l).parents) (λ (l : LayerId). l ∷ line n f (layer_at f l).parents) ls
      (λ p c.
      ap (λ (x : Layer). p ∷ line n g x.parents) (layer_kept p (there p c))
      ∙ ap (λ (ks : List LayerId). p ∷ ks) (line_kept n (layer_at f p).parents (λ r d. parent_there f order p r (there p c) d)))

  pub above_kept : (ls : List LayerId) → ((p : LayerId) → Contains ls p → IsLayer f p) → above g ls ≡ above f ls
  above_kept ls there =
      let le = front_long f.layers g.layers more.layers in
      line_kept (length g.layers + 1) ls there ∙ line_deep f order (length g.layers + 1) (length f.layers + 1) ls (λ p c. within p (there p c) le)
    where
      within : (p : LayerId) → IsLayer f p → length f.layers ≤ length g.layers → IsLayer f p × (p.0 < length g.layers + 1) × (p.0 < length f.layers + 1)
      within p h le = (h, omega arith, omega arith)

  only_one : (l p : LayerId) → IsLayer f l → Contains (l ∷ []) p → IsLayer f p
  only_one l p there c = elim (contains_cases l p [] c) [ inl e ↦ subst (IsLayer f) e there | inr d ↦ contains_nothing p d ]

  pub find_kept : (l : LayerId) (name : List ℕ) → IsLayer f l → find_module g l name ≡ find_module f l name
  find_kept l name there =
      ap (first_given (λ (k : LayerId). named_in g k name)) (above_kept (l ∷ []) (λ p c. only_one l p there c))
      ∙ first_given_alike (λ (k : LayerId). named_in g k name) (λ (k : LayerId). named_in f k name) (above f (l ∷ []))
      (λ k c. named_kept k name (above_there f order (l ∷ []) k (λ p d. only_one l p there d) c))

  -- ---- reads

  of_kept : (c : ConfigId) (k : LayerId) → IsLayer f k → is_layer_of g c k ≡ is_layer_of f c k
  of_kept c k there = ap (λ (x : Layer). is_numbered x.config c) (layer_kept k there)

  pub meant_kept : (ls : List LayerId) (c : ConfigId) (name : List ℕ) → ((p : LayerId) → Contains ls p → IsLayer f p) → meant_above g ls c name ≡ meant_above f ls c name
  meant_kept ls c name there =
      ap (λ (ks : List LayerId). option_and_then (λ (l : LayerId). named_in g l name) (find (is_layer_of g c) ks)) (above_kept ls there)
      ∙ ap (option_and_then (λ (l : LayerId). named_in g l name)) (find_alike (is_layer_of g c) (is_layer_of f c) (above f ls) (λ k d. of_kept c k (above_there f order ls k there d)))
      ∙ and_then_alike (λ (l : LayerId). named_in g l name) (λ (l : LayerId). named_in f l name) (find (is_layer_of f c) (above f ls))
      (λ k e. named_kept k name (above_there f order ls k there (find_from (is_layer_of f c) (above f ls) k e).0))

  pub read_kept : (l : LayerId) (r : Read) → IsLayer f l → read_module g l r ≡ read_module f l r
  read_kept l r there =
      ap (λ (x : Layer). if is_numbered r.config x.config then named_in g l r.name else meant_above g x.parents r.config r.name) (layer_kept l there)
      ∙ ap₂ (λ (u v : Option ModuleId). if is_numbered r.config (layer_at f l).config then u else v) (named_kept l r.name there) (meant_kept (layer_at f l).parents r.config r.name (λ p c. parent_there f order l p there c))

  pub reads_kept : (l : LayerId) → IsLayer f l → reads_of g l ≡ reads_of f l
  reads_kept l there =
      ap (λ (c : Configuration). filter_map (read_pair g l) c.reads) (configuration_kept l there)
      ∙ filter_map_alike (read_pair g l) (read_pair f l) (configuration_at f l).reads
      (λ r c. ap₂ (λ (u v : Option ModuleId). option_zip u v) (named_kept l r.reader there) (read_kept l r there))

  -- ---- statements

  reaches_kept : (l : LayerId) (to : Option (List (List ℕ))) → IsLayer f l → reaches g l to ≡ reaches f l to
  reaches_kept l None there = refl
  reaches_kept l (Some names) there =
      map_alike (λ (name : List ℕ). reach_found (find_module g l name)) (λ (name : List ℕ). reach_found (find_module f l name)) names (λ name c. ap reach_found (find_kept l name there))

  by_kept : (l : LayerId) (m : ModuleId) (d : Declaration) → IsLayer f l → stated_by g l m d ≡ stated_by f l m d
  by_kept l m d there =
      ap₂ (λ (u v : List Statement). u ++ v ++ uses_by m d.uses)
      (flat_map_alike (exports_by g l m) (exports_by f l m) d.exports (λ x c. ap (map (λ (to : Reach). Exports m x.«package» to)) (reaches_kept l x.to there)))
      (flat_map_alike (opens_by g l m) (opens_by f l m) d.opens (λ x c. ap (map (λ (to : Reach). Opens m x.«package» to)) (reaches_kept l x.to there)))

  stated_kept : (l : LayerId) (m : ModuleId) (o : Option Member) → IsLayer f l → stated_of g l m o ≡ stated_of f l m o
  stated_kept l m None there = refl
  stated_kept l m (Some x) there = by_kept l m (declaration_of x) there

  pub statements_kept : (l : LayerId) → IsLayer f l → statements_of g l ≡ statements_of f l
  statements_kept l there =
      ap₂ (λ (u v : List Statement). u ++ v) (ap (map stated_read) (reads_kept l there))
      (ap (λ (x : Layer). flat_map (stated_in g l) x.modules) (layer_kept l there)
      ∙ flat_map_alike (stated_in g l) (stated_in f l) (layer_at f l).modules (λ m c. ap (stated_of g l m) (member_kept m (order.inside l m there c)) ∙ stated_kept l m (member_of f m) there))

  -- ---- parts of loaders

  is_of_kept : (l : LoaderId) (m : ModuleId) → IsModule f m → is_of g l m ≡ is_of f l m
  is_of_kept l m there = ap (λ (o : Option Member). option_map_or (λ (x : Member). x.loader.0 == l.0) o false) (member_kept m there)

  own_kept : (l : LoaderId) (m : ModuleId) → IsModule f m → own_of g l m ≡ own_of f l m
  own_kept l m there =
      ap (λ (o : Option Member). if option_map_or (λ (x : Member). x.loader.0 == l.0) o false then with_module m (packages_of o) else []) (member_kept m there)

  seen_kept : (l : LoaderId) (r : ModuleId × ModuleId) → IsModule f r.0 → IsModule f r.1 → seen_of g l r ≡ seen_of f l r
  seen_kept l r there here =
      ap₂ (λ (u v : Option Member). if option_map_or (λ (x : Member). x.loader.0 == l.0) u false && not (option_map_or (λ (x : Member). x.loader.0 == l.0) v false) then with_module r.1 (exported_by v u) else []) (member_kept r.0 there) (member_kept r.1 here)

  pub parts_kept : (k : LayerId) (l : LoaderId) → IsLayer f k → parts_of g k l ≡ parts_of f k l
  parts_kept k l there = λ i. record { own = own i; seen = seen i; parent = (layer_kept k there i).parent_loader }
    where
      own : flat_map (own_of g l) (layer_at g k).modules ≡ flat_map (own_of f l) (layer_at f k).modules
      own =
          ap (λ (x : Layer). flat_map (own_of g l) x.modules) (layer_kept k there)
          ∙ flat_map_alike (own_of g l) (own_of f l) (layer_at f k).modules (λ m c. own_kept l m (order.inside k m there c))

      seen : flat_map (seen_of g l) (reads_of g k) ≡ flat_map (seen_of f l) (reads_of f k)
      seen =
          ap (flat_map (seen_of g l)) (reads_kept k there)
          ∙ flat_map_alike (seen_of g l) (seen_of f l) (reads_of f k) (λ x c. let r = reads_there f order k x.0 x.1 there c in seen_kept l x r.0 r.1)

-- ---- names

-- a module that is found has the name
pub named_name : (s : State) (l : LayerId) (name : List ℕ) (m : ModuleId) (x : Member) → named_in s l name ≡ Some m → member_of s m ≡ Some x → (declaration_of x).name ≡ name
named_name s l name m x e f =
    let r = find_from (has_name s name) (layer_at s l).modules m e in
    let t : is_text (declaration_of x).name name ≡ true = sym (ap (λ (o : Option Member). option_map_or (λ (y : Member). is_text (declaration_of y).name name) o false) f) ∙ r.1 in
    (bytes_decides (declaration_of x).name name).0 t

-- the empty layer states nothing
pub nothing_stated : (s : State) (l : LayerId) → l.0 ≡ 0 → statements_of s l ≡ []
nothing_stated s l e = ap (λ (k : ℕ). let z : LayerId = record { 0 = k } in statements_of s z) e
