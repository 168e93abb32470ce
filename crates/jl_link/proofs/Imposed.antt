-- What imposing a constraint leaves, for one name and for all of a descriptor.
use Rattle.std.proofs.Common.{◌≡◌, ◌<◌, ◌≤◌, ◌&&◌, ◌==◌, ℕ, zero, suc, List, [], ◌∷◌, ◌++◌, length, inl, inr, ⊎_elim, refl, sym, ◌∙◌, ap, subst, Option, Some, None, Result, Ok, Err, Bool, true, false, arith, length-append, if◌then◌else◌}
use Rattle.std.specs.Prelude.{Contains, filter_map, nat_le, OnOk}
use Rattle.std.proofs.lemmas.Bool.{cases_eq}
use Rattle.std.proofs.lemmas.Bool.Decides.{nat_tests}
use Rattle.std.proofs.lemmas.List.Elements.{filter_map-append, Contains-append_left}
use Rattle.jl_logic.specs.Lists.{IsFront}
use Rattle.jl_logic.proofs.Rising.{contains_cases, contains_nothing}
use Rattle.jl_names.specs.Names.{package_of}
use Rattle.jl_names.specs.Descriptors.{between, piece, class_in, descriptor_read}
use Rattle.jl_names.specs.declared.fault.TextFault.{TextFault}
use Rattle.jl_names.specs.declared.types.FieldType.{FieldType}
use Rattle.jl_names.specs.declared.types.Descriptor.{Descriptor}
use Rattle.jl_names.specs.declared.types.Descriptor.TheVariants as descriptors
use Rattle.jl_prim.specs.declared.numbers.ModuleId.{ModuleId}
use Rattle.jl_prim.specs.declared.numbers.LoaderId.{LoaderId}
use Rattle.jl_prim.specs.declared.declaration.ParentLoader.{ParentLoader}
use Rattle.jl_prim.specs.declared.declaration.ParentLoader.TheVariants.{Null, Loader}
use Rattle.jl_loaders.specs.Loaders.{IsLoader}
use Rattle.jl_loaders.specs.declared.constraint.Constraint.{Constraint}
use Rattle.jl_loaders.specs.Constraints.{constraint, IsEntry, IsChain, IsViolated, GroupLeads, AreJoined, with_constraint}
use Rattle.jl_loaders.specs.Refusals.{IsClash}
use Rattle.jl_loaders.proofs.Joined.{joined_over, joined_itself}
use Rattle.jl_layer.specs.declared.layer.Member.{Member}
use Rattle.jl_layer.specs.Layers as layers
use Rattle.jl_layer.specs.Layers.{numbered, member_of, IsModule}
use Rattle.jl_layer.specs.Leads.{LeadsBy}
use Rattle.jl_layer.specs.Laws as over
use Rattle.jl_layer.specs.Changes.{with_loaders}
use Rattle.jl_loads.specs.declared.end.LinkEnd.{LinkEnd}
use Rattle.jl_loads.specs.Ends.{Leaves, Tells}
use Rattle.jl_loads.specs.Laws.{AreSound}
use Rattle.jl_loads.specs.Worlds.{State, with_layers}
use Rattle.jl_loads.specs.Outcomes.{Outcome, and_then}
use Rattle.jl_link.specs.Joining.{group_lead}
use Rattle.jl_link.specs.Constraining.{types_of, names_in, apart, clash, constrained, imposed, impose, impose_each, agree}
use Rattle.jl_link.specs.Imposing.{IsPiece, impose_if, impose_types, impose_all}
use Rattle.jl_link.specs.Moving.{Moves}
use Rattle.jl_link.specs.Standing.{AreAgreed}
use Rattle.jl_link.proofs.Joined.{same_loader, joined_tested}
use Rattle.jl_link.proofs.GroupLeads.{joined_there, fits_apart, clash_apart}
use Rattle.jl_link.proofs.Moved.{front_same, front_onward, moves_same, layers_move}
use Rattle.jl_link.proofs.Outcomes.{leaves_told, leaves_as}

-- ---- modules that are led to are there

numbered_there : {X : Type 0} (xs : List X) (n : ℕ) (x : X) → numbered xs n ≡ Some x → (0 < n) × (n ≤ length xs)
numbered_there xs zero x e = absurd cc
numbered_there [] (suc n) x e = absurd cc
numbered_there (y ∷ ys) (suc zero) x e = (omega arith, omega arith)
numbered_there (y ∷ ys) (suc (suc n)) x e = let r = numbered_there ys (suc n) x e in (omega arith, omega (arith, r.1))

module _ (s : layers.State) where
  member_there : (m : ModuleId) (x : Member) → member_of s m ≡ Some x → IsModule s m
  member_there m x e = numbered_there s.modules m.0 x e

  -- what declarations lead to is there
  declared_there : (n : ℕ) (q : ParentLoader) (p : List ℕ) (m : ModuleId) → LeadsBy n s q p m → IsModule s m
  declared_there zero Null p m h = member_there m h.0 h.2
  declared_there (suc n) Null p m h = member_there m h.0 h.2
  declared_there zero (Loader l) p m h = absurd h
  declared_there (suc n) (Loader l) p m (inl own) = member_there m own.0 own.1
  declared_there (suc n) (Loader l) p m (inr (inl seen)) = let see = seen.1 in member_there m see.2 see.6
  declared_there (suc n) (Loader l) p m (inr (inr above)) = let up = above.2 in declared_there n up.0 p m up.2

led_there : (s : State) (name : List ℕ) (l : LoaderId) (m : ModuleId) → AreSound s → IsLoader s.layers.loaders l → GroupLeads s.layers.loaders name l m → IsModule s.layers m
led_there s name l m sound there (k, j, e) =
    let at = joined_there s.layers.loaders name l k sound.loaders.named there j in
    let leads = (sound.leads k name m at).0 e in
    declared_there s.layers leads.0 (Loader k) (package_of name) m leads.1

-- ---- one name

pub still_loader : (old new : layers.State) (l : LoaderId) → over.Grows old new → IsLoader old.loaders l → IsLoader new.loaders l
still_loader old new l grows there = (there.0, omega (arith, there.1, ap length grows.loaders.loaders.1, length-append old.loaders.loaders grows.loaders.loaders.0))

module _ (s : State) (name : List ℕ) (a b : LoaderId) (sound : AreSound s) (one : IsLoader s.layers.loaders a) (other : IsLoader s.layers.loaders b) where
  pub imposed_leaves : (t : State) → t ≡ with_layers t.layers s → t.layers ≡ with_loaders (with_constraint name a b s.layers.loaders) s.layers → (IsViolated (with_constraint name a b s.layers.loaders) → ⊥) → Leaves (impose s name a b) (Ok tt) t
  imposed_leaves t is same stands =
      ap (λ (o : Option (ModuleId × ModuleId)). imposed o s name a b) (fits_apart s.layers.loaders name a b sound.loaders one other stands)
      ∙ ap (λ (u : State). let r : Outcome Unit = (u, Ok tt) in r) (sym (is ∙ ap (λ (l : layers.State). with_layers l s) same))

  pub clash_modules : (q : List ℕ) (m n : ModuleId) → IsClash s.layers.loaders name a b q m n → IsModule s.layers m × IsModule s.layers n
  clash_modules q m n c = (led_there s name a m sound one c.leads.first, led_there s name b n sound other c.leads.second)

  pub clash_leaves : (q : List ℕ) (m n : ModuleId) (e : LinkEnd) → IsClash s.layers.loaders name a b q m n → Tells e (clash s name (m, n)) → Leaves (impose s name a b) (Err e) s
  clash_leaves q m n e c tells =
      leaves_told (impose s name a b) e s (clash s name (m, n)) tells
      (ap (λ (o : Option (ModuleId × ModuleId)). imposed o s name a b) (clash_apart s.layers.loaders name a b m n sound.loaders one other c.leads.first c.leads.second c.leads.apart))

-- layers as before
pub as_before : (s t : State) → t ≡ with_layers t.layers s → t.layers ≡ s.layers → t ≡ s
as_before s t is same = is ∙ ap (λ (l : layers.State). with_layers l s) same

-- layers with one constraint more, or as before, move
pub constrained_moves : (s t : State) (name : List ℕ) (a b : LoaderId) → over.Grows s.layers t.layers → t ≡ with_layers t.layers s → t.layers ≡ with_loaders (with_constraint name a b s.layers.loaders) s.layers → Moves s t
constrained_moves s t name a b grows is same = layers_move s t grows (constraint name a b ∷ [], ap (λ (l : layers.State). l.loaders.constraints) same) is

pub before_moves : (s t : State) → t ≡ with_layers t.layers s → t.layers ≡ s.layers → Moves s t
before_moves s t is same = subst (Moves s) (sym (as_before s t is same)) (moves_same s)

pub others_onward : (s t u : State) → t ≡ with_layers t.layers s → u ≡ with_layers u.layers t → u ≡ with_layers u.layers s
others_onward s t u e f = f ∙ ap (with_layers u.layers) e

-- ---- the names of types

pub piece_is : (text : List ℕ) (from to : ℕ) → IsPiece text from to → piece text from to ≡ Some (between text from to)
piece_is text from to p =
    let t : (nat_le from to && nat_le to (length text)) ≡ true = grind (arith, nat_tests, p.rises, p.ends.0) in
    ap (λ (b : Bool). if b then Some (between text from to) else None) t

then_alike : (o : Outcome Unit) (f g : State → Unit → Outcome Unit) → ((u : State) (x : Unit) → f u x ≡ g u x) → and_then o f ≡ and_then o g
then_alike (t, Ok x) f g same = same t x
then_alike (t, Err e) f g same = refl

then_then : (o : Outcome Unit) (f g : State → Unit → Outcome Unit) → and_then o (λ u x. and_then (f u x) g) ≡ and_then (and_then o f) g
then_then (t, Ok x) f g = refl
then_then (t, Err e) f g = refl

then_nothing : (o : Outcome Unit) → and_then o (λ u x. (u, Ok tt)) ≡ o
then_nothing (t, Ok x) = refl
then_nothing (t, Err e) = refl

module _ (a b : LoaderId) where
  types_each : (ts : List FieldType) (s : State) (desc : List ℕ) → impose_types s a b desc ts ≡ impose_each s a b (filter_map (class_in desc) ts)
  unfolding impose_types impose_each
  types_each [] s desc = refl
  types_each (t ∷ ts) s desc = by (class_in desc t) refl (λ u. types_each ts u desc)
    where
      by : (o : Option (List ℕ)) → class_in desc t ≡ o → ((u : State) → impose_types u a b desc ts ≡ impose_each u a b (filter_map (class_in desc) ts))
          → and_then (impose_if s a b o) (λ u x. impose_types u a b desc ts) ≡ impose_each s a b (filter_map (class_in desc) (t ∷ ts))
      by None e rest = rw e (rest s)
      by (Some name) e rest = rw e (then_alike (impose s name a b) (λ u x. impose_types u a b desc ts) (λ u x. impose_each u a b (filter_map (class_in desc) ts)) (λ u x. rest u))

  each_append : (xs ys : List (List ℕ)) (s : State) → impose_each s a b (xs ++ ys) ≡ and_then (impose_each s a b xs) (λ u x. impose_each u a b ys)
  unfolding impose_each
  each_append [] ys s = refl
  each_append (x ∷ xs) ys s =
      then_alike (impose s x a b) (λ u y. impose_each u a b (xs ++ ys)) (λ u y. and_then (impose_each u a b xs) (λ v z. impose_each v a b ys)) (λ u y. each_append xs ys u)
      ∙ then_then (impose s x a b) (λ u y. impose_each u a b xs) (λ u y. impose_each u a b ys)

  type_each : (t : FieldType) (s : State) (desc : List ℕ) → impose_if s a b (class_in desc t) ≡ impose_each s a b (filter_map (class_in desc) (t ∷ []))
  unfolding impose_each
  type_each t s desc = by (class_in desc t) refl
    where
      by : (o : Option (List ℕ)) → class_in desc t ≡ o → impose_if s a b o ≡ impose_each s a b (filter_map (class_in desc) (t ∷ []))
      by None e = rw e refl
      by (Some name) e = rw e (sym (then_nothing (impose s name a b)))

  all_each : (s : State) (desc : List ℕ) (d : Descriptor) → impose_all s a b desc d ≡ impose_each s a b (filter_map (class_in desc) (types_of (Ok d)))
  all_each s desc (descriptors.Field t) = type_each t s desc
  all_each s desc (descriptors.Method params None) = then_nothing (impose_types s a b desc params) ∙ types_each params s desc
  all_each s desc (descriptors.Method params (Some t)) =
      ap (λ (o : Outcome Unit). and_then o (λ u x. impose_if u a b (class_in desc t))) (types_each params s desc)
      ∙ then_alike (impose_each s a b (filter_map (class_in desc) params)) (λ u x. impose_if u a b (class_in desc t)) (λ u x. impose_each u a b (filter_map (class_in desc) (t ∷ []))) (λ u x. type_each t u desc)
      ∙ sym (each_append (filter_map (class_in desc) params) (filter_map (class_in desc) (t ∷ [])) s)
      ∙ ap (impose_each s a b) (sym (filter_map-append (class_in desc) params (t ∷ [])))

  other_loaders : (a.0 ≡ b.0 → ⊥) → (a.0 == b.0) ≡ false
  other_loaders other = grind (arith, nat_tests)

  agree_each : (s : State) (desc : List ℕ) → (a.0 ≡ b.0 → ⊥) → agree s a b desc ≡ impose_each s a b (names_in desc)
  agree_each s desc other = ap (λ (t : Bool). if t then (s, Ok tt) else impose_each s a b (names_in desc)) (other_loaders other)

  -- the names of a descriptor that was read
  pub agreed_all : (s : State) (desc : List ℕ) (d : Descriptor) (r : Result Unit LinkEnd) (t : State) → (a.0 ≡ b.0 → ⊥) → descriptor_read desc ≡ Ok d → Leaves (impose_all s a b desc d) r t → Leaves (agree s a b desc) r t
  agreed_all s desc d r t other read h =
      leaves_as (agree s a b desc) (impose_all s a b desc d) r t
      (agree_each s desc other ∙ ap (λ (x : Result Descriptor TextFault). impose_each s a b (filter_map (class_in desc) (types_of x))) read ∙ sym (all_each s desc d)) h

  -- a text that is no descriptor names nothing
  pub agreed_none : (s : State) (desc : List ℕ) (f : TextFault) → (a.0 ≡ b.0 → ⊥) → descriptor_read desc ≡ Err f → agree s a b desc ≡ (s, Ok tt)
  unfolding impose_each
  agreed_none s desc f other read = agree_each s desc other ∙ ap (λ (x : Result Descriptor TextFault). impose_each s a b (filter_map (class_in desc) (types_of x))) read

-- ---- what was imposed joins

abbrev constraints_of : State → List Constraint
constraints_of s = s.layers.loaders.constraints

entry_front : (cs ds : List Constraint) (q : List ℕ) (x y : LoaderId) → IsFront cs ds → IsEntry cs q x y → IsEntry ds q x y
entry_front cs ds q x y front e = subst (λ (l : List Constraint). IsEntry l q x y) (sym front.1) (⊎_elim (λ k. inl (Contains-append_left cs front.0 (constraint q x y) k)) (λ k. inr (Contains-append_left cs front.0 (constraint q y x) k)) e)

chain_front : (cs ds : List Constraint) (q : List ℕ) (n : ℕ) (x y : LoaderId) → IsFront cs ds → IsChain cs q n x y → IsChain ds q n x y
chain_front cs ds q zero x y front h = h
chain_front cs ds q (suc n) x y front h = (h.0, chain_front cs ds q n x h.0 front h.1, entry_front cs ds q h.0 y front h.2)

pub joined_front : (cs ds : List Constraint) (q : List ℕ) (x y : LoaderId) → IsFront cs ds → AreJoined cs q x y → AreJoined ds q x y
joined_front cs ds q x y front h = (h.0, chain_front cs ds q h.0 x y front h.1)

module _ (a b : LoaderId) where
  -- constraints stay, and each name joins the two
  abbrev Joins : State → State → List (List ℕ) → Type 0
  Joins s t names = IsFront (constraints_of s) (constraints_of t) × ((q : List ℕ) → Contains names q → AreJoined (constraints_of t) q a b)

  step_joins : (n : List ℕ) (ns : List (List ℕ)) (s t : State) (o : Option (ModuleId × ModuleId)) → (impose_each (constrained n a b s) a b ns ≡ (t, Ok tt) → Joins (constrained n a b s) t ns)
      → and_then (imposed o s n a b) (λ u x. impose_each u a b ns) ≡ (t, Ok tt) → Joins s t (n ∷ ns)
  step_joins n ns s t None rest e =
      let r = rest e in
      let cs = constraints_of s in
      let new : AreJoined (cs ++ constraint n a b ∷ []) n a b = joined_over cs n a b a b (joined_itself cs n a) (joined_itself cs n b) in (
        front_onward cs (cs ++ constraint n a b ∷ []) (constraints_of t) (constraint n a b ∷ [], refl) r.0,
        λ q c. ⊎_elim (λ i. subst (λ (k : List ℕ). AreJoined (constraints_of t) k a b) i (joined_front (cs ++ constraint n a b ∷ []) (constraints_of t) n a b r.0 new)) (λ k. r.1 q k) (contains_cases n q ns c),
      )
  step_joins n ns s t (Some ms) rest e = let f : Err (clash s n ms) ≡ Ok tt = ap (λ (x : Outcome Unit). x.1) e in absurd cc

  each_joins : (ns : List (List ℕ)) (s t : State) → impose_each s a b ns ≡ (t, Ok tt) → Joins s t ns
  unfolding impose_each
  each_joins [] s t e = (subst (λ (u : State). IsFront (constraints_of s) (constraints_of u)) (ap (λ (x : Outcome Unit). x.0) e) (front_same (constraints_of s)), λ q c. contains_nothing q c)
  each_joins (n ∷ ns) s t e = step_joins n ns s t (apart (group_lead s.layers.loaders n a) (group_lead s.layers.loaders n b)) (λ f. each_joins ns (constrained n a b s) t f) e

  agree_joins : (s t : State) (desc : List ℕ) → agree s a b desc ≡ (t, Ok tt) → AreAgreed t a b desc
  agree_joins s t desc e =
      ⊎_elim
      (λ (same : a.0 ≡ b.0). λ q c. joined_tested (constraints_of t) q a b (0, same_loader a b same))
      (λ other. λ q c. joined_tested (constraints_of t) q a b ((each_joins (names_in desc) s t (sym (agree_each a b s desc other) ∙ e)).1 q c))
      (cases_eq a.0 b.0)

  pub leaves_agreed : (s t : State) (desc : List ℕ) (r : Result Unit LinkEnd) → Leaves (agree s a b desc) r t → OnOk r (AreAgreed t a b desc)
  leaves_agreed s t desc (Ok x) h = agree_joins s t desc h
  leaves_agreed s t desc (Err e) h = tt
