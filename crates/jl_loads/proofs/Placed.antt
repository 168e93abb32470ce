-- A class that is defined behind the others: what is loaded stays sound (JVMS 5.3.5).
use Rattle.std.proofs.Common.{◌≡◌, ◌<◌, ◌+◌, ◌⊎◌, ◌==◌, ◌&&◌, ℕ, zero, suc, List, [], ◌∷◌, ◌++◌, length, length-append, map, option_map, Option, Some, None, Ok, Err, Bool, true, false, cond, if◌then◌else◌, codes, eq-eqb, eqb-true, inl, inr, refl, sym, ◌∙◌, ap, ap₂, subst, arith}
use Rattle.std.specs.Prelude.{Contains, nat_lt}
use Rattle.std.specs.List.{position_from}
use Rattle.std.specs.Cmp.Lexicographic.{bytes_decides}
use Rattle.std.proofs.lemmas.Bool.{ltb-true}
use Rattle.std.proofs.lemmas.List.{length-replicate, map-append}
use Rattle.std.proofs.lemmas.Option.{none-some}
use Rattle.jl_logic.specs.Order.{is_text}
use Rattle.jl_prim.specs.declared.numbers.ClassId.{ClassId}
use Rattle.jl_prim.specs.declared.numbers.LoaderId.{LoaderId}
use Rattle.jl_prim.specs.declared.error_kind.ErrorKind.TheVariants as errors
use Rattle.jl_layer.specs.Layers.{IsModule, numbered}
use Rattle.jl_tree.specs.Files.{File}
use Rattle.jl_class.specs.Tables.{AreTables}
use Rattle.jl_loads.specs.declared.slot.PoolSlot.TheVariants.{Empty}
use Rattle.jl_loads.specs.declared.class_key.ClassKey.{ClassKey}
use Rattle.jl_loads.specs.Worlds.{State, Loaded, blank, with_class, class_at, class_number, IsClass, is_named, defined, loader_of_module}
use Rattle.jl_loads.specs.Outcomes.{error}
use Rattle.jl_loads.specs.Loading.{is_waiting, define, most_classes}
use Rattle.jl_loads.specs.Laws.{AreSound, IsSoundClass}
use Rattle.jl_loads.proofs.Places.{numbered_there, numbered_last, no_place, place_last}
use Rattle.jl_loads.proofs.GoingOn.{go_on_same, keeps_with}
use Rattle.jl_loads.proofs.Staying.{number_class}
use Rattle.jl_loads.proofs.Followed.{Follows, Yields, yields_value, yields_thrown}

-- ---- names

same_loader : (l k : LoaderId) → (l.0 == k.0) ≡ true → l ≡ k
same_loader l k e = ap (λ (n : ℕ). let i : LoaderId = record { 0 = n } in i) (eqb-true l.0 k.0 e)

and_parts : (a b : Bool) → (a && b) ≡ true → (a ≡ true) × (b ≡ true)
and_parts true b e = (refl, e)
and_parts false b e = absurd cc

-- the class of a loader and a name has them
pub named_parts : (l : LoaderId) (name : List ℕ) (x : Loaded) → is_named l name x ≡ true → (x.loader ≡ l) × (x.declared.name ≡ name)
named_parts l name x e =
    let r = and_parts (x.loader.0 == l.0) (is_text x.declared.name name) e in
    (same_loader x.loader l r.0, (bytes_decides x.declared.name name).0 r.1)

pub is_so_named : (l : LoaderId) (name : List ℕ) (x : Loaded) → x.loader ≡ l → x.declared.name ≡ name → is_named l name x ≡ true
is_so_named l name x e f = ap₂ (λ (a b : Bool). a && b) (eq-eqb x.loader.0 l.0 (ap (λ (k : LoaderId). k.0) e)) ((bytes_decides x.declared.name name).1 f)

-- a class that is there is defined
pub not_defined : (s : State) (l : LoaderId) (name : List ℕ) (c : ClassId) (x : Loaded) → defined s l name ≡ None → class_at s c ≡ Some x → is_named l name x ≡ false
not_defined s l name c x e g = by c.0 (numbered_there s.classes c.0 x g).0 g
  where
    none : (o : Option ℕ) → option_map number_class o ≡ None → o ≡ None
    none None h = refl
    none (Some p) h = absurd (none-some (number_class p) (sym h))

    by : (n : ℕ) → 0 < n → numbered s.classes n ≡ Some x → is_named l name x ≡ false
    by zero lt g = absurd (omega arith)
    by (suc n) lt g = no_place (is_named l name) s.classes n x (none (position_from (is_named l name) 1 s.classes) e) g

-- ---- one class more

none_placed : (s : State) (l : LoaderId) (name : List ℕ) → defined s l name ≡ None → position_from (is_named l name) 1 s.classes ≡ None
none_placed s l name e = by (position_from (is_named l name) 1 s.classes) e
  where
    by : (o : Option ℕ) → option_map number_class o ≡ None → o ≡ None
    by None h = refl
    by (Some p) h = absurd (none-some (number_class p) (sym h))

-- how long the pool of a class is
abbrev pool_length : Loaded → ℕ
pool_length x = length x.declared.pool

-- the same, where the module is there if what is loaded is sound
pub record IsNewIfSound (s : State) (c : Loaded) : Type 0 where
  pub super : (d : ClassId) → c.super ≡ Some d → IsClass s d
  pub interfaces : (d : ClassId) → Contains c.interfaces d → IsClass s d
  pub home : AreSound s → IsModule s.layers c.home
  pub loader : c.loader ≡ loader_of_module s c.home
  pub fresh : defined s c.loader c.declared.name ≡ None
  pub tables : AreSound s → AreTables c.declared

module _ (s : State) (c : Loaded) (new : IsNewIfSound s c) where
  -- it is the one of its loader and name
  pub defined_last : defined (with_class c s) c.loader c.declared.name ≡ Some (class_number (length s.classes))
  defined_last =
      ap (option_map number_class)
      (place_last (is_named c.loader c.declared.name) s.classes c (none_placed s c.loader c.declared.name new.fresh)
      ∙ ap (λ (b : Bool). cond b (Some (length s.classes + 1)) None) (is_so_named c.loader c.declared.name c refl refl))

  sound_old : (d : ClassId) (x : Loaded) → IsSoundClass s d x → IsSoundClass (with_class c s) d x
  sound_old d x h = record { super = h.super; interfaces = h.interfaces; home = h.home; loader = h.loader }

  -- no other class has its loader and name
  other : (d : ClassId) (x : Loaded) → class_at s d ≡ Some x → x.loader ≡ c.loader → x.declared.name ≡ c.declared.name → ⊥
  other d x e l n =
      let yes : is_named c.loader c.declared.name x ≡ true = is_so_named c.loader c.declared.name x l n in
      let not : is_named c.loader c.declared.name x ≡ false = not_defined s c.loader c.declared.name d x new.fresh e in
      absurd cc

  -- it has a row of slots
  rows_with : map length s.slots ≡ map pool_length s.classes → map length (s.slots ++ blank c ∷ []) ≡ map pool_length (s.classes ++ c ∷ [])
  rows_with rows =
      map-append length s.slots (blank c ∷ [])
      ∙ ap₂ (λ (ns : List ℕ) (n : ℕ). ns ++ n ∷ []) rows (length-replicate (length c.declared.pool) Empty)
      ∙ sym (map-append pool_length s.classes (c ∷ []))

  same_number : (d e : ClassId) → d.0 ≡ e.0 → d ≡ e
  same_number d e i = ap (λ (n : ℕ). let k : ClassId = record { 0 = n } in k) i

  pub sound_with : length s.classes < most_classes → AreSound s → AreSound (with_class c s)
  sound_with room h = record {
    modules = h.modules;
    loaders = h.loaders;
    leads = h.leads;
    classes = λ d x e. elim (numbered_last s.classes c x d.0 e) [
      | inl i ↦ sound_old d x (h.classes d x i)
      | inr i ↦ subst (IsSoundClass (with_class c s) d) i.1 (last d i.0)
    ];
    once = λ d e x y i j l n. once d e x y (numbered_last s.classes c x d.0 i) (numbered_last s.classes c y e.0 j) l n;
    few = omega (arith, length-append s.classes (c ∷ []));
    tables = λ d x e. elim (numbered_last s.classes c x d.0 e) [
      | inl i ↦ h.tables d x i
      | inr i ↦ subst (λ (y : Loaded). AreTables y.declared) i.1 (new.tables h)
    ];
    rows = rows_with h.rows;
    read = h.read;
    files = h.files;
  }
    where
      last : (d : ClassId) → d.0 ≡ length s.classes + 1 → IsSoundClass (with_class c s) d c
      last d i = record {
        super = λ e f. let k = new.super e f in (k.0, omega (arith, k.1));
        interfaces = λ e f. let k = new.interfaces e f in (k.0, omega (arith, k.1));
        home = new.home h;
        loader = new.loader;
      }

      once : (d e : ClassId) (x y : Loaded) → (class_at s d ≡ Some x) ⊎ ((d.0 ≡ length s.classes + 1) × (c ≡ x)) → (class_at s e ≡ Some y) ⊎ ((e.0 ≡ length s.classes + 1) × (c ≡ y))
          → x.loader ≡ y.loader → x.declared.name ≡ y.declared.name → d ≡ e
      once d e x y (inl i) (inl j) l n = h.once d e x y i j l n
      once d e x y (inr i) (inr j) l n = same_number d e (i.0 ∙ sym j.0)
      once d e x y (inl i) (inr j) l n = absurd (other d x i (l ∙ ap (λ (z : Loaded). z.loader) (sym j.1)) (n ∙ ap (λ (z : Loaded). z.declared.name) (sym j.1)))
      once d e x y (inr i) (inl j) l n = absurd (other e y j (sym l ∙ ap (λ (z : Loaded). z.loader) (sym i.1)) (sym n ∙ ap (λ (z : Loaded). z.declared.name) (sym i.1)))

  module _ (files : List File) (ws : List ClassKey) (free : is_waiting c.loader c.declared.name ws ≡ false) where
    -- what waits is not the new class
    still_free : (l : LoaderId) (name : List ℕ) → is_waiting l name ws ≡ true → defined s l name ≡ None → defined (with_class c s) l name ≡ None
    still_free l name w e = ap (option_map number_class) (place_last (is_named l name) s.classes c (none_placed s l name e) ∙ ap (λ (b : Bool). cond b (Some (length s.classes + 1)) None) (by (is_named l name c) refl))
      where
        by : (b : Bool) → is_named l name c ≡ b → is_named l name c ≡ false
        by false i = i
        by true i =
            let r = named_parts l name c i in
            let yes : is_waiting c.loader c.declared.name ws ≡ true = ap₂ (λ (k : LoaderId) (n : List ℕ). is_waiting k n ws) r.0 r.1 ∙ w in
            absurd cc

    follows_with : length s.classes < most_classes → Follows files ws s (with_class c s)
    follows_with room = record {
      grows = record { keeps = keeps_with s c; report = go_on_same s.report };
      sound = λ d. sound_with room;
      told = λ h. h;
      free = still_free;
    }

    -- a class that is defined is there, by its loader and name
    pub define_yields : Yields files ws s (λ t d. IsClass t d × (defined t c.loader c.declared.name ≡ Some d)) (define s c)
    define_yields = by (nat_lt (length s.classes) most_classes) refl
      where
        by : (b : Bool) → nat_lt (length s.classes) most_classes ≡ b
            → Yields files ws s (λ t d. IsClass t d × (defined t c.loader c.declared.name ≡ Some d)) (if b then (with_class c s, Ok (class_number (length s.classes))) else (s, Err (error errors.OutOfMemoryError (codes "classes"))))
        by true e =
            yields_value files ws s (λ t d. IsClass t d × (defined t c.loader c.declared.name ≡ Some d)) (with_class c s) (class_number (length s.classes)) (follows_with (ltb-true (length s.classes) most_classes e))
            ((omega arith, omega (arith, length-append s.classes (c ∷ []))), defined_last)
        by false e = yields_thrown files ws s (λ t d. IsClass t d × (defined t c.loader c.declared.name ≡ Some d)) (error errors.OutOfMemoryError (codes "classes"))
