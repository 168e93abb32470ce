-- One class more is found by its name.
use Rattle.std.proofs.Common.{◌≡◌, ℕ, suc, ◌+◌, ◌<◌, Bool, true, false, cond, List, [], ◌∷◌, ◌++◌, length, Option, None, Some, refl, sym, subst, ap, ap₂, ◌∙◌, ◌&&◌, ◌==◌, ◌≤◌, arith}
use Rattle.std.specs.Prelude.{IfSome, option_map}
use Rattle.std.specs.List.{position_from}
use Rattle.std.specs.Option.{option_or}
use Rattle.jl_logic.specs.Order.{is_text}
use Rattle.jl_prim.specs.declared.numbers.ClassId.{ClassId}
use Rattle.jl_prim.specs.declared.numbers.ModuleId.{ModuleId}
use Rattle.jl_prim.specs.declared.numbers.LoaderId.{LoaderId}
use Rattle.jl_loads.specs.declared.class_key.ClassKey.{ClassKey}
use Rattle.jl_loads.specs.contracts.class_key.ClassKeyPartialEq.TheImpl as keys
use Rattle.jl_loads.specs.Loading.{most_classes}
use Rattle.jl_loads.specs.Worlds.{State, IsClass, Loaded, class_number, defined, is_named, with_class}
use Rattle.jl_loads.specs.Whole.{IsWhole, kept_for}
use Rattle.jl_loads.specs.declared.rank.Rank.{Rank}
use Rattle.jl_loads.specs.Laws.{AreSound, IsNew}
use Rattle.jl_loads.specs.Ranks.{AreRanked, rank_new}
use Rattle.jl_loads.proofs.Placed.{IsNewIfSound, defined_last, sound_with}
use Rattle.jl_loads.proofs.Ranked.{low_sound, ranked_more}

-- the first place in a list with one item more
position_more : {X : Type 0} (p : X → Bool) (i : ℕ) (xs : List X) (y : X) → position_from p i (xs ++ y ∷ []) ≡ option_or (position_from p i xs) (cond (p y) (Some (i + length xs)) None)
position_more p i [] y = let e : i ≡ i + 0 = omega arith in ap (λ n. cond (p y) (Some n) None) e
position_more p i (x ∷ xs) y = by_first (p x) (position_more p (i + 1) xs y)
  where
    by_first : (b : Bool) → position_from p (i + 1) (xs ++ y ∷ []) ≡ option_or (position_from p (i + 1) xs) (cond (p y) (Some (i + 1 + length xs)) None)
        → cond b (Some i) (position_from p (i + 1) (xs ++ y ∷ [])) ≡ option_or (cond b (Some i) (position_from p (i + 1) xs)) (cond (p y) (Some (i + suc (length xs))) None)
    by_first true later = refl
    by_first false later = let e : i + 1 + length xs ≡ i + suc (length xs) = omega arith in later ∙ ap (λ n. option_or (position_from p (i + 1) xs) (cond (p y) (Some n) None)) e

map_or : {X Y : Type 0} (f : X → Y) (a b : Option X) → option_map f (option_or a b) ≡ option_or (option_map f a) (option_map f b)
map_or f None b = refl
map_or f (Some x) b = refl

map_cond : {X Y : Type 0} (f : X → Y) (b : Bool) (x : X) → option_map f (cond b (Some x) None) ≡ cond b (Some (f x)) None
map_cond f true x = refl
map_cond f false x = refl

pub defined_more : (s : State) (c : Loaded) (l : LoaderId) (name : List ℕ)
    → defined (with_class c s) l name ≡ option_or (defined s l name) (cond (is_named l name c) (Some (class_number (length s.classes))) None)
defined_more s c l name =
    let f : ℕ → ClassId = λ n. record { 0 = n } in
    let e : 1 + length s.classes ≡ length s.classes + 1 = omega arith in
    ap (option_map f) (position_more (is_named l name) 1 s.classes c)
    ∙ map_or f (position_from (is_named l name) 1 s.classes) (cond (is_named l name c) (Some (1 + length s.classes)) None)
    ∙ ap (option_or (defined s l name)) (map_cond f (is_named l name c) (1 + length s.classes) ∙ ap (λ n. cond (is_named l name c) (Some (f n)) None) e)

-- a key is that of a class
same_key : (key q : ClassKey) (c : Loaded) → key.loader ≡ c.loader → key.name ≡ c.declared.name → keys.eq-value.it key q ≡ is_named q.loader q.name c
same_key key q c of_loader of_name = ap₂ (λ (l : LoaderId) (n : List ℕ). (l.0 == q.loader.0) && is_text n q.name) of_loader of_name

-- nothing has changed but the table, which has the same classes
pub whole_again : {ranks : List Rank} (es fs : List (ClassKey × ClassId)) (base : ModuleId) (s t : State) → s ≡ t → ((q : ClassKey) → kept_for fs q ≡ kept_for es q) → IsWhole es ranks base s → IsWhole fs ranks base t
whole_again es fs base s t e same w = subst (IsWhole fs _ base) e (record { names = λ k. same k ∙ w.names k; sound = w.sound; base = w.base; ranked = w.ranked })

-- a new class is new, whatever is sound
pub as_new : (s : State) (c : Loaded) → IsNew s c → IsNewIfSound s c
as_new s c new = record { super = new.super; interfaces = new.interfaces; home = λ _. new.home; loader = new.loader; fresh = new.fresh; tables = λ _. new.tables }

-- one class more, in the table too, and what is kept of it
pub whole_more : (es fs : List (ClassKey × ClassId)) (ranks rs : List Rank) (rank : Rank) (base : ModuleId) (s t : State) (c : Loaded) (key : ClassKey) → with_class c s ≡ t
    → key.loader ≡ c.loader → key.name ≡ c.declared.name → IsNew s c → length s.classes < most_classes → rank ≡ rank_new s c → rs ≡ ranks ++ rank ∷ []
    → ((q : ClassKey) → kept_for fs q ≡ option_or (kept_for es q) (cond (keys.eq-value.it key q) (Some (class_number (length s.classes))) None))
    → IsWhole es ranks base s → IsWhole fs rs base t
whole_more es fs ranks rs rank base s t c key e of_loader of_name new few is_rank is_ranks entered w =
    let sound : AreSound (with_class c s) = sound_with s c (as_new s c new) few w.sound in
    subst (IsWhole fs rs base) e (record {
      names = λ k.
          entered k
          ∙ ap (λ o. option_or o (cond (keys.eq-value.it key k) (Some (class_number (length s.classes))) None)) (w.names k)
          ∙ ap (λ b. option_or (defined s k.loader k.name) (cond b (Some (class_number (length s.classes))) None)) (same_key key k c of_loader of_name)
          ∙ sym (defined_more s c k.loader k.name);
      sound = sound;
      base = w.base;
      ranked = subst (λ xs. AreRanked xs (s.classes ++ c ∷ [])) (sym is_ranks) (ranked_more s c ranks rank (low_sound (with_class c s) sound) is_rank w.ranked);
    })

pub found_new : (s t : State) (c : Loaded) (n : ℕ) → with_class c s ≡ t → IsNew s c → n ≡ length s.classes → defined t c.loader c.declared.name ≡ Some (class_number n)
found_new s t c n e new is = ap (λ w. defined w c.loader c.declared.name) (sym e) ∙ defined_last s c (as_new s c new) ∙ ap (λ k. Some (class_number k)) (sym is)

-- ---- a class that is found is there

position_within : {X : Type 0} (p : X → Bool) (i : ℕ) (xs : List X) (n : ℕ) → position_from p i xs ≡ Some n → (i ≤ n) × (n < i + length xs)
position_within p i [] n e = cc
position_within p i (x ∷ xs) n e = by_first (p x) (position_within p (i + 1) xs n) e
  where
    by_first : (b : Bool) → (position_from p (i + 1) xs ≡ Some n → (i + 1 ≤ n) × (n < i + 1 + length xs)) → cond b (Some i) (position_from p (i + 1) xs) ≡ Some n → (i ≤ n) × (n < i + suc (length xs))
    by_first true later e = let same : i ≡ n = cc in (omega arith, omega arith)
    by_first false later e = let r = later e in (omega arith, omega arith)

abbrev to_class : ℕ → ClassId
to_class n = record { 0 = n }

number_within : (s : State) (o : Option ℕ) → ((n : ℕ) → o ≡ Some n → (1 ≤ n) × (n < 1 + length s.classes)) → IfSome (option_map (λ (n : ℕ). to_class n) o) (IsClass s)
number_within s None h = tt
number_within s (Some n) h = let r = h n refl in (omega arith, omega arith)

pub defined_there : (s : State) (l : LoaderId) (name : List ℕ) → IfSome (defined s l name) (IsClass s)
defined_there s l name = number_within s (position_from (is_named l name) 1 s.classes) (position_within (is_named l name) 1 s.classes)
