-- Where entries stand first, by what they are told apart by.
use Rattle.std.proofs.Common.{◌≡◌, ℕ, Bool, true, false, List, [], ◌∷◌, ◌++◌, length, Option, None, Some, refl, sym, ap, ap₂, ◌∙◌, append_assoc, arith, inl, inr}
use Rattle.std.specs.Prelude.{Vec, position, is_some}
use Rattle.std.specs.Map.{lookup}
use Rattle.std.proofs.lemmas.Bool.{cases_Bool}
use Rattle.indexmap.specs.IndexMap.{IndexMap, get, insert_entry}
use Rattle.indexmap.proofs.CallerLemmas.{insert_entry-new}
use Rattle.jl_logic.specs.Lists.{IsFront}
use Rattle.jl_logic.specs.Order.{is_text}
use Rattle.jl_pool.specs.declared.entry.Entry.{Entry}
use Rattle.jl_pool.specs.declared.entry.Entry.TheVariants as entries
use Rattle.jl_classw.specs.declared.entries.Key.{Key}
use Rattle.jl_classw.specs.declared.entries.Key.TheVariants as keys
use Rattle.jl_classw.specs.contracts.entries.KeyPartialEq.TheImpl as derived
use Rattle.jl_classw.specs.Building.{is_same}
use Rattle.jl_classw.specs.Keys.{key_of, is_key, is_keyed, text_place, place_in, AreNoted}
use Rattle.jl_classw.specs.Writing.{or_here}
use Rattle.jl_classw.proofs.IndexLaws.{some_or_none}
use Rattle.jl_classw.proofs.PositionLaws.{position_left, position_right, position_none}

-- ---- keys

-- the equality that the map goes by
compared : (a b : Key) → derived.eq-value.it a b ≡ is_key a b
compared (keys.Integer a) (keys.Integer b) = refl
compared (keys.Long a) (keys.Long b) = refl
compared (keys.Class a) (keys.Class b) = refl
compared (keys.String a) (keys.String b) = refl
compared (keys.Field a b) (keys.Field c d) = refl
compared (keys.Method a b) (keys.Method c d) = refl
compared (keys.InterfaceMethod a b) (keys.InterfaceMethod c d) = refl
compared (keys.NameAndType a b) (keys.NameAndType c d) = refl
compared _ _ = refl

pub derived_is : (λ (a b : Key). derived.eq-value.it a b) ≡ is_key
derived_is = λ i a b. compared a b i

-- ---- tables that note what has no place yet

pub lookup_push : {K : Type 0} (test : K → Bool) (es : List (K × ℕ)) (k : K) (i : ℕ) → lookup test (es ++ (k, i) ∷ []) ≡ or_here (lookup test es) (test k) i
lookup_push test [] k i = refl
lookup_push test (e ∷ es) k i = elim (cases_Bool (test e.0)) [
  | inl t ↦ rw t refl
  | inr f ↦ rw f (lookup_push test es k i)
]

pub or_here_false : (o : Option ℕ) (i : ℕ) → o ≡ or_here o false i
or_here_false None i = refl
or_here_false (Some j) i = refl

-- ---- entries by their keys

integer_is : (n : ℕ) (x : Entry) → is_keyed (keys.Integer n) (key_of x) ≡ is_same (entries.Integer n) x
integer_is n (entries.Integer m) = refl
integer_is n _ = refl

long_is : (n : ℕ) (x : Entry) → is_keyed (keys.Long n) (key_of x) ≡ is_same (entries.Long n) x
long_is n (entries.Long m) = refl
long_is n _ = refl

class_is : (n : ℕ) (x : Entry) → is_keyed (keys.Class n) (key_of x) ≡ is_same (entries.Class n) x
class_is n (entries.Class m) = refl
class_is n _ = refl

string_is : (n : ℕ) (x : Entry) → is_keyed (keys.String n) (key_of x) ≡ is_same (entries.String n) x
string_is n (entries.String m) = refl
string_is n _ = refl

field_is : (i j : ℕ) (x : Entry) → is_keyed (keys.Field i j) (key_of x) ≡ is_same (entries.Field i j) x
field_is i j (entries.Field k l) = refl
field_is i j _ = refl

method_is : (i j : ℕ) (x : Entry) → is_keyed (keys.Method i j) (key_of x) ≡ is_same (entries.Method i j) x
method_is i j (entries.Method k l) = refl
method_is i j _ = refl

interface_method_is : (i j : ℕ) (x : Entry) → is_keyed (keys.InterfaceMethod i j) (key_of x) ≡ is_same (entries.InterfaceMethod i j) x
interface_method_is i j (entries.InterfaceMethod k l) = refl
interface_method_is i j _ = refl

name_and_type_is : (i j : ℕ) (x : Entry) → is_keyed (keys.NameAndType i j) (key_of x) ≡ is_same (entries.NameAndType i j) x
name_and_type_is i j (entries.NameAndType k l) = refl
name_and_type_is i j _ = refl

no_text : (x : Entry) → ((t : List ℕ) → x ≡ entries.Utf8 t → ⊥) → (units : List ℕ) → false ≡ is_same (entries.Utf8 units) x
no_text (entries.Utf8 t) other units = absurd (other t refl)
no_text _ other units = refl

module _ {A S T : Type 0} where
  -- one more text
  pub text_noted : (old new : IndexMap (Vec ℕ A) ℕ S) (others : IndexMap Key ℕ T) (text : List ℕ) (i : ℕ)
      → ((units : List ℕ) → text_place new units ≡ or_here (text_place old units) (is_text units text) i)
      → (e : Entry) → place_in new others e ≡ or_here (place_in old others e) (is_same e (entries.Utf8 text)) i
  text_noted old new others text i h (entries.Utf8 units) = h units
  text_noted old new others text i h e = or_here_false (place_in old others e) i

  -- one more entry that is no text
  pub other_noted : (texts : IndexMap (Vec ℕ A) ℕ S) (old new : IndexMap Key ℕ T) (x : Entry) (i : ℕ) → ((t : List ℕ) → x ≡ entries.Utf8 t → ⊥)
      → ((k : Key) → get is_key new k ≡ or_here (get is_key old k) (is_keyed k (key_of x)) i)
      → (e : Entry) → place_in texts new e ≡ or_here (place_in texts old e) (is_same e x) i
  other_noted texts old new x i other h (entries.Utf8 units) = or_here_false (text_place texts units) i ∙ ap (λ (b : Bool). or_here (text_place texts units) b i) (no_text x other units)
  other_noted texts old new x i other h (entries.Integer n) = h (keys.Integer n) ∙ ap (λ (b : Bool). or_here (get is_key old (keys.Integer n)) b i) (integer_is n x)
  other_noted texts old new x i other h (entries.Long n) = h (keys.Long n) ∙ ap (λ (b : Bool). or_here (get is_key old (keys.Long n)) b i) (long_is n x)
  other_noted texts old new x i other h (entries.Class n) = h (keys.Class n) ∙ ap (λ (b : Bool). or_here (get is_key old (keys.Class n)) b i) (class_is n x)
  other_noted texts old new x i other h (entries.String n) = h (keys.String n) ∙ ap (λ (b : Bool). or_here (get is_key old (keys.String n)) b i) (string_is n x)
  other_noted texts old new x i other h (entries.Field j k) = h (keys.Field j k) ∙ ap (λ (b : Bool). or_here (get is_key old (keys.Field j k)) b i) (field_is j k x)
  other_noted texts old new x i other h (entries.Method j k) = h (keys.Method j k) ∙ ap (λ (b : Bool). or_here (get is_key old (keys.Method j k)) b i) (method_is j k x)
  other_noted texts old new x i other h (entries.InterfaceMethod j k) = h (keys.InterfaceMethod j k) ∙ ap (λ (b : Bool). or_here (get is_key old (keys.InterfaceMethod j k)) b i) (interface_method_is j k x)
  other_noted texts old new x i other h (entries.NameAndType j k) = h (keys.NameAndType j k) ∙ ap (λ (b : Bool). or_here (get is_key old (keys.NameAndType j k)) b i) (name_and_type_is j k x)
  other_noted texts old new x i other h _ = refl

-- ---- the first place among more entries

first_of_one : {X : Type 0} (p : X → Bool) (x : X) → p x ≡ true → Some 0 ≡ position p (x ∷ [])
first_of_one p x t = rw t refl

none_of_one : {X : Type 0} (p : X → Bool) (x : X) → p x ≡ false → None ≡ position p (x ∷ [])
none_of_one p x f = rw f refl

pub position_push : {X : Type 0} (p : X → Bool) (xs : List X) (x : X) → position p (xs ++ x ∷ []) ≡ or_here (position p xs) (p x) (length xs)
position_push p xs x = elim (some_or_none (position p xs)) [
  | inl h ↦ sym (position_left p xs (x ∷ []) h.0 (sym h.1)) ∙ sym (ap (λ (o : Option ℕ). or_here o (p x) (length xs)) h.1)
  | inr n ↦ elim (cases_Bool (p x)) [
    | inl t ↦ sym (position_right p xs (x ∷ []) 0 (sym n) (first_of_one p x t)) ∙ (ap (λ (k : ℕ). Some k) (omega arith) ∙ sym (ap₂ (λ (o : Option ℕ) (b : Bool). or_here o b (length xs)) n t))
    | inr f ↦ sym (position_none p xs (x ∷ []) (sym n) (none_of_one p x f)) ∙ sym (ap₂ (λ (o : Option ℕ) (b : Bool). or_here o b (length xs)) n f)
  ]
]

module _ {A S T : Type 0} where
  -- one more entry of the pool is noted
  pub noted_push : (texts more : IndexMap (Vec ℕ A) ℕ S) (others grown : IndexMap Key ℕ T) (pool : List Entry) (x : Entry) → AreNoted texts others pool
      → ((e : Entry) → place_in more grown e ≡ or_here (place_in texts others e) (is_same e x) (length pool)) → AreNoted more grown (pool ++ x ∷ [])
  noted_push texts more others grown pool x noted h = λ e. h e ∙ ap (λ (o : Option ℕ). or_here o (is_same e x) (length pool)) (noted e) ∙ sym (position_push (is_same e) pool x)

-- ---- what a call adds to a table

none_of : {X : Type 0} (o : Option X) → is_some o ≡ false → o ≡ None
none_of None e = refl
none_of (Some x) e = absurd (let clash : true ≡ false = e in cc)

pub front_then : {X : Type 0} (a b c : List X) → IsFront a b → IsFront b c → IsFront a c
front_then {X} a b c f g = (f.0 ++ g.0, g.1 ∙ ap (λ (l : List X). l ++ g.0) f.1 ∙ append_assoc a f.0 g.0)

module _ {A S : Type 0} where
  -- a text that had no place is the last
  pub text_added : (old new : IndexMap (Vec ℕ A) ℕ S) (copy : Vec ℕ A) (units : List ℕ) (i : ℕ) → copy.items ≡ units → is_some (text_place old units) ≡ false
      → new.entries ≡ insert_entry (λ (a b : Vec ℕ A). is_text a.items b.items) old.entries copy i → new.entries ≡ old.entries ++ (copy, i) ∷ []
  text_added old new copy units i same fresh h =
      h ∙ insert_entry-new (λ (a b : Vec ℕ A). is_text a.items b.items) old copy i (ap (text_place old) same ∙ none_of (text_place old units) fresh)

  pub text_placed : (old new : IndexMap (Vec ℕ A) ℕ S) (copy : Vec ℕ A) (text : List ℕ) (i : ℕ) → copy.items ≡ text → new.entries ≡ old.entries ++ (copy, i) ∷ []
      → (units : List ℕ) → text_place new units ≡ or_here (text_place old units) (is_text units text) i
  text_placed old new copy text i same h = λ units.
      ap (lookup (λ (t : Vec ℕ A). is_text units t.items)) h ∙ lookup_push (λ (t : Vec ℕ A). is_text units t.items) old.entries copy i
      ∙ ap (λ (t : List ℕ). or_here (text_place old units) (is_text units t) i) same

module _ {S : Type 0} where
  -- and so is another entry
  pub key_added : (old new : IndexMap Key ℕ S) (key : Key) (i : ℕ) → is_some (get is_key old key) ≡ false
      → new.entries ≡ insert_entry is_key old.entries key i → new.entries ≡ old.entries ++ (key, i) ∷ []
  key_added old new key i fresh h = h ∙ insert_entry-new is_key old key i (none_of (get is_key old key) fresh)

  pub key_placed : (old new : IndexMap Key ℕ S) (key : Key) (i : ℕ) → new.entries ≡ old.entries ++ (key, i) ∷ []
      → (k : Key) → get is_key new k ≡ or_here (get is_key old k) (is_key k key) i
  key_placed old new key i h = λ k. ap (lookup (is_key k)) h ∙ lookup_push (is_key k) old.entries key i

  pub fresh_key : (old : IndexMap Key ℕ S) (key : Key) (b : Bool) → b ≡ is_some (get (λ (a b : Key). derived.eq-value.it a b) old key) → b ≡ false → is_some (get is_key old key) ≡ false
  fresh_key old key b e f = sym (e ∙ ap (λ (eq : Key → Key → Bool). is_some (get eq old key)) derived_is) ∙ f

  pub inserted_key : (old new : IndexMap Key ℕ S) (key : Key) (i : ℕ) → new.entries ≡ insert_entry (λ (a b : Key). derived.eq-value.it a b) old.entries key i → new.entries ≡ insert_entry is_key old.entries key i
  inserted_key old new key i h = h ∙ ap (λ (eq : Key → Key → Bool). insert_entry eq old.entries key i) derived_is
