-- What the entries of a pool are told apart by, and where each stands first.
use Rattle.std.specs.Prelude.{◌≡◌, ℕ, List, Vec, position, Option, None, Some, Bool, false, ◌&&◌, ◌==◌}
use Rattle.indexmap.specs.IndexMap.{IndexMap, get, get_by}
use Rattle.jl_logic.specs.Order.{is_text}
use Rattle.jl_pool.specs.declared.entry.Entry.{Entry}
use Rattle.jl_pool.specs.declared.entry.Entry.TheVariants as entries
use Rattle.jl_classw.specs.declared.entries.Key.{Key}
use Rattle.jl_classw.specs.declared.entries.Key.TheVariants as keys
use Rattle.jl_classw.specs.Building.{is_same}

-- what an entry says, unless it is a text or none of those that are made
abbrev pub key_of : Entry → Option Key
key_of (entries.Integer n) = Some (keys.Integer n)
key_of (entries.Long n) = Some (keys.Long n)
key_of (entries.Class i) = Some (keys.Class i)
key_of (entries.String i) = Some (keys.String i)
key_of (entries.Field i j) = Some (keys.Field i j)
key_of (entries.Method i j) = Some (keys.Method i j)
key_of (entries.InterfaceMethod i j) = Some (keys.InterfaceMethod i j)
key_of (entries.NameAndType i j) = Some (keys.NameAndType i j)
key_of _ = None

abbrev pub is_key : Key → Key → Bool
is_key (keys.Integer a) (keys.Integer b) = a == b
is_key (keys.Long a) (keys.Long b) = a == b
is_key (keys.Class a) (keys.Class b) = a == b
is_key (keys.String a) (keys.String b) = a == b
is_key (keys.Field a b) (keys.Field c d) = (a == c) && (b == d)
is_key (keys.Method a b) (keys.Method c d) = (a == c) && (b == d)
is_key (keys.InterfaceMethod a b) (keys.InterfaceMethod c d) = (a == c) && (b == d)
is_key (keys.NameAndType a b) (keys.NameAndType c d) = (a == c) && (b == d)
is_key _ _ = false

abbrev pub is_keyed : Key → Option Key → Bool
is_keyed a None = false
is_keyed a (Some b) = is_key a b

-- what is noted for a text
abbrev pub text_place : {A S : Type 0} → IndexMap (Vec ℕ A) ℕ S → List ℕ → Option ℕ
text_place {A} texts units = get_by (λ (text : Vec ℕ A). is_text units text.items) texts

-- what is noted for another entry, by its key
abbrev pub other_place : {S : Type 0} → IndexMap Key ℕ S → Option Key → Option ℕ
other_place others None = None
other_place others (Some key) = get is_key others key

-- what is noted for an entry
abbrev pub place_in : {A S T : Type 0} → IndexMap (Vec ℕ A) ℕ S → IndexMap Key ℕ T → Entry → Option ℕ
place_in texts others (entries.Utf8 units) = text_place texts units
place_in texts others e = other_place others (key_of e)

-- each entry of the pool is noted where it stands first, and no other is
abbrev pub AreNoted : {A S T : Type 0} → IndexMap (Vec ℕ A) ℕ S → IndexMap Key ℕ T → List Entry → Type 0
AreNoted texts others pool = (e : Entry) → place_in texts others e ≡ position (is_same e) pool
