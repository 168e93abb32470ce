-- Where members stand, by their names and descriptors.
use Rattle.std.specs.Prelude.{◌≡◌, ℕ, List, Option, None, Some, Bool, false, slice_get}
use Rattle.indexmap.specs.IndexMap.{IndexMap, get}
use Rattle.jl_logic.specs.Order.{is_text}
use Rattle.jl_class.specs.declared.member.MemberKey.{MemberKey}
use Rattle.jl_class.specs.Meaning.{is_same_member}

abbrev pub place_among : {S : Type 0} → Option (IndexMap (List ℕ) ℕ S) → List ℕ → Option ℕ
place_among None desc = None
place_among (Some descs) desc = get is_text descs desc

-- what is noted for a member
abbrev pub place_of : {S T : Type 0} → IndexMap (List ℕ) (IndexMap (List ℕ) ℕ S) T → MemberKey → Option ℕ
place_of places key = place_among (get is_text places key.name) key.desc

-- each member is noted where it stands
abbrev pub AreFound : {S T : Type 0} → IndexMap (List ℕ) (IndexMap (List ℕ) ℕ S) T → List MemberKey → Type 0
AreFound places keys = (key : MemberKey) (i : ℕ) → slice_get keys i ≡ Some key → place_of places key ≡ Some i

abbrev pub is_that : MemberKey → Option MemberKey → Bool
is_that key None = false
is_that key (Some k) = is_same_member key k

-- the member stands there
abbrev pub stands_at : List MemberKey → ℕ → MemberKey → Bool
stands_at keys i key = is_that key (slice_get keys i)

-- the member stands where it is noted
abbrev pub stands_noted : List MemberKey → Option ℕ → MemberKey → Bool
stands_noted keys None key = false
stands_noted keys (Some i) key = stands_at keys i key
