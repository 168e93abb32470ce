-- Groups of slots on the top of a stack, by their places (JVMS 4.10.1.9).
use Rattle.std.proofs.Common.{◌≡◌, ◌+◌, ◌&&◌, ◌<◌, ◌≤◌, ℕ, zero, suc, List, [], ◌∷◌, length, get_or, drop, slice_get, Option, Some, None, Bool, true, false, refl, ◌∙◌, ap, ap₂, arith}
use Rattle.std.proofs.lemmas.List.{drop_more, drop_all, drop-drop}
use Rattle.jl_vtypes.specs.declared.item.Item.{Item}
use Rattle.jl_verify.specs.declared.family.Group.{Group}
use Rattle.jl_verify.specs.declared.family.Group.TheVariants.{One, Two}
use Rattle.jl_verify.specs.Moves.{is_single, are_two, group_size, is_group, are_groups}

-- by the two highest slots
abbrev pub is_group_by : Group → Option Item → Option Item → Bool
is_group_by One None lower = false
is_group_by One (Some item) lower = is_single item
is_group_by Two None lower = false
is_group_by Two (Some higher) None = false
is_group_by Two (Some higher) (Some lower) = are_two higher lower

by_slots : (g : Group) (stack : List Item) → is_group g stack ≡ is_group_by g (slice_get stack 0) (slice_get stack 1)
by_slots One [] = refl
by_slots Two [] = refl
by_slots One (x ∷ xs) = refl
by_slots Two (x ∷ []) = refl
by_slots Two (x ∷ y ∷ ys) = refl

slot_below : (stack : List Item) (d k : ℕ) → slice_get (drop d stack) k ≡ slice_get stack (d + k)
slot_below stack zero k = let e : k ≡ 0 + k = omega arith in ap (slice_get stack) e
slot_below [] (suc d) k = refl
slot_below (x ∷ xs) (suc d) k = let e : suc (d + k) ≡ suc d + k = omega arith in slot_below xs d k ∙ ap (slice_get (x ∷ xs)) e

-- a group that stands below so many slots
pub group_below : (g : Group) (stack : List Item) (d : ℕ) → is_group g (drop d stack) ≡ is_group_by g (slice_get stack d) (slice_get stack (d + 1))
group_below g stack d =
    let e : d + 0 ≡ d = omega arith in
    by_slots g (drop d stack) ∙ ap₂ (λ (a b : Option Item). is_group_by g a b) (slot_below stack d 0 ∙ ap (slice_get stack) e) (slot_below stack d 1)

-- the group at hand, and then the others
pub groups_next : (groups : List Group) (stack : List Item) (i depth : ℕ) (g : Group) → i < length groups
    → are_groups (drop i groups) (drop depth stack) ≡ (is_group (get_or groups i g) (drop depth stack) && are_groups (drop (i + 1) groups) (drop (depth + group_size (get_or groups i g)) stack))
groups_next groups stack i depth g lt =
    ap (λ (gs : List Group). are_groups gs (drop depth stack)) (drop_more groups i g lt)
    ∙ ap (λ (xs : List Item). is_group (get_or groups i g) (drop depth stack) && are_groups (drop (i + 1) groups) xs) (drop-drop (group_size (get_or groups i g)) depth stack)

pub groups_done : (groups : List Group) (stack : List Item) (i depth : ℕ) → length groups ≤ i → are_groups (drop i groups) (drop depth stack) ≡ true
groups_done groups stack i depth le = ap (λ (gs : List Group). are_groups gs (drop depth stack)) (drop_all i groups le)
