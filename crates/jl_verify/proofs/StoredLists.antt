-- Locals that are stored, items in place of others, and items put on a stack, as lists (JVMS 4.10.1.9).
use Rattle.std.proofs.Common.{◌≡◌, ◌<◌, ◌≤◌, ◌+◌, ◌-◌, ℕ, zero, suc, List, [], ◌∷◌, ◌++◌, length, get_or, set, take, drop, map, reverse, Bool, true, false, if◌then◌else◌, refl, sym, ◌∙◌, ap, append-nil, append_assoc, arith}
use Rattle.std.proofs.lemmas.List.{drop_more, drop_all, map_more, map_push, set_at, get_or_at, length-map, length-take-le, take_all, reverse-append}
use Rattle.jl_vtypes.specs.declared.item.Item.{Item}
use Rattle.jl_vtypes.specs.declared.item.Item.TheVariants as items
use Rattle.jl_verify.specs.Frames.{Frame, is_wide, slots_of, slots, stacked}
use Rattle.jl_verify.specs.Moves.{item_at}
use Rattle.jl_verify.specs.Rows.{stored, uncut, onto}

-- ---- locals

-- Top behind the locals is no more than was missing
pub stored_longer : (xs : List Item) (at : ℕ) (item : Item) → length xs ≤ at → stored (xs ++ items.Top ∷ []) at (item ∷ []) ≡ stored xs at (item ∷ [])
stored_longer [] zero item le = refl
stored_longer [] (suc n) item le = refl
stored_longer (x ∷ xs) zero item le = absurd (omega arith)
stored_longer (x ∷ xs) (suc n) item le = ap (λ (ys : List Item). x ∷ ys) (stored_longer xs n item (omega arith))

-- one slot of those that are there
pub stored_set : (xs : List Item) (at : ℕ) (item : Item) → at < length xs → stored xs at (item ∷ []) ≡ set xs at item
stored_set [] at item lt = absurd (omega arith)
stored_set (x ∷ xs) zero item lt = refl
stored_set (x ∷ xs) (suc n) item lt = ap (λ (ys : List Item). x ∷ ys) (stored_set xs n item (omega arith))

-- two slots, one behind the other
pub stored_two : (xs : List Item) (at : ℕ) (one two : Item) → stored (stored xs at (one ∷ [])) (at + 1) (two ∷ []) ≡ stored xs at (one ∷ two ∷ [])
stored_two [] zero one two = refl
stored_two (x ∷ xs) zero one two = refl
stored_two [] (suc n) one two =
    let e : suc n + 1 ≡ suc (n + 1) = omega arith in
    ap (λ (k : ℕ). stored (items.Top ∷ stored [] n (one ∷ [])) k (two ∷ [])) e ∙ ap (λ (ys : List Item). items.Top ∷ ys) (stored_two [] n one two)
stored_two (x ∷ xs) (suc n) one two =
    let e : suc n + 1 ≡ suc (n + 1) = omega arith in
    ap (λ (k : ℕ). stored (x ∷ stored xs n (one ∷ [])) k (two ∷ [])) e ∙ ap (λ (ys : List Item). x ∷ ys) (stored_two xs n one two)

-- ---- a long whose higher slot is overwritten

item_read : (xs : List Item) (n : ℕ) (d : Item) → n < length xs → item_at xs n ≡ get_or xs n d
item_read [] n d lt = absurd (omega arith)
item_read (x ∷ xs) zero d lt = refl
item_read (x ∷ xs) (suc n) d lt = item_read xs n d (omega arith)

item_past : (xs : List Item) (n : ℕ) → length xs ≤ n → item_at xs n ≡ items.Top
item_past [] n le = refl
item_past (x ∷ xs) zero le = absurd (omega arith)
item_past (x ∷ xs) (suc n) le = item_past xs n (omega arith)

uncut_by : (xs : List Item) (at : ℕ) (b : Bool) → 0 < at → is_wide (item_at xs (at - 1)) ≡ b → uncut xs at ≡ (if b then set xs (at - 1) items.Top else xs)
uncut_by xs zero b lt e = absurd (omega arith)
uncut_by xs (suc n) b lt e =
    let i : suc n - 1 ≡ n = omega arith in
    ap (λ (k : ℕ). if is_wide (item_at xs k) then set xs k items.Top else xs) (sym i) ∙ ap (λ (t : Bool). if t then set xs (suc n - 1) items.Top else xs) e

pub uncut_wide : (xs : List Item) (at : ℕ) (d : Item) → 0 < at → at ≤ length xs → is_wide (get_or xs (at - 1) d) ≡ true → set xs (at - 1) items.Top ≡ uncut xs at
uncut_wide xs at d lt le e = sym (uncut_by xs at true lt (ap is_wide (item_read xs (at - 1) d (omega arith)) ∙ e))

pub uncut_narrow : (xs : List Item) (at : ℕ) (d : Item) → 0 < at → at ≤ length xs → is_wide (get_or xs (at - 1) d) ≡ false → xs ≡ uncut xs at
uncut_narrow xs at d lt le e = sym (uncut_by xs at false lt (ap is_wide (item_read xs (at - 1) d (omega arith)) ∙ e))

pub uncut_past : (xs : List Item) (at : ℕ) → length xs < at → xs ≡ uncut xs at
uncut_past xs at gt = sym (uncut_by xs at false (omega arith) (ap is_wide (item_past xs (at - 1) (omega arith))))

pub uncut_first : (xs : List Item) (at : ℕ) → at ≡ 0 → xs ≡ uncut xs at
uncut_first xs at e = sym (ap (uncut xs) e)

-- ---- items one after the other

module _ (f : Item → Item) (xs : List Item) (i : ℕ) (d : Item) (lt : i < length xs) where
  done_long : length (map f (take i xs)) ≡ i
  done_long = length-map (take i xs) f ∙ length-take-le i xs (omega arith)

  -- the item at hand is the one that was there
  pub item_left : get_or (map f (take i xs) ++ drop i xs) i d ≡ get_or xs i d
  item_left =
      ap (λ (ys : List Item). get_or (map f (take i xs) ++ ys) i d) (drop_more xs i d lt)
      ∙ get_or_at (map f (take i xs)) (get_or xs i d) (drop (i + 1) xs) d i done_long

  pub item_done : (v : Item) → v ≡ f (get_or xs i d) → set (map f (take i xs) ++ drop i xs) i v ≡ map f (take (i + 1) xs) ++ drop (i + 1) xs
  item_done v e =
      ap (λ (ys : List Item). set (map f (take i xs) ++ ys) i v) (drop_more xs i d lt)
      ∙ set_at (map f (take i xs)) (get_or xs i d) (drop (i + 1) xs) v i done_long
      ∙ ap (λ (x : Item). map f (take i xs) ++ x ∷ drop (i + 1) xs) e
      ∙ sym (append_assoc (map f (take i xs)) (f (get_or xs i d) ∷ []) (drop (i + 1) xs))
      ∙ sym (ap (λ (ys : List Item). ys ++ drop (i + 1) xs) (map_more f xs i d lt))

-- all are done
pub items_done : (f : Item → Item) (xs : List Item) (i : ℕ) → length xs ≤ i → map f (take i xs) ++ drop i xs ≡ map f xs
items_done f xs i le = ap (λ (ys : List Item). map f (take i xs) ++ ys) (drop_all i xs le) ∙ append-nil (map f (take i xs)) ∙ ap (map f) (take_all i xs le)

-- ---- a stack

slots_append : (xs ys : List Item) → slots (xs ++ ys) ≡ slots xs ++ slots ys
slots_append [] ys = refl
slots_append (x ∷ xs) ys = ap (λ (zs : List Item). slots_of x ++ zs) (slots_append xs ys) ∙ sym (append_assoc (slots_of x) (slots xs) (slots ys))

-- the last item stands on top
pub stacked_last : (xs : List Item) (y : Item) → stacked (xs ++ y ∷ []) ≡ stacked (y ∷ []) ++ stacked xs
stacked_last xs y = ap reverse (slots_append xs (y ∷ [])) ∙ reverse-append (slots xs) (slots (y ∷ []))

-- one more item on top
pub onto_more : (f : Frame) (xs : List Item) (y : Item) → onto (stacked (y ∷ [])) (onto (stacked xs) f) ≡ onto (stacked (xs ++ y ∷ [])) f
onto_more f xs y =
    ap (λ (ys : List Item). let g : Frame = record { locals = f.locals; stack = ys; marked = f.marked } in g)
    (sym (append_assoc (stacked (y ∷ [])) (stacked xs) f.stack) ∙ sym (ap (λ (ys : List Item). ys ++ f.stack) (stacked_last xs y)))

-- a long takes two slots
pub stored_wide : (xs : List Item) (at : ℕ) (item : Item) → is_wide item ≡ true → stored (stored xs at (item ∷ [])) (at + 1) (items.Top ∷ []) ≡ stored xs at (slots_of item)
stored_wide xs at item e = stored_two xs at item items.Top ∙ sym (ap (λ (b : Bool). stored xs at (if b then item ∷ items.Top ∷ [] else item ∷ [])) e)

-- the items of a list that is read from its end
pub map_back : (f : Item → Item) (xs : List Item) → reverse (map f xs) ≡ map f (reverse xs)
map_back f [] = refl
map_back f (x ∷ xs) =
    reverse-append (f x ∷ []) (map f xs)
    ∙ ap (λ (ys : List Item). ys ++ f x ∷ []) (map_back f xs)
    ∙ sym (map_push f (reverse xs) x)
    ∙ sym (ap (map f) (reverse-append (x ∷ []) xs))
