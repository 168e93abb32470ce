-- Lists of items, one by one.
use Rattle.std.proofs.Common.{◌≡◌, ℕ, zero, suc, ◌+◌, ◌<◌, ◌∙◌, List, [], ◌∷◌, ◌++◌, length, take, get_or, Option, Some, None, refl, sym, ap, arith, append_assoc}
use Rattle.std.proofs.lemmas.List.{take_more}
use Rattle.jl_pool.specs.declared.entry.Entry.{Entry}
use Rattle.jl_frames.specs.declared.frame.RawItem.{RawItem}
use Rattle.jl_vtypes.specs.declared.item.Item.{Item}
use Rattle.jl_verify.specs.Frames.{slots_of, slots}
use Rattle.jl_verify.specs.Declaring.{stated_item, both_there, stated_items}

slots_more : (xs : List Item) (x : Item) → slots (xs ++ x ∷ []) ≡ slots xs ++ slots_of x
slots_more [] x = append_nil (slots_of x)
  where
    append_nil : (ys : List Item) → ys ++ [] ≡ ys
    append_nil [] = refl
    append_nil (y ∷ ys) = ap (λ zs. y ∷ zs) (append_nil ys)
slots_more (y ∷ ys) x = ap (λ zs. slots_of y ++ zs) (slots_more ys x) ∙ sym (append_assoc (slots_of y) (slots ys) (slots_of x))

-- one more of the items
pub slots_step : (xs : List Item) (k : ℕ) (d : Item) → k < length xs → slots (take (k + 1) xs) ≡ slots (take k xs) ++ slots_of (get_or xs k d)
slots_step xs k d h = rw (take_more xs k d h) (slots_more (take k xs) (get_or xs k d))

-- one that cannot be made makes all
pub none_stated : (pool : List Entry) (raws : List RawItem) (k : ℕ) (d : RawItem) → k < length raws → stated_item pool (get_or raws k d) ≡ None → stated_items pool raws ≡ None
none_stated pool [] k d h e = absurd (omega arith)
none_stated pool (raw ∷ raws) zero d h e = rw e refl
none_stated pool (raw ∷ raws) (suc k) d h e = rw (none_stated pool raws k d (omega arith) e) (either (stated_item pool raw))
  where
    either : (o : Option Item) → both_there o None ≡ None
    either None = refl
    either (Some item) = refl

stated_more : (pool : List Entry) (raws : List RawItem) (raw : RawItem) (all : List Item) (item : Item) → stated_items pool raws ≡ Some all → stated_item pool raw ≡ Some item
    → stated_items pool (raws ++ raw ∷ []) ≡ Some (all ++ item ∷ [])
stated_more pool [] raw all item e f = let none : [] ≡ all = cc in rw (f, ← none) refl
stated_more pool (r ∷ rs) raw all item e f = by (stated_item pool r) (stated_items pool rs) all refl refl e (λ later h. stated_more pool rs raw later item h f)
  where
    by : (first : Option Item) (others : Option (List Item)) (all : List Item) → stated_item pool r ≡ first → stated_items pool rs ≡ others → both_there first others ≡ Some all
        → ((later : List Item) → stated_items pool rs ≡ Some later → stated_items pool (rs ++ raw ∷ []) ≡ Some (later ++ item ∷ []))
        → both_there (stated_item pool r) (stated_items pool (rs ++ raw ∷ [])) ≡ Some (all ++ item ∷ [])
    by None others all g h e more = absurd cc
    by (Some x) None all g h e more = absurd cc
    by (Some x) (Some later) all g h e more = let same : x ∷ later ≡ all = cc in rw (g, more later h, ← same) refl

-- one more stated item
pub stated_step : (pool : List Entry) (raws : List RawItem) (k : ℕ) (d : RawItem) (all : List Item) (item : Item) → k < length raws → stated_items pool (take k raws) ≡ Some all
    → stated_item pool (get_or raws k d) ≡ Some item → stated_items pool (take (k + 1) raws) ≡ Some (all ++ item ∷ [])
stated_step pool raws k d all item h e f = rw (take_more raws k d h) (stated_more pool (take k raws) (get_or raws k d) all item e f)
