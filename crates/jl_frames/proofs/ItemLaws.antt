-- Items: what is read is spelled so, and what is spelled so is read.
use Rattle.std.proofs.Common.{◌≡◌, ℕ, ◌+◌, ◌<◌, ◌≤◌, cond, eqb, List, [], ◌∷◌, ◌++◌, length, Result, Ok, refl, sym, subst, arith}
use Rattle.std.specs.List.{AllByRecursion}
use Rattle.std.proofs.lemmas.Bool.{cond_both, eqb-true}
use Rattle.byteorder.specs.Endian.{big_bytes}
use Rattle.jl_reading.specs.Reading.{number_at, Stands, IsBytes, two}
use Rattle.jl_reading.proofs.Steps.{bind_ok, ok_is}
use Rattle.jl_reading.proofs.Stands.{Stands-nothing, Stands-then, Stands-splits, number_stands, number_again, Along, UnitStands, each_stands, each_again}
use Rattle.jl_frames.specs.declared.frame.RawItem.{RawItem}
use Rattle.jl_frames.specs.declared.frame.RawItem.TheVariants as items
use Rattle.jl_frames.specs.declared.fault.FrameFault.{FrameFault}
use Rattle.jl_frames.specs.declared.fault.FrameFault.TheVariants as faults
use Rattle.jl_frames.specs.Reading.{operand_at, item_of, item_at, items_at}
use Rattle.jl_frames.specs.Grammar.{item_bytes, ItemFits, items_bytes}

-- what was read behind the tag of an item
pub record Behind (bytes : List ℕ) (tag at : ℕ) (x : RawItem) (next : ℕ) : Type 0 where
  pub body : List ℕ
  pub spelled : item_bytes x ≡ big_bytes 1 tag ++ body
  pub stands : Stands bytes at body next
  pub fits : ItemFits x

abbrev read : RawItem × ℕ → Result (RawItem × ℕ) FrameFault
read p = Ok p

-- an item without a number
alone_stands : (made : RawItem) (tag : ℕ) → item_bytes made ≡ big_bytes 1 tag ++ [] → ItemFits made
    → (bytes : List ℕ) (at : ℕ) (x : RawItem) (next : ℕ) → at ≤ length bytes → read (made, at) ≡ Ok (x, next) → Behind bytes tag at x next
alone_stands made tag spelled fits bytes at x next le e =
    subst (λ (p : RawItem × ℕ). Behind bytes tag at p.0 p.1) (ok_is (made, at) (x, next) e)
    (record { body = []; spelled = spelled; stands = Stands-nothing bytes at le; fits = fits })

operand_stands : (made : ℕ → RawItem) (tag : ℕ) → ((n : ℕ) → item_bytes (made n) ≡ big_bytes 1 tag ++ two n) → ((n : ℕ) → n < 65536 → ItemFits (made n))
    → (bytes : List ℕ) (at : ℕ) (x : RawItem) (next : ℕ) → IsBytes bytes → operand_at made bytes at ≡ Ok (x, next) → Behind bytes tag at x next
unfolding operand_at
operand_stands made tag spelled fit bytes at x next fits e =
    let a = bind_ok (number_at faults.Short 2 bytes at) (λ n. Ok (made n.0, n.1)) (x, next) e in
    let t = number_stands faults.Short 2 bytes at a.0.0 a.0.1 fits a.1 in
    subst (λ (p : RawItem × ℕ). Behind bytes tag at p.0 p.1) (ok_is (made a.0.0, a.0.1) (x, next) a.2)
    (record { body = two a.0.0; spelled = spelled a.0.0; stands = t.0; fits = fit a.0.0 t.1 })

operand_again : (made : ℕ → RawItem) (bytes : List ℕ) (at n next : ℕ) → n < 65536 → Stands bytes at (two n) next → operand_at made bytes at ≡ Ok (made n, next)
unfolding operand_at
operand_again made bytes at n next lt s = rw (number_again faults.Short 2 bytes at n next lt s) refl

pick : {bytes : List ℕ} {at : ℕ} {x : RawItem} {next : ℕ} (tag t : ℕ) (p q : Result (RawItem × ℕ) FrameFault)
    → (p ≡ Ok (x, next) → Behind bytes t at x next) → (q ≡ Ok (x, next) → Behind bytes tag at x next)
    → cond (eqb tag t) p q ≡ Ok (x, next) → Behind bytes tag at x next
pick {bytes} {at} {x} {next} tag t p q here there =
    cond_both (eqb tag t) p q (λ r. r ≡ Ok (x, next) → Behind bytes tag at x next)
    (λ e h. subst (λ (u : ℕ). Behind bytes u at x next) (sym (eqb-true tag t e)) (here h)) (λ e h. there h)

item_of_stands : (bytes : List ℕ) (place tag at : ℕ) (x : RawItem) (next : ℕ) → IsBytes bytes → at ≤ length bytes → item_of place tag bytes at ≡ Ok (x, next) → Behind bytes tag at x next
unfolding item_of
item_of_stands bytes place tag at x next fits le =
    pick tag 0 _ _ (alone_stands items.Top 0 refl tt bytes at x next le)
    (pick tag 1 _ _ (alone_stands items.Int 1 refl tt bytes at x next le)
    (pick tag 2 _ _ (alone_stands items.Float 2 refl tt bytes at x next le)
    (pick tag 3 _ _ (alone_stands items.Double 3 refl tt bytes at x next le)
    (pick tag 4 _ _ (alone_stands items.Long 4 refl tt bytes at x next le)
    (pick tag 5 _ _ (alone_stands items.Null 5 refl tt bytes at x next le)
    (pick tag 6 _ _ (alone_stands items.UninitThis 6 refl tt bytes at x next le)
    (pick tag 7 _ _ (operand_stands items.Object 7 (λ n. refl) (λ n h. h) bytes at x next fits)
    (pick tag 8 _ _ (operand_stands items.Uninit 8 (λ n. refl) (λ n h. h) bytes at x next fits) (λ e. absurd cc)))))))))

-- no item says anything of those before it
abbrev pub Fits : List RawItem → RawItem → Type 0
Fits done x = ItemFits x

item_stands : (bytes : List ℕ) → IsBytes bytes → UnitStands bytes item_bytes Fits (item_at bytes)
unfolding item_at
item_stands bytes fits done at x next le e =
    let a = bind_ok (number_at faults.Short 1 bytes at) (λ tag. item_of at tag.0 bytes tag.1) (x, next) e in
    let t = number_stands faults.Short 1 bytes at a.0.0 a.0.1 fits a.1 in
    let c = item_of_stands bytes at a.0.0 a.0.1 x next fits t.0.within a.2 in
    let whole = Stands-then bytes at (big_bytes 1 a.0.0) a.0.1 c.body next t.0 c.stands in
    (subst (λ (text : List ℕ). Stands bytes at text next) (sym c.spelled) whole, c.fits)

tag_first : (bytes : List ℕ) (done : List RawItem) (at tag : ℕ) (body : List ℕ) (x : RawItem) (next : ℕ) → tag < 256 → Stands bytes at (big_bytes 1 tag ++ body) next
    → (Stands bytes (at + 1) body next → item_of at tag bytes (at + 1) ≡ Ok (x, next)) → item_at bytes done at ≡ Ok (x, next)
unfolding item_at
tag_first bytes done at tag body x next lt s rest =
    let p = Stands-splits bytes at (big_bytes 1 tag) body next s in
    rw (number_again faults.Short 1 bytes at tag (at + 1) lt p.first) (rest p.second)

ends_here : (bytes : List ℕ) (at next : ℕ) (x : RawItem) → Stands bytes at [] next → read (x, at) ≡ Ok (x, next)
ends_here bytes at next x s = let e : at ≡ next = omega (arith, s.ends) in rw e refl

item_again : (bytes : List ℕ) (done : List RawItem) (at : ℕ) (x : RawItem) (next : ℕ) → Fits done x → Stands bytes at (item_bytes x) next → item_at bytes done at ≡ Ok (x, next)
unfolding item_of
item_again bytes done at items.Top next fits s = tag_first bytes done at 0 [] items.Top next (omega arith) s (λ b. ends_here bytes (at + 1) next items.Top b)
item_again bytes done at items.Int next fits s = tag_first bytes done at 1 [] items.Int next (omega arith) s (λ b. ends_here bytes (at + 1) next items.Int b)
item_again bytes done at items.Float next fits s = tag_first bytes done at 2 [] items.Float next (omega arith) s (λ b. ends_here bytes (at + 1) next items.Float b)
item_again bytes done at items.Double next fits s = tag_first bytes done at 3 [] items.Double next (omega arith) s (λ b. ends_here bytes (at + 1) next items.Double b)
item_again bytes done at items.Long next fits s = tag_first bytes done at 4 [] items.Long next (omega arith) s (λ b. ends_here bytes (at + 1) next items.Long b)
item_again bytes done at items.Null next fits s = tag_first bytes done at 5 [] items.Null next (omega arith) s (λ b. ends_here bytes (at + 1) next items.Null b)
item_again bytes done at items.UninitThis next fits s = tag_first bytes done at 6 [] items.UninitThis next (omega arith) s (λ b. ends_here bytes (at + 1) next items.UninitThis b)
item_again bytes done at (items.Object i) next fits s = tag_first bytes done at 7 (two i) (items.Object i) next (omega arith) s (λ b. operand_again items.Object bytes (at + 1) i next fits b)
item_again bytes done at (items.Uninit i) next fits s = tag_first bytes done at 8 (two i) (items.Uninit i) next (omega arith) s (λ b. operand_again items.Uninit bytes (at + 1) i next fits b)

-- ---- items one after the other

all_along : (done xs : List RawItem) → AllByRecursion ItemFits xs → Along Fits done xs
all_along done [] all = tt
all_along done (x ∷ xs) all = (all.0, all_along (done ++ x ∷ []) xs all.1)

along_all : (done xs : List RawItem) → Along Fits done xs → AllByRecursion ItemFits xs
along_all done [] along = tt
along_all done (x ∷ xs) along = (along.0, along_all (done ++ x ∷ []) xs along.1)

-- the items that were read behind those before
pub record ItemsStand (bytes : List ℕ) (done : List RawItem) (n at : ℕ) (all : List RawItem) (next : ℕ) : Type 0 where
  pub xs : List RawItem
  pub parts : all ≡ done ++ xs
  pub count : length xs ≡ n
  pub stand : Stands bytes at (items_bytes xs) next
  pub fit : AllByRecursion ItemFits xs

pub items_stand : (bytes : List ℕ) (done : List RawItem) (n at : ℕ) (all : List RawItem) (next : ℕ) → IsBytes bytes → at ≤ length bytes → items_at done n bytes at ≡ Ok (all, next) → ItemsStand bytes done n at all next
items_stand bytes done n at all next fits le e =
    let f = each_stands bytes item_bytes Fits (item_at bytes) (item_stands bytes fits) n done at all next le e in
    record { xs = f.xs; parts = f.parts; count = f.count; stand = f.stand; fit = along_all done f.xs f.along }

pub items_again : (bytes : List ℕ) (done xs : List RawItem) (n at next : ℕ) → length xs ≡ n → AllByRecursion ItemFits xs → Stands bytes at (items_bytes xs) next → items_at done n bytes at ≡ Ok (done ++ xs, next)
items_again bytes done xs n at next count fit s =
    subst (λ (k : ℕ). items_at done k bytes at ≡ Ok (done ++ xs, next)) count
    (each_again bytes item_bytes Fits (item_at bytes) (item_again bytes) xs done at next (all_along done xs fit) s)
