-- The method of the top frame is there.
use Rattle.std.proofs.Common.{◌≡◌, ◌<◌, ◌+◌, ◌-◌, ℕ, List, [], ◌∷◌, map, sum, length, nat_lt, Bool, true, false, cond, Option, Some, None, option_map, IfSome, IsSome, refl, sym, ◌∙◌, ap, subst, arith}
use Rattle.std.specs.Option.{option_and_then}
use Rattle.std.proofs.lemmas.Bool.{false≢true, ltb-true}
use Rattle.std.proofs.lemmas.Option.{none-some, same_Some}
use Rattle.std.proofs.lemmas.List.Sums.{sum_by-cons}
use Rattle.jl_prim.specs.declared.numbers.ClassId.{ClassId}
use Rattle.jl_prim.specs.declared.numbers.MethodId.{MethodId}
use Rattle.jl_heap.specs.declared.frame.FrameKind.{FrameKind}
use Rattle.jl_heap.specs.declared.frame.FrameKind.TheVariants as frame_kinds
use Rattle.jl_loads.specs.Worlds.{State, Loaded, all_methods}
use Rattle.jl_link.specs.Owners.{owner_in, method_owner}
use Rattle.jl_code.specs.declared.code.Code.{Code}
use Rattle.jl_code.specs.declared.code.Instr.{Instr}
use Rattle.jl_tree.specs.Files.{File}
use Rattle.jl_heap.specs.declared.store.Store.{Store}
use Rattle.jl_heap.specs.Frames.{FrameState, top_of}
use Rattle.jl_ops.specs.Places.{next_place}
use Rattle.jl_ops.specs.Rows.{instr_at, instr_under}
use Rattle.jl_objops.specs.declared.caller.Caller.{Caller}
use Rattle.jl_objops.specs.declared.row.ObjectRow.{ObjectRow}
use Rattle.jl_objops.specs.Outcomes.{Outcome}
use Rattle.jl_objops.specs.Rows.{as_caller, caller_of, caller_on_top, row, row_at, row_of, row_under}

-- a member that has a class is one of all
counted : (count : Loaded → ℕ) (c : ClassId) (xs : List Loaded) (n : ℕ) → IsSome (owner_in count c xs n) → n < sum (map count xs)
unfolding owner_in
counted count c [] n h = absurd (false≢true h)
counted count c (x ∷ xs) n h = by (nat_lt n (count x)) refl h (counted count (record { 0 = c.0 + 1 }) xs (n - count x))
  where
    whole : sum (map count (x ∷ xs)) ≡ count x + sum (map count xs)
    whole = sum_by-cons (λ (m : ℕ). m) (count x) (map count xs)

    by : (b : Bool) → nat_lt n (count x) ≡ b → IsSome (cond b (Some (c, n)) (owner_in count (record { 0 = c.0 + 1 }) xs (n - count x))) → (IsSome (owner_in count (record { 0 = c.0 + 1 }) xs (n - count x)) → n - count x < sum (map count xs)) → n < sum (map count (x ∷ xs))
    by true e h more = let lt : n < count x = ltb-true n (count x) e in omega (arith, lt, whole)
    by false e h more = let lt : n - count x < sum (map count xs) = more h in omega (arith, lt, whole)

some_map : {X Y : Type 0} (f : X → Y) (o : Option X) → IsSome (option_map f o) → IsSome o
some_map f None h = h
some_map f (Some x) h = refl

pub method_there : (w : State) (kind : Option FrameKind) (m : MethodId) → kind ≡ Some (frame_kinds.Method m) → IsSome (option_and_then (caller_of w) kind) → m.0 < all_methods w
method_there w kind m e h =
    let there : IsSome (option_map as_caller (method_owner w m)) = subst (λ (k : Option FrameKind). IsSome (option_and_then (caller_of w) k)) e h in
    counted (λ (x : Loaded). length x.declared.methods) (record { 0 = 1 }) w.classes m.0 (some_map as_caller (method_owner w m) there)

-- ---- the instruction at which the top frame stands

stands_at : (code : Code) (o : Option FrameState) (pc : ℕ) (i : Option Instr) → option_map (λ (f : FrameState). f.pc) o ≡ Some pc → instr_at code pc ≡ i → option_and_then (λ (f : FrameState). instr_at code f.pc) o ≡ i
stands_at code None pc i e h = absurd (none-some pc e)
stands_at code (Some f) pc i e h = ap (instr_at code) (same_Some f.pc pc e) ∙ h

pub row_so : (P : Outcome → Type 0) (files : List File) (at : ℕ) (w : State) (s : Store) (code : Code) (caller : Caller) (pc : ℕ) (i : Instr) (r : ObjectRow) → caller_on_top w s ≡ Some caller
    → option_map (λ (f : FrameState). f.pc) (top_of s.frames) ≡ Some pc → instr_at code pc ≡ Some i → row_of i ≡ Some r → P (row files at w s caller r (next_place i)) → IfSome (row_under files at w s code) P
row_so P files at w s code caller pc i r top place stands is h =
    let under : instr_under code s ≡ Some i = stands_at code (top_of s.frames) pc (Some i) place stands in
    let said : row_under files at w s code ≡ Some (row files at w s caller r (next_place i)) =
    ap (option_and_then (λ k. row_at files at w s k (instr_under code s))) top ∙ (ap (row_at files at w s caller) under ∙ ap (option_map (λ q. row files at w s caller q (next_place i))) is) in
    subst (λ (o : Option Outcome). IfSome o P) (sym said) h
