-- References that are refused, and loaders of classes.
use Rattle.std.proofs.Common.{◌≡◌, ◌<◌, ◌≤◌, ℕ, List, length, Option, IfSome, Err, Bool, false, cond, nat_lt, refl, sym, ◌∙◌, ap, subst, arith}
use Rattle.std.proofs.lemmas.Bool.{lt-ltb, ltb-true, false_from_ne_true}
use Rattle.jl_prim.specs.declared.numbers.ClassId.{ClassId}
use Rattle.jl_prim.specs.declared.numbers.LoaderId.{LoaderId}
use Rattle.jl_prim.specs.declared.error_kind.ErrorKind.{ErrorKind}
use Rattle.jl_tree.specs.Files.{File}
use Rattle.jl_heap.specs.declared.value.Kind.TheVariants as kinds
use Rattle.jl_heap.specs.declared.ends.RowEnd.TheVariants as ends
use Rattle.jl_loaders.specs.Loaders.{IsLoader}
use Rattle.jl_layer.proofs.Listed.{numbered_in}
use Rattle.jl_loads.specs.Laws.{AreSound, SoundStays}
use Rattle.jl_loads.specs.Worlds.{State, Loaded, IsClass, class_at, row_of}
use Rattle.jl_link.specs.References.{resolve}
use Rattle.jl_objops.specs.declared.halt.Halt.{Halt}
use Rattle.jl_objops.specs.Outcomes.{as_halt, refer, end_of, no_constant, of_thrown}

-- an index that the pool does not have
pub beyond : (files : List File) (at : ℕ) (w : State) (d : ClassId) (i : ℕ) → length (row_of w d) ≤ i
    → (h : Halt) × (refer files at w d i ≡ (w, Err h)) × (end_of h ≡ ends.Stuck kinds.Top kinds.Top)
beyond files at w d i le =
    let past : nat_lt i (length (row_of w d)) ≡ false = false_from_ne_true (nat_lt i (length (row_of w d))) (λ e. let lt : i < length (row_of w d) = ltb-true i (length (row_of w d)) e in omega (arith, lt, le)) in
    (no_constant, ap (λ (b : Bool). cond b (as_halt (resolve files at w d i)) (w, Err no_constant)) past, refl)

-- an error that is thrown
pub thrown : (files : List File) (at : ℕ) (w v : State) (d : ClassId) (i : ℕ) (kind : ErrorKind) (message : Option (List ℕ)) → i < length (row_of w d)
    → resolve files at w d i ≡ (v, Err (record { kind = kind; message = message })) → (h : Halt) × (refer files at w d i ≡ (v, Err h)) × (end_of h ≡ ends.Throws kind message)
thrown files at w v d i kind message lt e =
    (of_thrown (record { kind = kind; message = message }), ap (λ (b : Bool). cond b (as_halt (resolve files at w d i)) (w, Err no_constant)) (lt-ltb i (length (row_of w d)) lt) ∙ ap as_halt e, refl)

-- the loader of a class is there
pub loader_there : (s : State) (d : ClassId) (l : LoaderId) → SoundStays → AreSound s → IsClass s d → IfSome (class_at s d) (λ (x : Loaded). l ≡ x.loader) → IsLoader s.layers.loaders l
loader_there s d l stays sound there is =
    let x = numbered_in s.classes d.0 there.0 there.1 in
    let same : l ≡ x.0.loader = subst (λ (o : Option Loaded). IfSome o (λ (y : Loaded). l ≡ y.loader)) x.1 is in
    subst (IsLoader s.layers.loaders) (sym same) (stays.loaders s d x.0 sound x.1)
