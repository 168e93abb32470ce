-- Frames: what is spelled so is read.
use Rattle.std.proofs.Common.{◌≡◌, ℕ, ◌+◌, ◌-◌, ◌<◌, ◌≤◌, List, [], ◌∷◌, ◌++◌, length, Ok, refl, sym, ap, subst, ◌∙◌, arith, inl, inr}
use Rattle.std.specs.Prelude.{◌⊎◌}
use Rattle.std.specs.List.{AllByRecursion}
use Rattle.byteorder.specs.Endian.{big_bytes}
use Rattle.jl_reading.specs.Reading.{number_at, Stands, two}
use Rattle.jl_reading.proofs.Stands.{Stands-splits, number_again}
use Rattle.jl_frames.specs.declared.form.Form.{Form}
use Rattle.jl_frames.specs.declared.form.Form.TheVariants as forms
use Rattle.jl_frames.specs.declared.frame.Frame.{Frame}
use Rattle.jl_frames.specs.declared.frame.Change.{Change}
use Rattle.jl_frames.specs.declared.frame.Change.TheVariants as changes
use Rattle.jl_frames.specs.declared.frame.RawItem.{RawItem}
use Rattle.jl_frames.specs.declared.fault.FrameFault.TheVariants as faults
use Rattle.jl_frames.specs.Reading.{delta_at, stated_at, full_at, change_at, frame_from}
use Rattle.jl_frames.specs.Grammar.{ItemFits, items_bytes, SpellsFull, Spells, IsFrame}
use Rattle.jl_frames.proofs.ItemLaws.{items_again}
use Rattle.jl_frames.proofs.TagLaws.{Range, in_form}
use Rattle.jl_frames.proofs.ChangeLaws.{one_byte}

-- the frame is read
abbrev Reads : ℕ → List ℕ → ℕ → ℕ → Change → List RawItem → ℕ → Type 0
Reads base bytes at delta change stated next = frame_from base bytes at ≡ Ok (record { offset = base + delta; change = change; items = stated }, next)

step : (base : ℕ) (bytes : List ℕ) (at tag : ℕ) (body : List ℕ) (form : Form) (delta second : ℕ) (change : Change) (stated : List RawItem) (next : ℕ)
    → tag < 256 → Range form tag → Stands bytes at (tag ∷ body) next
    → delta_at form tag bytes (at + 1) ≡ Ok (delta, second) → change_at form tag bytes second ≡ Ok ((change, stated), next) → Reads base bytes at delta change stated next
unfolding frame_from
step base bytes at tag body form delta second change stated next lt r s d c =
    let p = Stands-splits bytes at (tag ∷ []) body next s in
    let t : Stands bytes at (big_bytes 1 tag) (at + 1) = subst (λ (text : List ℕ). Stands bytes at text (at + 1)) (sym (one_byte tag lt)) p.first in
    rw (number_again faults.Short 1 bytes at tag (at + 1) lt t, in_form form tag r, d, c) refl

-- the difference behind the tag
record Parted (bytes : List ℕ) (at delta : ℕ) (body : List ℕ) (next : ℕ) : Type 0 where
  read : number_at faults.Short 2 bytes (at + 1) ≡ Ok (delta, at + 3)
  rest : Stands bytes (at + 3) body next

parted : (bytes : List ℕ) (at tag delta : ℕ) (body : List ℕ) (next : ℕ) → delta < 65536 → Stands bytes at (tag ∷ two delta ++ body) next → Parted bytes at delta body next
parted bytes at tag delta body next lt s =
    let p = Stands-splits bytes at (tag ∷ two delta) body next s in
    let q = Stands-splits bytes at (tag ∷ []) (two delta) (at + 3) p.first in
    record { read = number_again faults.Short 2 bytes (at + 1) delta (at + 3) lt q.second; rest = p.second }

-- nothing behind the difference
parted_end : (bytes : List ℕ) (at tag delta next : ℕ) → delta < 65536 → Stands bytes at (tag ∷ two delta) next → number_at faults.Short 2 bytes (at + 1) ≡ Ok (delta, next)
parted_end bytes at tag delta next lt s =
    let q = Stands-splits bytes at (tag ∷ []) (two delta) next s in
    number_again faults.Short 2 bytes (at + 1) delta next lt q.second

stated_again : (change : Change) (n : ℕ) (bytes : List ℕ) (at : ℕ) (stated : List RawItem) (next : ℕ) → length stated ≡ n → AllByRecursion ItemFits stated → Stands bytes at (items_bytes stated) next
    → stated_at change n bytes at ≡ Ok ((change, stated), next)
unfolding stated_at
stated_again change n bytes at stated next count fit s = rw (items_again bytes [] stated n at next count fit s) refl

all_first : (xs ys : List RawItem) → AllByRecursion ItemFits (xs ++ ys) → AllByRecursion ItemFits xs
all_first [] ys all = tt
all_first (x ∷ xs) ys all = (all.0, all_first xs ys all.1)

all_second : (xs ys : List RawItem) → AllByRecursion ItemFits (xs ++ ys) → AllByRecursion ItemFits ys
all_second [] ys all = all
all_second (x ∷ xs) ys all = all_second xs ys all.1

full_again : (bytes : List ℕ) (at n : ℕ) (locals stack : List RawItem) (next : ℕ) → length locals ≡ n → n < 65536 → length stack < 65536 → AllByRecursion ItemFits (locals ++ stack)
    → Stands bytes at (two n ++ (items_bytes locals ++ (two (length stack) ++ items_bytes stack))) next → full_at bytes at ≡ Ok ((changes.Full n, locals ++ stack), next)
unfolding full_at
full_again bytes at n locals stack next count few small fit s =
    let p = Stands-splits bytes at (two n) (items_bytes locals ++ (two (length stack) ++ items_bytes stack)) next s in
    let q = Stands-splits bytes (at + 2) (items_bytes locals) (two (length stack) ++ items_bytes stack) next p.second in
    let second = (at + 2) + length (items_bytes locals) in
    let r = Stands-splits bytes second (two (length stack)) (items_bytes stack) next q.second in
    rw (
      number_again faults.Short 2 bytes at n (at + 2) few p.first,
      items_again bytes [] locals n (at + 2) second count (all_first locals stack fit) q.first,
      number_again faults.Short 2 bytes second (length stack) (second + 2) small r.first,
      items_again bytes locals stack (length stack) (second + 2) next refl (all_second locals stack fit) r.second,
    ) refl

-- ---- a frame by its change

same_again : (base : ℕ) (bytes : List ℕ) (at delta : ℕ) (text : List ℕ) (next : ℕ) → delta < 65536 → ((delta < 64) × (text ≡ delta ∷ [])) ⊎ (text ≡ 251 ∷ two delta) → Stands bytes at text next
    → Reads base bytes at delta changes.Same [] next
unfolding delta_at change_at
same_again base bytes at delta text next lt (inl p) s =
    let there = subst (λ (t : List ℕ). Stands bytes at t next) p.1 s in
    let ends : at + 1 ≡ next = omega (arith, there.ends) in
    step base bytes at delta [] forms.Same delta next changes.Same [] next (omega (arith, p.0)) p.0 there (rw ends refl) refl
same_again base bytes at delta text next lt (inr p) s =
    let there = subst (λ (t : List ℕ). Stands bytes at t next) p s in
    step base bytes at 251 (two delta) forms.SameExtended delta next changes.Same [] next (omega arith) refl there (parted_end bytes at 251 delta next lt there) refl

one_again : (base : ℕ) (bytes : List ℕ) (at delta : ℕ) (stated : List RawItem) (text : List ℕ) (next : ℕ) → delta < 65536 → AllByRecursion ItemFits stated → length stated ≡ 1
    → ((delta < 64) × (text ≡ (64 + delta) ∷ items_bytes stated)) ⊎ (text ≡ 247 ∷ two delta ++ items_bytes stated) → Stands bytes at text next
    → Reads base bytes at delta changes.One stated next
unfolding delta_at change_at
one_again base bytes at delta stated text next lt fit count (inl p) s =
    let there = subst (λ (t : List ℕ). Stands bytes at t next) p.1 s in
    let q = Stands-splits bytes at ((64 + delta) ∷ []) (items_bytes stated) next there in
    let back : (64 + delta) - 64 ≡ delta = omega arith in
    step base bytes at (64 + delta) (items_bytes stated) forms.One delta (at + 1) changes.One stated next (omega (arith, p.0)) (omega arith, omega (arith, p.0)) there
    (rw back refl) (stated_again changes.One 1 bytes (at + 1) stated next count fit q.second)
one_again base bytes at delta stated text next lt fit count (inr p) s =
    let there = subst (λ (t : List ℕ). Stands bytes at t next) p s in
    let q = parted bytes at 247 delta (items_bytes stated) next lt there in
    step base bytes at 247 (two delta ++ items_bytes stated) forms.OneExtended delta (at + 3) changes.One stated next (omega arith) refl there q.read
    (stated_again changes.One 1 bytes (at + 3) stated next count fit q.rest)

chop_again : (base : ℕ) (bytes : List ℕ) (at delta k : ℕ) (text : List ℕ) (next : ℕ) → delta < 65536 → 1 ≤ k → k ≤ 3 → text ≡ (251 - k) ∷ two delta → Stands bytes at text next
    → Reads base bytes at delta (changes.Chop k) [] next
unfolding delta_at change_at
chop_again base bytes at delta k text next lt least most p s =
    let there = subst (λ (t : List ℕ). Stands bytes at t next) p s in
    let back : 251 - (251 - k) ≡ k = omega arith in
    step base bytes at (251 - k) (two delta) forms.Chop delta next (changes.Chop k) [] next (omega arith) (omega arith, omega arith) there
    (parted_end bytes at (251 - k) delta next lt there) (rw back refl)

append_again : (base : ℕ) (bytes : List ℕ) (at delta : ℕ) (stated : List RawItem) (text : List ℕ) (next : ℕ) → delta < 65536 → AllByRecursion ItemFits stated → 1 ≤ length stated → length stated ≤ 3
    → text ≡ (251 + length stated) ∷ two delta ++ items_bytes stated → Stands bytes at text next → Reads base bytes at delta changes.Append stated next
unfolding delta_at change_at
append_again base bytes at delta stated text next lt fit least most p s =
    let there = subst (λ (t : List ℕ). Stands bytes at t next) p s in
    let q = parted bytes at (251 + length stated) delta (items_bytes stated) next lt there in
    let count : length stated ≡ (251 + length stated) - 251 = omega arith in
    step base bytes at (251 + length stated) (two delta ++ items_bytes stated) forms.Append delta (at + 3) changes.Append stated next (omega arith) (omega arith, omega arith) there q.read
    (stated_again changes.Append ((251 + length stated) - 251) bytes (at + 3) stated next count fit q.rest)

full_frame_again : (base : ℕ) (bytes : List ℕ) (at delta n : ℕ) (stated : List RawItem) (text : List ℕ) (next : ℕ) → delta < 65536 → AllByRecursion ItemFits stated → SpellsFull delta n stated text → Stands bytes at text next
    → Reads base bytes at delta (changes.Full n) stated next
unfolding delta_at change_at
full_frame_again base bytes at delta n stated text next lt fit p s =
    let body = two n ++ (items_bytes p.locals ++ (two (length p.stack) ++ items_bytes p.stack)) in
    let there : Stands bytes at (255 ∷ two delta ++ body) next = subst (λ (t : List ℕ). Stands bytes at t next) p.spelled s in
    let q = parted bytes at 255 delta body next lt there in
    let read = full_again bytes (at + 3) n p.locals p.stack next p.locals_counted p.few_locals p.small_stack (subst (λ (xs : List RawItem). AllByRecursion ItemFits xs) p.parts fit) q.rest in
    subst (λ (xs : List RawItem). Reads base bytes at delta (changes.Full n) xs next) (sym p.parts)
    (step base bytes at 255 (two delta ++ body) forms.Full delta (at + 3) (changes.Full n) (p.locals ++ p.stack) next (omega arith) refl there q.read read)

spelled_again : (base : ℕ) (bytes : List ℕ) (at delta : ℕ) (change : Change) (stated : List RawItem) (text : List ℕ) (next : ℕ) → delta < 65536 → AllByRecursion ItemFits stated → Spells delta change stated text → Stands bytes at text next
    → Reads base bytes at delta change stated next
spelled_again base bytes at delta changes.Same stated text next lt fit p s =
    subst (λ (xs : List RawItem). Reads base bytes at delta changes.Same xs next) (sym p.0) (same_again base bytes at delta text next lt p.1 s)
spelled_again base bytes at delta changes.One stated text next lt fit p s = one_again base bytes at delta stated text next lt fit p.0 p.1 s
spelled_again base bytes at delta (changes.Chop k) stated text next lt fit p s =
    subst (λ (xs : List RawItem). Reads base bytes at delta (changes.Chop k) xs next) (sym p.0) (chop_again base bytes at delta k text next lt p.1 p.2 p.3 s)
spelled_again base bytes at delta changes.Append stated text next lt fit p s = append_again base bytes at delta stated text next lt fit p.0 p.1 p.2 s
spelled_again base bytes at delta (changes.Full n) stated text next lt fit p s = full_frame_again base bytes at delta n stated text next lt fit p s

pub frame_again : (base : ℕ) (bytes : List ℕ) (at : ℕ) (f : Frame) (text : List ℕ) (next : ℕ) → IsFrame base f text → Stands bytes at text next → frame_from base bytes at ≡ Ok (f, next)
frame_again base bytes at f text next i s =
    spelled_again base bytes at i.delta f.change f.items text next i.small i.fit i.spelled s
    ∙ ap (λ (offset : ℕ). Ok (record { offset = offset; change = f.change; items = f.items }, next)) (sym i.placed)
