-- Frames: what is read is spelled so.
use Rattle.std.proofs.Common.{◌≡◌, ℕ, ◌+◌, ◌-◌, ◌<◌, ◌≤◌, List, [], ◌∷◌, ◌++◌, length, Option, None, Some, Ok, refl, sym, ap, subst, arith, inl, inr}
use Rattle.std.specs.List.{AllByRecursion}
use Rattle.std.proofs.Math.Nat.{mod-eq_of_lt}
use Rattle.byteorder.specs.Endian.{big_bytes}
use Rattle.jl_logic.proofs.Rising.{each_in_append}
use Rattle.jl_reading.specs.Reading.{◌>>=◌, number_at, Stands, IsBytes, two}
use Rattle.jl_reading.proofs.Steps.{bind_ok, ok_is}
use Rattle.jl_reading.proofs.Stands.{Stands-then, number_stands}
use Rattle.jl_frames.specs.declared.form.Form.{Form}
use Rattle.jl_frames.specs.declared.form.Form.TheVariants as forms
use Rattle.jl_frames.specs.declared.frame.Frame.{Frame}
use Rattle.jl_frames.specs.declared.frame.Change.{Change}
use Rattle.jl_frames.specs.declared.frame.Change.TheVariants as changes
use Rattle.jl_frames.specs.declared.frame.RawItem.{RawItem}
use Rattle.jl_frames.specs.declared.fault.FrameFault.TheVariants as faults
use Rattle.jl_frames.specs.Tags.{form_of}
use Rattle.jl_frames.specs.Reading.{items_at, form_or, delta_at, stated_at, full_at, change_at, frame_from}
use Rattle.jl_frames.specs.Grammar.{ItemFits, items_bytes, SpellsFull, Spells, IsFrame}
use Rattle.jl_frames.proofs.ItemLaws.{items_stand}
use Rattle.jl_frames.proofs.TagLaws.{Range, in_range}

-- a byte that is a number of its own
pub one_byte : (n : ℕ) → n < 256 → big_bytes 1 n ≡ n ∷ []
one_byte n lt = ap (λ (b : ℕ). b ∷ []) (mod-eq_of_lt lt)

-- ---- what is behind the difference

record Stated (change : Change) (n : ℕ) (bytes : List ℕ) (at : ℕ) (made : (Change × List RawItem) × ℕ) : Type 0 where
  changed : change ≡ made.0.0
  count : length made.0.1 ≡ n
  fit : AllByRecursion ItemFits made.0.1
  stand : Stands bytes at (items_bytes made.0.1) made.1

stated_stands : (change : Change) (n : ℕ) (bytes : List ℕ) (at : ℕ) (made : (Change × List RawItem) × ℕ) → IsBytes bytes → at ≤ length bytes → stated_at change n bytes at ≡ Ok made → Stated change n bytes at made
unfolding stated_at
stated_stands change n bytes at made fits le e =
    let a = bind_ok (items_at [] n bytes at) (λ stated. Ok ((change, stated.0), stated.1)) made e in
    let f = items_stand bytes [] n at a.0.0 a.0.1 fits le a.1 in
    subst (λ (m : (Change × List RawItem) × ℕ). Stated change n bytes at m) (ok_is ((change, a.0.0), a.0.1) made a.2)
    (subst (λ (all : List RawItem). Stated change n bytes at ((change, all), a.0.1)) (sym f.parts)
    (record { changed = refl; count = f.count; fit = f.fit; stand = f.stand }))

record FullStands (delta : ℕ) (bytes : List ℕ) (at : ℕ) (made : (Change × List RawItem) × ℕ) : Type 0 where
  n : ℕ
  changed : changes.Full n ≡ made.0.0
  fit : AllByRecursion ItemFits made.0.1
  body : List ℕ
  stand : Stands bytes at body made.1
  spelled : SpellsFull delta n made.0.1 (255 ∷ two delta ++ body)

-- what is behind the locals of a full frame
record StackStands (bytes : List ℕ) (at n : ℕ) (locals : List RawItem) (made : (Change × List RawItem) × ℕ) : Type 0 where
  stack : List RawItem
  is : ((changes.Full n, locals ++ stack), made.1) ≡ made
  small : length stack < 65536
  fit : AllByRecursion ItemFits stack
  stand : Stands bytes at (two (length stack) ++ items_bytes stack) made.1

stack_made : (bytes : List ℕ) (at n : ℕ) (locals : List RawItem) (m first : ℕ) (stack : List RawItem) (next : ℕ) → m < 65536 → length stack ≡ m → AllByRecursion ItemFits stack
    → Stands bytes at (two m) first → Stands bytes first (items_bytes stack) next → StackStands bytes at n locals ((changes.Full n, locals ++ stack), next)
stack_made bytes at n locals m first stack next small size fit a b =
    let sized : Stands bytes at (two (length stack)) first = subst (λ (k : ℕ). Stands bytes at (two k) first) (sym size) a in
    record { stack = stack; is = refl; small = omega (arith, size, small); fit = fit; stand = Stands-then bytes at (two (length stack)) first (items_bytes stack) next sized b }

stack_stands : (bytes : List ℕ) (at n : ℕ) (locals : List RawItem) (made : (Change × List RawItem) × ℕ) → IsBytes bytes
    → (number_at faults.Short 2 bytes at >>= λ m. items_at locals m.0 bytes m.1 >>= λ all. Ok ((changes.Full n, all.0), all.1)) ≡ Ok made → StackStands bytes at n locals made
stack_stands bytes at n locals made fits e =
    let a = bind_ok (number_at faults.Short 2 bytes at) (λ m. items_at locals m.0 bytes m.1 >>= λ all. Ok ((changes.Full n, all.0), all.1)) made e in
    let b = bind_ok (items_at locals a.0.0 bytes a.0.1) (λ all. Ok ((changes.Full n, all.0), all.1)) made a.2 in
    let s = number_stands faults.Short 2 bytes at a.0.0 a.0.1 fits a.1 in
    let f = items_stand bytes locals a.0.0 a.0.1 b.0.0 b.0.1 fits s.0.within b.1 in
    subst (λ (m : (Change × List RawItem) × ℕ). StackStands bytes at n locals m) (ok_is ((changes.Full n, b.0.0), b.0.1) made b.2)
    (subst (λ (xs : List RawItem). StackStands bytes at n locals ((changes.Full n, xs), b.0.1)) (sym f.parts)
    (stack_made bytes at n locals a.0.0 a.0.1 f.xs b.0.1 s.1 f.count f.fit s.0 f.stand))

-- the parts of a full frame, each behind the one before
full_made : (delta : ℕ) (bytes : List ℕ) (at n first : ℕ) (locals : List RawItem) (second : ℕ) (stack : List RawItem) (next : ℕ)
    → length locals ≡ n → n < 65536 → length stack < 65536 → AllByRecursion ItemFits locals → AllByRecursion ItemFits stack
    → Stands bytes at (two n) first → Stands bytes first (items_bytes locals) second → Stands bytes second (two (length stack) ++ items_bytes stack) next
    → FullStands delta bytes at ((changes.Full n, locals ++ stack), next)
full_made delta bytes at n first locals second stack next count few small fit fit_stack a b c =
    let behind = Stands-then bytes first (items_bytes locals) second (two (length stack) ++ items_bytes stack) next b c in
    record {
      n = n;
      changed = refl;
      fit = each_in_append ItemFits locals stack fit fit_stack;
      body = two n ++ (items_bytes locals ++ (two (length stack) ++ items_bytes stack));
      stand = Stands-then bytes at (two n) first (items_bytes locals ++ (two (length stack) ++ items_bytes stack)) next a behind;
      spelled = record { locals = locals; stack = stack; parts = refl; locals_counted = count; few_locals = few; small_stack = small; spelled = refl };
    }

full_stands : (delta : ℕ) (bytes : List ℕ) (at : ℕ) (made : (Change × List RawItem) × ℕ) → IsBytes bytes → full_at bytes at ≡ Ok made → FullStands delta bytes at made
unfolding full_at
full_stands delta bytes at made fits e =
    let a = bind_ok (number_at faults.Short 2 bytes at) (λ n. items_at [] n.0 bytes n.1 >>= λ locals. number_at faults.Short 2 bytes locals.1 >>= λ m. items_at locals.0 m.0 bytes m.1 >>= λ all. Ok ((changes.Full n.0, all.0), all.1)) made e in
    let n = a.0.0 in
    let b = bind_ok (items_at [] n bytes a.0.1) (λ locals. number_at faults.Short 2 bytes locals.1 >>= λ m. items_at locals.0 m.0 bytes m.1 >>= λ all. Ok ((changes.Full n, all.0), all.1)) made a.2 in
    let s = number_stands faults.Short 2 bytes at n a.0.1 fits a.1 in
    let f = items_stand bytes [] n a.0.1 b.0.0 b.0.1 fits s.0.within b.1 in
    let k : StackStands bytes b.0.1 n f.xs made = subst (λ (xs : List RawItem). StackStands bytes b.0.1 n xs made) f.parts (stack_stands bytes b.0.1 n b.0.0 made fits b.2) in
    subst (λ (m : (Change × List RawItem) × ℕ). FullStands delta bytes at m) k.is
    (full_made delta bytes at n a.0.1 f.xs b.0.1 k.stack made.1 f.count s.1 k.small f.fit k.fit s.0 f.stand k.stand)

-- ---- a frame by its form

record Spelt (bytes : List ℕ) (at : ℕ) (delta : ℕ × ℕ) (made : (Change × List RawItem) × ℕ) : Type 0 where
  text : List ℕ
  stand : Stands bytes at text made.1
  small : delta.0 < 65536
  fit : AllByRecursion ItemFits made.0.1
  spelled : Spells delta.0 made.0.0 made.0.1 text

-- the difference stands behind the tag
record Extended (bytes : List ℕ) (at tag : ℕ) (delta : ℕ × ℕ) : Type 0 where
  small : delta.0 < 65536
  stand : Stands bytes at (tag ∷ two delta.0) delta.1

extended : (bytes : List ℕ) (at tag first : ℕ) (delta : ℕ × ℕ) → IsBytes bytes → Stands bytes at (tag ∷ []) first → number_at faults.Short 2 bytes first ≡ Ok delta → Extended bytes at tag delta
extended bytes at tag first delta fits s e =
    let t = number_stands faults.Short 2 bytes first delta.0 delta.1 fits e in
    record { small = t.1; stand = Stands-then bytes at (tag ∷ []) first (two delta.0) delta.1 s t.0 }

spelt : (form : Form) (bytes : List ℕ) (at tag first : ℕ) (delta : ℕ × ℕ) (made : (Change × List RawItem) × ℕ) → IsBytes bytes → Range form tag → Stands bytes at (tag ∷ []) first
    → delta_at form tag bytes first ≡ Ok delta → change_at form tag bytes delta.1 ≡ Ok made → Spelt bytes at delta made
unfolding delta_at change_at
spelt forms.Same bytes at tag first delta made fits r s e h =
    subst (λ (m : (Change × List RawItem) × ℕ). Spelt bytes at delta m) (ok_is ((changes.Same, []), delta.1) made h)
    (subst (λ (d : ℕ × ℕ). Spelt bytes at d ((changes.Same, []), d.1)) (ok_is (tag, first) delta e)
    (record { text = tag ∷ []; stand = s; small = omega arith; fit = tt; spelled = (refl, inl (r, refl)) }))
spelt forms.One bytes at tag first delta made fits r s e h =
    let same = ok_is (tag - 64, first) delta e in
    let lt : delta.0 < 64 = omega (arith, ap (λ (d : ℕ × ℕ). d.0) same) in
    let whole : tag ≡ 64 + delta.0 = omega (arith, ap (λ (d : ℕ × ℕ). d.0) same) in
    let there : Stands bytes at (tag ∷ []) delta.1 = subst (λ (k : ℕ). Stands bytes at (tag ∷ []) k) (ap (λ (d : ℕ × ℕ). d.1) same) s in
    let p = stated_stands changes.One 1 bytes delta.1 made fits there.within h in
    record {
      text = tag ∷ items_bytes made.0.1;
      stand = Stands-then bytes at (tag ∷ []) delta.1 (items_bytes made.0.1) made.1 there p.stand;
      small = omega arith;
      fit = p.fit;
      spelled = subst (λ (c : Change). Spells delta.0 c made.0.1 (tag ∷ items_bytes made.0.1)) p.changed (p.count, inl (lt, ap (λ (t : ℕ). t ∷ items_bytes made.0.1) whole));
    }
spelt forms.OneExtended bytes at tag first delta made fits r s e h =
    let x = extended bytes at tag first delta fits s e in
    let p = stated_stands changes.One 1 bytes delta.1 made fits x.stand.within h in
    record {
      text = tag ∷ two delta.0 ++ items_bytes made.0.1;
      stand = Stands-then bytes at (tag ∷ two delta.0) delta.1 (items_bytes made.0.1) made.1 x.stand p.stand;
      small = x.small;
      fit = p.fit;
      spelled = subst (λ (c : Change). Spells delta.0 c made.0.1 (tag ∷ two delta.0 ++ items_bytes made.0.1)) p.changed (p.count, inr (ap (λ (t : ℕ). t ∷ two delta.0 ++ items_bytes made.0.1) r));
    }
spelt forms.Chop bytes at tag first delta made fits r s e h =
    let x = extended bytes at tag first delta fits s e in
    let back : tag ≡ 251 - (251 - tag) = omega (arith, r.0, r.1) in
    subst (λ (m : (Change × List RawItem) × ℕ). Spelt bytes at delta m) (ok_is ((changes.Chop (251 - tag), []), delta.1) made h)
    (record {
      text = tag ∷ two delta.0;
      stand = x.stand;
      small = x.small;
      fit = tt;
      spelled = (refl, omega (arith, r.1), omega (arith, r.0), ap (λ (t : ℕ). t ∷ two delta.0) back);
    })
spelt forms.SameExtended bytes at tag first delta made fits r s e h =
    let x = extended bytes at tag first delta fits s e in
    subst (λ (m : (Change × List RawItem) × ℕ). Spelt bytes at delta m) (ok_is ((changes.Same, []), delta.1) made h)
    (record { text = tag ∷ two delta.0; stand = x.stand; small = x.small; fit = tt; spelled = (refl, inr (ap (λ (t : ℕ). t ∷ two delta.0) r)) })
spelt forms.Append bytes at tag first delta made fits r s e h =
    let x = extended bytes at tag first delta fits s e in
    let p = stated_stands changes.Append (tag - 251) bytes delta.1 made fits x.stand.within h in
    let whole : tag ≡ 251 + length made.0.1 = omega (arith, p.count, r.0) in
    record {
      text = tag ∷ two delta.0 ++ items_bytes made.0.1;
      stand = Stands-then bytes at (tag ∷ two delta.0) delta.1 (items_bytes made.0.1) made.1 x.stand p.stand;
      small = x.small;
      fit = p.fit;
      spelled = subst (λ (c : Change). Spells delta.0 c made.0.1 (tag ∷ two delta.0 ++ items_bytes made.0.1)) p.changed
          (omega (arith, p.count, r.0), omega (arith, p.count, r.1), ap (λ (t : ℕ). t ∷ two delta.0 ++ items_bytes made.0.1) whole);
    }
spelt forms.Full bytes at tag first delta made fits r s e h =
    let x = extended bytes at tag first delta fits s e in
    let p = full_stands delta.0 bytes delta.1 made fits h in
    let there : Stands bytes at (255 ∷ two delta.0) delta.1 = subst (λ (t : ℕ). Stands bytes at (t ∷ two delta.0) delta.1) r x.stand in
    record {
      text = 255 ∷ two delta.0 ++ p.body;
      stand = Stands-then bytes at (255 ∷ two delta.0) delta.1 p.body made.1 there p.stand;
      small = x.small;
      fit = p.fit;
      spelled = subst (λ (c : Change). Spells delta.0 c made.0.1 (255 ∷ two delta.0 ++ p.body)) p.changed p.spelled;
    }

-- ---- a frame

pub record FrameStands (base : ℕ) (bytes : List ℕ) (at : ℕ) (f : Frame) (next : ℕ) : Type 0 where
  pub text : List ℕ
  pub stand : Stands bytes at text next
  pub is : IsFrame base f text

form_or_ok : (at : ℕ) (o : Option Form) (form : Form) → form_or at o ≡ Ok form → o ≡ Some form
form_or_ok at None form e = absurd cc
form_or_ok at (Some f) form e = ap (λ (g : Form). Some g) (ok_is f form e)

abbrev placed : ℕ → ℕ × ℕ → (Change × List RawItem) × ℕ → Frame × ℕ
placed base delta made = (record { offset = base + delta.0; change = made.0.0; items = made.0.1 }, made.1)

pub frame_stands : (base : ℕ) (bytes : List ℕ) (at : ℕ) (f : Frame) (next : ℕ) → IsBytes bytes → frame_from base bytes at ≡ Ok (f, next) → FrameStands base bytes at f next
unfolding frame_from
frame_stands base bytes at f next fits e =
    let a = bind_ok (number_at faults.Short 1 bytes at) (λ tag. form_or at (form_of tag.0) >>= λ form. delta_at form tag.0 bytes tag.1 >>= λ delta. change_at form tag.0 bytes delta.1 >>= λ made. Ok (placed base delta made)) (f, next) e in
    let tag = a.0.0 in
    let b = bind_ok (form_or at (form_of tag)) (λ form. delta_at form tag bytes a.0.1 >>= λ delta. change_at form tag bytes delta.1 >>= λ made. Ok (placed base delta made)) (f, next) a.2 in
    let c = bind_ok (delta_at b.0 tag bytes a.0.1) (λ delta. change_at b.0 tag bytes delta.1 >>= λ made. Ok (placed base delta made)) (f, next) b.2 in
    let d = bind_ok (change_at b.0 tag bytes c.0.1) (λ made. Ok (placed base c.0 made)) (f, next) c.2 in
    let r = in_range tag b.0 (form_or_ok at (form_of tag) b.0 b.1) in
    let t = number_stands faults.Short 1 bytes at tag a.0.1 fits a.1 in
    let s : Stands bytes at (tag ∷ []) a.0.1 = subst (λ (text : List ℕ). Stands bytes at text a.0.1) (one_byte tag t.1) t.0 in
    let p = spelt b.0 bytes at tag a.0.1 c.0 d.0 fits r s c.1 d.1 in
    subst (λ (x : Frame × ℕ). FrameStands base bytes at x.0 x.1) (ok_is (placed base c.0 d.0) (f, next) d.2)
    (record { text = p.text; stand = p.stand; is = record { delta = c.0.0; small = p.small; placed = refl; fit = p.fit; spelled = p.spelled } })
