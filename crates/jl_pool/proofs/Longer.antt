-- Reading a pool where more bytes follow.
use Rattle.std.proofs.Common.{◌≡◌, ℕ, ◌+◌, ◌-◌, ◌<◌, Bool, cond, ltb, eqb, not, List, [], ◌∷◌, length, take, drop, Option, None, Some, Result, Ok, Err, refl, sym, ap, arith}
use Rattle.std.specs.Prelude.{position}
use Rattle.std.proofs.lemmas.List.{drop-take}
use Rattle.jl_reading.specs.Reading.{◌>>=◌, number_at, each_at}
use Rattle.jl_reading.specs.Appended.{Appends, IsPast, NoPart}
use Rattle.jl_reading.proofs.Appended.{number_appends, bind_appends, given_appends, fault_appends, cond_appends, each_appends, part_appends, appends_as, ReadsPart, not_both, err_is, failed}
use Rattle.jl_reading.proofs.Steps.{ok_is}
use Rattle.jl_names.specs.declared.fault.TextFault.{TextFault}
use Rattle.jl_names.specs.Text.{units_read}
use Rattle.jl_pool.specs.declared.entry.Entry.{Entry}
use Rattle.jl_pool.specs.declared.entry.Entry.TheVariants as entries
use Rattle.jl_pool.specs.declared.fault.PoolFault.{PoolFault}
use Rattle.jl_pool.specs.declared.fault.PoolFault.TheVariants as faults
use Rattle.jl_pool.specs.Pool.{refers_rightly}
use Rattle.jl_pool.specs.Reading.{units_or, text_at, bits_at, indices_at, pair_at, handle_at, eight_at, wide_at, content_at, ends_wide, entry_at, refers_or, pool_at}
use Rattle.jl_pool.specs.Laws.{cut_at, ReadsLonger}

abbrev after : {A : Type 0} → A × ℕ → ℕ
after x = x.1

-- what a reading of a value and the place after it is where more follows
abbrev Longer : {A : Type 0} → ℕ → (List ℕ → Result (A × ℕ) PoolFault) → Type 0
Longer {A} at reading = Appends cut_at (λ (x : A × ℕ). x.1) NoPart at reading

number : (k at : ℕ) → Longer at (λ bytes. number_at faults.Short k bytes at)
number k at = number_appends cut_at NoPart faults.Short (λ p. refl) k at

then : {A B : Type 0} (at : ℕ) (f : List ℕ → Result (A × ℕ) PoolFault) (g : A × ℕ → List ℕ → Result (B × ℕ) PoolFault) → Longer at f → ((x : A × ℕ) → Longer x.1 (g x)) → Longer at (λ bytes. f bytes >>= λ x. g x bytes)
then {A} {B} at f g a b = bind_appends cut_at NoPart (λ (x : A × ℕ). x.1) (λ (x : B × ℕ). x.1) at f g a b

value : {A : Type 0} (x : A) (at : ℕ) → Longer at (λ (bytes : List ℕ). Ok (x, at))
value {A} x at = given_appends cut_at NoPart (λ (y : A × ℕ). y.1) at (x, at) refl

bits : (made : ℕ → Entry) (k at : ℕ) → Longer at (λ bytes. bits_at made k bytes at)
unfolding bits_at
bits made k at = then at (λ bytes. number_at faults.Short k bytes at) (λ n bytes. Ok (made n.0, n.1)) (number k at) (λ n. value (made n.0) n.1)

indices : (at : ℕ) → Longer at (λ bytes. indices_at bytes at)
unfolding indices_at
indices at =
    then at (λ bytes. number_at faults.Short 2 bytes at) (λ one bytes. number_at faults.Short 2 bytes one.1 >>= λ other. Ok ((one.0, other.0), other.1)) (number 2 at)
    (λ one. then one.1 (λ bytes. number_at faults.Short 2 bytes one.1) (λ other bytes. Ok ((one.0, other.0), other.1)) (number 2 one.1) (λ other. value (one.0, other.0) other.1))

pair : (made : ℕ → ℕ → Entry) (at : ℕ) → Longer at (λ bytes. pair_at made bytes at)
unfolding pair_at
pair made at = then at (λ bytes. indices_at bytes at) (λ p bytes. Ok (made p.0.0 p.0.1, p.1)) (indices at) (λ p. value (made p.0.0 p.0.1) p.1)

handle : (at : ℕ) → Longer at (λ bytes. handle_at bytes at)
unfolding handle_at
handle at =
    then at (λ bytes. number_at faults.Short 1 bytes at) (λ kind bytes. number_at faults.Short 2 bytes kind.1 >>= λ member. Ok (entries.MethodHandle kind.0 member.0, member.1)) (number 1 at)
    (λ kind. then kind.1 (λ bytes. number_at faults.Short 2 bytes kind.1) (λ member bytes. Ok (entries.MethodHandle kind.0 member.0, member.1)) (number 2 kind.1) (λ member. value (entries.MethodHandle kind.0 member.0) member.1))

eight : (count index at : ℕ) → Longer at (λ bytes. eight_at count index bytes at)
unfolding eight_at
eight count index at =
    cond_appends cut_at NoPart (λ (x : ℕ × ℕ). x.1) at (eqb (index + 1) count) (λ bytes. failed (faults.Entry index)) (λ bytes. number_at faults.Short 8 bytes at)
    (fault_appends cut_at NoPart (λ (x : ℕ × ℕ). x.1) at (faults.Entry index) refl) (number 8 at)

wide : (made : ℕ → Entry) (count index at : ℕ) → Longer at (λ bytes. wide_at made count index bytes at)
unfolding wide_at
wide made count index at = then at (λ bytes. eight_at count index bytes at) (λ n bytes. Ok (made n.0, n.1)) (eight count index at) (λ n. value (made n.0) n.1)

-- ---- texts

abbrev text_or : ℕ → ℕ → Result (List ℕ) TextFault → Result (Entry × ℕ) PoolFault
text_or index next units = units_or index units >>= λ us. Ok (entries.Utf8 us, next)

text_ends : (index next : ℕ) (units : Result (List ℕ) TextFault) (x : Entry × ℕ) → text_or index next units ≡ Ok x → x.1 ≡ next
text_ends index next (Ok us) x e = sym (ap (λ (y : Entry × ℕ). y.1) (ok_is (entries.Utf8 us, next) x e))
text_ends index next (Err f) x e = absurd cc

no_place : {C : Type 0} (o : Option ℕ) (p : ℕ) → o ≡ None → o ≡ Some p → C
no_place o p none some = absurd cc

text_whole : {C : Type 0} (index next : ℕ) (units : Result (List ℕ) TextFault) (f : PoolFault) (p : ℕ) → text_or index next units ≡ Err f → cut_at f ≡ Some p → C
text_whole index next (Ok us) f p e some = not_both (entries.Utf8 us, next) f e
text_whole index next (Err d) f p e some = no_place (cut_at f) p (ap cut_at (sym (err_is (faults.Entry index) f e))) some

text_past : (index next p : ℕ) (units : Result (List ℕ) TextFault) → p < next → IsPast cut_at (λ (x : Entry × ℕ). x.1) p (text_or index next units)
text_past index next p (Ok us) lt = lt
text_past index next p (Err d) lt = tt

text_part : (index at n : ℕ) → ReadsPart cut_at NoPart (λ (x : Entry × ℕ). x.1) faults.Short at n 0 (λ window. text_or index (at + n) (units_read (drop at window)))
text_part index at n = record {
  read = λ bytes x le e. text_ends index (at + n) (units_read (drop at (take (at + n) bytes))) x e;
  cut = λ bytes f p le e some. text_whole index (at + n) (units_read (drop at (take (at + n) bytes))) f p e some;
  few = λ bytes le few. absurd (omega (arith, few));
  less = λ bytes le few. absurd (omega (arith, few));
  enough = λ bytes le pos few. text_past index (at + n) at (units_read (drop at (take (at + n) bytes))) (omega (arith, pos));
}

text_of : (index at n : ℕ) → Longer at (λ bytes. cond (ltb (length bytes) (at + n)) (Err (faults.Short at)) (text_or index (at + n) (units_read (take n (drop at bytes)))))
text_of index at n =
    appends_as cut_at NoPart (λ (x : Entry × ℕ). x.1) at (λ bytes. cond (ltb (length bytes) (at + n)) (Err (faults.Short at)) (text_or index (at + n) (units_read (drop at (take (at + n) bytes)))))
    (λ bytes. cond (ltb (length bytes) (at + n)) (Err (faults.Short at)) (text_or index (at + n) (units_read (take n (drop at bytes)))))
    (λ bytes. ap (λ (window : List ℕ). cond (ltb (length bytes) (at + n)) (Err (faults.Short at)) (text_or index (at + n) (units_read window))) (drop-take at n bytes))
    (part_appends cut_at NoPart (λ (x : Entry × ℕ). x.1) faults.Short (λ p. refl) at n 0 (λ window. text_or index (at + n) (units_read (drop at window))) (text_part index at n))

text : (index at : ℕ) → Longer at (λ bytes. text_at bytes index at)
unfolding text_at
text index at =
    then at (λ bytes. number_at faults.Short 2 bytes at) (λ len bytes. cond (ltb (length bytes) (len.1 + len.0)) (Err (faults.Short len.1)) (text_or index (len.1 + len.0) (units_read (take len.0 (drop len.1 bytes)))))
    (number 2 at) (λ len. text_of index len.1 len.0)

-- ---- entries

either : {A : Type 0} (at : ℕ) (b : Bool) (f g : List ℕ → Result (A × ℕ) PoolFault) → Longer at f → Longer at g → Longer at (λ bytes. cond b (f bytes) (g bytes))
either {A} at b f g a c = cond_appends cut_at NoPart (λ (x : A × ℕ). x.1) at b f g a c

wrong : {A : Type 0} (index at : ℕ) → Longer {A = A} at (λ bytes. failed (faults.Entry index))
wrong {A} index at = fault_appends cut_at NoPart (λ (x : A × ℕ). x.1) at (faults.Entry index) refl

content : (tag count index at : ℕ) → Longer at (λ bytes. content_at tag count index bytes at)
unfolding content_at
content tag count index at =
    either at (eqb tag 1) _ _ (text index at)
    (either at (eqb tag 3) _ _ (bits entries.Integer 4 at)
    (either at (eqb tag 4) _ _ (bits entries.Float 4 at)
    (either at (eqb tag 5) _ _ (wide entries.Long count index at)
    (either at (eqb tag 6) _ _ (wide entries.Double count index at)
    (either at (eqb tag 7) _ _ (bits entries.Class 2 at)
    (either at (eqb tag 8) _ _ (bits entries.String 2 at)
    (either at (eqb tag 9) _ _ (pair entries.Field at)
    (either at (eqb tag 10) _ _ (pair entries.Method at)
    (either at (eqb tag 11) _ _ (pair entries.InterfaceMethod at)
    (either at (eqb tag 12) _ _ (pair entries.NameAndType at)
    (either at (eqb tag 15) _ _ (handle at)
    (either at (eqb tag 16) _ _ (bits entries.MethodType 2 at)
    (either at (eqb tag 17) _ _ (pair entries.Dynamic at)
    (either at (eqb tag 18) _ _ (pair entries.InvokeDynamic at)
    (either at (eqb tag 19) _ _ (bits entries.Module 2 at)
    (either at (eqb tag 20) _ _ (bits entries.Package 2 at)
    (wrong index at)))))))))))))))))

entry : (count : ℕ) (done : List Entry) (at : ℕ) → Longer at (λ bytes. entry_at count bytes done at)
unfolding entry_at
entry count done at =
    either at (ends_wide done) (λ bytes. Ok (entries.Unused, at)) (λ bytes. number_at faults.Short 1 bytes at >>= λ tag. content_at tag.0 count (length done) bytes tag.1) (value entries.Unused at)
    (then at (λ bytes. number_at faults.Short 1 bytes at) (λ tag bytes. content_at tag.0 count (length done) bytes tag.1) (number 1 at) (λ tag. content tag.0 count (length done) tag.1))

refers : (o : Option ℕ) (read : List Entry × ℕ) → Longer read.1 (λ (bytes : List ℕ). refers_or o read)
refers None read = value read.0 read.1
refers (Some index) read = wrong index read.1

pub pool_longer : ReadsLonger
unfolding pool_at
pool_longer at =
    then at (λ bytes. number_at faults.Short 2 bytes at)
    (λ count bytes. each_at (entry_at count.0 bytes) (entries.Unused ∷ []) (count.0 - 1) count.1 >>= λ read. refers_or (position (λ e. not (refers_rightly read.0 e)) read.0) read)
    (number 2 at)
    (λ count.
    then count.1 (λ bytes. each_at (entry_at count.0 bytes) (entries.Unused ∷ []) (count.0 - 1) count.1) (λ read bytes. refers_or (position (λ e. not (refers_rightly read.0 e)) read.0) read)
    (each_appends cut_at NoPart (λ bytes. entry_at count.0 bytes) (λ done p. entry count.0 done p) (count.0 - 1) (entries.Unused ∷ []) count.1)
    (λ read. refers (position (λ e. not (refers_rightly read.0 e)) read.0) read))
