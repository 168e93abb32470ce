-- The content behind a tag: what is read is spelled so, and what is spelled so is read.
use Rattle.std.proofs.Common.{◌≡◌, ℕ, ◌+◌, ◌^◌, ◌<◌, ◌≤◌, true, false, cond, eqb, ltb, ◌==◌, List, ◌++◌, length, take, drop, Result, Ok, Err, refl, sym, ap, subst, ◌∙◌, arith}
use Rattle.std.proofs.lemmas.Bool.{cond_both, eqb-true, ltb-false, le-ltb}
use Rattle.std.proofs.lemmas.List.{length-take, length-drop}
use Rattle.byteorder.specs.Endian.{big_bytes}
use Rattle.jl_reading.specs.Reading.{◌>>=◌, number_at, Stands, IsBytes, two}
use Rattle.jl_reading.proofs.Steps.{bind_ok, guard_ok, ok_is}
use Rattle.jl_reading.proofs.Stands.{IsBytes-drop, IsBytes-take, Stands-taken, Stands-then, Stands-splits, number_stands, number_again}
use Rattle.jl_names.specs.Text.{text_bytes, units_read}
use Rattle.jl_names.specs.declared.fault.TextFault.{TextFault}
use Rattle.jl_names.proofs.TextLaws.{units_found, units_again}
use Rattle.jl_pool.specs.declared.entry.Entry.{Entry}
use Rattle.jl_pool.specs.declared.entry.Entry.TheVariants as entries
use Rattle.jl_pool.specs.declared.fault.PoolFault.{PoolFault}
use Rattle.jl_pool.specs.declared.fault.PoolFault.TheVariants as faults
use Rattle.jl_pool.specs.Pool.{is_wide, is_unused}
use Rattle.jl_pool.specs.Reading.{units_or, text_at, bits_at, indices_at, pair_at, handle_at, eight_at, wide_at, content_at}
use Rattle.jl_pool.specs.Spelling.{entry_bytes, EntryFits}

-- what was read behind a tag
pub record Content (bytes : List ℕ) (tag count index at : ℕ) (x : Entry) (next : ℕ) : Type 0 where
  pub body : List ℕ
  pub spelled : entry_bytes x ≡ big_bytes 1 tag ++ body
  pub stands : Stands bytes at body next
  pub fits : EntryFits x
  pub used : is_unused x ≡ false
  pub narrow : is_wide x ≡ true → (index + 1 == count) ≡ false

-- ---- numbers

pub record MakesBits (made : ℕ → Entry) (tag k : ℕ) : Type 0 where
  pub spelled : (n : ℕ) → entry_bytes (made n) ≡ big_bytes 1 tag ++ big_bytes k n
  pub fits : (n : ℕ) → n < 256 ^ k → EntryFits (made n)
  pub used : (n : ℕ) → is_unused (made n) ≡ false

pub bits_stand : (made : ℕ → Entry) (tag k : ℕ) → MakesBits made tag k → ((n : ℕ) → is_wide (made n) ≡ false)
    → (bytes : List ℕ) (count index at : ℕ) (x : Entry) (next : ℕ) → IsBytes bytes → bits_at made k bytes at ≡ Ok (x, next) → Content bytes tag count index at x next
unfolding bits_at
bits_stand made tag k m thin bytes count index at x next fits e =
    let a = bind_ok (number_at faults.Short k bytes at) (λ n. Ok (made n.0, n.1)) (x, next) e in
    let t = number_stands faults.Short k bytes at a.0.0 a.0.1 fits a.1 in
    subst (λ (p : Entry × ℕ). Content bytes tag count index at p.0 p.1) (ok_is (made a.0.0, a.0.1) (x, next) a.2)
    (record { body = big_bytes k a.0.0; spelled = m.spelled a.0.0; stands = t.0; fits = m.fits a.0.0 t.1; used = m.used a.0.0; narrow = λ w. absurd (cc (thin a.0.0, w)) })

pub bits_again : (made : ℕ → Entry) (k : ℕ) (bytes : List ℕ) (at n next : ℕ) → n < 256 ^ k → Stands bytes at (big_bytes k n) next → bits_at made k bytes at ≡ Ok (made n, next)
unfolding bits_at
bits_again made k bytes at n next lt s = rw (number_again faults.Short k bytes at n next lt s) refl

pub wide_stands : (made : ℕ → Entry) (tag : ℕ) → MakesBits made tag 8
    → (bytes : List ℕ) (count index at : ℕ) (x : Entry) (next : ℕ) → IsBytes bytes → wide_at made count index bytes at ≡ Ok (x, next) → Content bytes tag count index at x next
unfolding wide_at eight_at
wide_stands made tag m bytes count index at x next fits e =
    let a = bind_ok (eight_at count index bytes at) (λ n. Ok (made n.0, n.1)) (x, next) e in
    let g = guard_ok (eqb (index + 1) count) (faults.Entry index) (number_at faults.Short 8 bytes at) a.0 a.1 in
    let t = number_stands faults.Short 8 bytes at a.0.0 a.0.1 fits g.1 in
    subst (λ (p : Entry × ℕ). Content bytes tag count index at p.0 p.1) (ok_is (made a.0.0, a.0.1) (x, next) a.2)
    (record { body = big_bytes 8 a.0.0; spelled = m.spelled a.0.0; stands = t.0; fits = m.fits a.0.0 t.1; used = m.used a.0.0; narrow = λ w. g.0 })

pub wide_again : (made : ℕ → Entry) (bytes : List ℕ) (count index at n next : ℕ) → (index + 1 == count) ≡ false → n < 256 ^ 8 → Stands bytes at (big_bytes 8 n) next
    → wide_at made count index bytes at ≡ Ok (made n, next)
unfolding wide_at eight_at
wide_again made bytes count index at n next room lt s = rw (room, number_again faults.Short 8 bytes at n next lt s) refl

-- ---- two numbers

pub record MakesPair (made : ℕ → ℕ → Entry) (tag : ℕ) : Type 0 where
  pub spelled : (i j : ℕ) → entry_bytes (made i j) ≡ big_bytes 1 tag ++ (two i ++ two j)
  pub fits : (i j : ℕ) → i < 65536 → j < 65536 → EntryFits (made i j)
  pub used : (i j : ℕ) → is_unused (made i j) ≡ false
  pub thin : (i j : ℕ) → is_wide (made i j) ≡ false

pub pair_stands : (made : ℕ → ℕ → Entry) (tag : ℕ) → MakesPair made tag
    → (bytes : List ℕ) (count index at : ℕ) (x : Entry) (next : ℕ) → IsBytes bytes → pair_at made bytes at ≡ Ok (x, next) → Content bytes tag count index at x next
unfolding pair_at indices_at
pair_stands made tag m bytes count index at x next fits e =
    let a = bind_ok (indices_at bytes at) (λ p. Ok (made p.0.0 p.0.1, p.1)) (x, next) e in
    let b = bind_ok (number_at faults.Short 2 bytes at) (λ one. number_at faults.Short 2 bytes one.1 >>= λ other. Ok ((one.0, other.0), other.1)) a.0 a.1 in
    let c = bind_ok (number_at faults.Short 2 bytes b.0.1) (λ other. Ok ((b.0.0, other.0), other.1)) a.0 b.2 in
    let s = number_stands faults.Short 2 bytes at b.0.0 b.0.1 fits b.1 in
    let t = number_stands faults.Short 2 bytes b.0.1 c.0.0 c.0.1 fits c.1 in
    subst (λ (p : Entry × ℕ). Content bytes tag count index at p.0 p.1) (ok_is (made a.0.0.0 a.0.0.1, a.0.1) (x, next) a.2)
    (subst (λ (p : (ℕ × ℕ) × ℕ). Content bytes tag count index at (made p.0.0 p.0.1) p.1) (ok_is ((b.0.0, c.0.0), c.0.1) a.0 c.2)
    (record {
      body = two b.0.0 ++ two c.0.0;
      spelled = m.spelled b.0.0 c.0.0;
      stands = Stands-then bytes at (two b.0.0) b.0.1 (two c.0.0) c.0.1 s.0 t.0;
      fits = m.fits b.0.0 c.0.0 s.1 t.1;
      used = m.used b.0.0 c.0.0;
      narrow = λ w. absurd (cc (m.thin b.0.0 c.0.0, w));
    }))

pub pair_again : (made : ℕ → ℕ → Entry) (bytes : List ℕ) (at i j next : ℕ) → i < 65536 → j < 65536 → Stands bytes at (two i ++ two j) next → pair_at made bytes at ≡ Ok (made i j, next)
unfolding pair_at indices_at
pair_again made bytes at i j next one other s =
    let p = Stands-splits bytes at (two i) (two j) next s in
    rw (number_again faults.Short 2 bytes at i (at + 2) one p.first, number_again faults.Short 2 bytes (at + 2) j next other p.second) refl

pub handle_stands : (bytes : List ℕ) (count index at : ℕ) (x : Entry) (next : ℕ) → IsBytes bytes → handle_at bytes at ≡ Ok (x, next) → Content bytes 15 count index at x next
unfolding handle_at
handle_stands bytes count index at x next fits e =
    let b = bind_ok (number_at faults.Short 1 bytes at) (λ kind. number_at faults.Short 2 bytes kind.1 >>= λ member. Ok (entries.MethodHandle kind.0 member.0, member.1)) (x, next) e in
    let c = bind_ok (number_at faults.Short 2 bytes b.0.1) (λ member. Ok (entries.MethodHandle b.0.0 member.0, member.1)) (x, next) b.2 in
    let s = number_stands faults.Short 1 bytes at b.0.0 b.0.1 fits b.1 in
    let t = number_stands faults.Short 2 bytes b.0.1 c.0.0 c.0.1 fits c.1 in
    subst (λ (p : Entry × ℕ). Content bytes 15 count index at p.0 p.1) (ok_is (entries.MethodHandle b.0.0 c.0.0, c.0.1) (x, next) c.2)
    (record {
      body = big_bytes 1 b.0.0 ++ two c.0.0;
      spelled = refl;
      stands = Stands-then bytes at (big_bytes 1 b.0.0) b.0.1 (two c.0.0) c.0.1 s.0 t.0;
      fits = (s.1, t.1);
      used = refl;
      narrow = λ w. absurd cc;
    })

pub handle_again : (bytes : List ℕ) (at kind i next : ℕ) → kind < 256 → i < 65536 → Stands bytes at (big_bytes 1 kind ++ two i) next → handle_at bytes at ≡ Ok (entries.MethodHandle kind i, next)
unfolding handle_at
handle_again bytes at kind i next one other s =
    let p = Stands-splits bytes at (big_bytes 1 kind) (two i) next s in
    rw (number_again faults.Short 1 bytes at kind (at + 1) one p.first, number_again faults.Short 2 bytes (at + 1) i next other p.second) refl

-- ---- texts

units_or_ok : (index : ℕ) (r : Result (List ℕ) TextFault) (us : List ℕ) → units_or index r ≡ Ok us → r ≡ Ok us
units_or_ok index (Ok units) us e = let same : units ≡ us = ok_is units us e in rw same refl
units_or_ok index (Err f) us e = absurd cc

pub text_stands : (bytes : List ℕ) (count index at : ℕ) (x : Entry) (next : ℕ) → IsBytes bytes → text_at bytes index at ≡ Ok (x, next) → Content bytes 1 count index at x next
unfolding text_at
text_stands bytes count index at x next fits e =
    let a = bind_ok (number_at faults.Short 2 bytes at) (λ len. cond (ltb (length bytes) (len.1 + len.0)) (Err (faults.Short len.1)) (units_or index (units_read (take len.0 (drop len.1 bytes))) >>= λ units. Ok (entries.Utf8 units, len.1 + len.0))) (x, next) e in
    let len = a.0.0 in
    let first = a.0.1 in
    let g = guard_ok (ltb (length bytes) (first + len)) (faults.Short first) (units_or index (units_read (take len (drop first bytes))) >>= λ units. Ok (entries.Utf8 units, first + len)) (x, next) a.2 in
    let b = bind_ok (units_or index (units_read (take len (drop first bytes)))) (λ units. Ok (entries.Utf8 units, first + len)) (x, next) g.1 in
    let long : first + len ≤ length bytes = ltb-false _ _ g.0 in
    let s = number_stands faults.Short 2 bytes at len first fits a.1 in
    let t = units_found (take len (drop first bytes)) b.0 (IsBytes-take len (drop first bytes) (IsBytes-drop first bytes fits)) (units_or_ok index _ b.0 b.1) in
    let there : Stands bytes first (text_bytes b.0) (first + len) = subst (λ (text : List ℕ). Stands bytes first text (first + len)) (sym t.1) (Stands-taken bytes first len long) in
    let size : length (text_bytes b.0) ≡ len = ap length t.1 ∙ omega (arith, length-take len (drop first bytes), length-drop first bytes) in
    let counted : Stands bytes at (two (length (text_bytes b.0))) first = subst (λ (n : ℕ). Stands bytes at (two n) first) (sym size) s.0 in
    subst (λ (p : Entry × ℕ). Content bytes 1 count index at p.0 p.1) (ok_is (entries.Utf8 b.0, first + len) (x, next) b.2)
    (record {
      body = two (length (text_bytes b.0)) ++ text_bytes b.0;
      spelled = refl;
      stands = Stands-then bytes at (two (length (text_bytes b.0))) first (text_bytes b.0) (first + len) counted there;
      fits = (t.0, omega (arith, size, s.1));
      used = refl;
      narrow = λ w. absurd cc;
    })

pub text_again : (bytes : List ℕ) (index at : ℕ) (units : List ℕ) (next : ℕ) → EntryFits (entries.Utf8 units) → Stands bytes at (two (length (text_bytes units)) ++ text_bytes units) next
    → text_at bytes index at ≡ Ok (entries.Utf8 units, next)
unfolding text_at
text_again bytes index at units next fits s =
    let len = length (text_bytes units) in
    let p = Stands-splits bytes at (two len) (text_bytes units) next s in
    let ends : next ≡ (at + 2) + len = p.second.ends in
    let long : ltb (length bytes) ((at + 2) + len) ≡ false = le-ltb _ _ (omega (arith, ends, s.within)) in
    let there : take len (drop (at + 2) bytes) ≡ text_bytes units = p.second.there in
    rw (number_again faults.Short 2 bytes at len (at + 2) fits.1 p.first, long, there, units_again units fits.0, ends) refl

-- ---- all tags

pick : {bytes : List ℕ} {count index at : ℕ} {x : Entry} {next : ℕ} (tag t : ℕ) (p q : Result (Entry × ℕ) PoolFault)
    → (p ≡ Ok (x, next) → Content bytes t count index at x next) → (q ≡ Ok (x, next) → Content bytes tag count index at x next)
    → cond (eqb tag t) p q ≡ Ok (x, next) → Content bytes tag count index at x next
pick {bytes} {count} {index} {at} {x} {next} tag t p q here there =
    cond_both (eqb tag t) p q (λ r. r ≡ Ok (x, next) → Content bytes tag count index at x next)
    (λ e h. subst (λ (u : ℕ). Content bytes u count index at x next) (sym (eqb-true tag t e)) (here h)) (λ e h. there h)

pub content_stands : (bytes : List ℕ) (tag count index at : ℕ) (x : Entry) (next : ℕ) → IsBytes bytes → content_at tag count index bytes at ≡ Ok (x, next) → Content bytes tag count index at x next
unfolding content_at
content_stands bytes tag count index at x next fits =
    let bits = λ (made : ℕ → Entry) (t k : ℕ) (m : MakesBits made t k) (thin : (n : ℕ) → is_wide (made n) ≡ false). bits_stand made t k m thin bytes count index at x next fits in
    let name = λ (made : ℕ → Entry) (t : ℕ) (m : MakesBits made t 2) (thin : (n : ℕ) → is_wide (made n) ≡ false). bits_stand made t 2 m thin bytes count index at x next fits in
    let wide = λ (made : ℕ → Entry) (t : ℕ) (m : MakesBits made t 8). wide_stands made t m bytes count index at x next fits in
    let pair = λ (made : ℕ → ℕ → Entry) (t : ℕ) (m : MakesPair made t). pair_stands made t m bytes count index at x next fits in
    pick tag 1 _ _ (text_stands bytes count index at x next fits)
    (pick tag 3 _ _ (bits entries.Integer 3 4 (record { spelled = λ n. refl; fits = λ n h. h; used = λ n. refl }) (λ n. refl))
    (pick tag 4 _ _ (bits entries.Float 4 4 (record { spelled = λ n. refl; fits = λ n h. h; used = λ n. refl }) (λ n. refl))
    (pick tag 5 _ _ (wide entries.Long 5 (record { spelled = λ n. refl; fits = λ n h. h; used = λ n. refl }))
    (pick tag 6 _ _ (wide entries.Double 6 (record { spelled = λ n. refl; fits = λ n h. h; used = λ n. refl }))
    (pick tag 7 _ _ (name entries.Class 7 (record { spelled = λ n. refl; fits = λ n h. h; used = λ n. refl }) (λ n. refl))
    (pick tag 8 _ _ (name entries.String 8 (record { spelled = λ n. refl; fits = λ n h. h; used = λ n. refl }) (λ n. refl))
    (pick tag 9 _ _ (pair entries.Field 9 (record { spelled = λ i j. refl; fits = λ i j h k. (h, k); used = λ i j. refl; thin = λ i j. refl }))
    (pick tag 10 _ _ (pair entries.Method 10 (record { spelled = λ i j. refl; fits = λ i j h k. (h, k); used = λ i j. refl; thin = λ i j. refl }))
    (pick tag 11 _ _ (pair entries.InterfaceMethod 11 (record { spelled = λ i j. refl; fits = λ i j h k. (h, k); used = λ i j. refl; thin = λ i j. refl }))
    (pick tag 12 _ _ (pair entries.NameAndType 12 (record { spelled = λ i j. refl; fits = λ i j h k. (h, k); used = λ i j. refl; thin = λ i j. refl }))
    (pick tag 15 _ _ (handle_stands bytes count index at x next fits)
    (pick tag 16 _ _ (name entries.MethodType 16 (record { spelled = λ n. refl; fits = λ n h. h; used = λ n. refl }) (λ n. refl))
    (pick tag 17 _ _ (pair entries.Dynamic 17 (record { spelled = λ i j. refl; fits = λ i j h k. (h, k); used = λ i j. refl; thin = λ i j. refl }))
    (pick tag 18 _ _ (pair entries.InvokeDynamic 18 (record { spelled = λ i j. refl; fits = λ i j h k. (h, k); used = λ i j. refl; thin = λ i j. refl }))
    (pick tag 19 _ _ (name entries.Module 19 (record { spelled = λ n. refl; fits = λ n h. h; used = λ n. refl }) (λ n. refl))
    (pick tag 20 _ _ (name entries.Package 20 (record { spelled = λ n. refl; fits = λ n h. h; used = λ n. refl }) (λ n. refl))
    (λ e. absurd cc)))))))))))))))))
