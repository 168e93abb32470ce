-- A pool that grows: what stood there stays, and the pool stays right.
use Rattle.std.proofs.Common.{◌≡◌, ℕ, zero, suc, ◌+◌, ◌<◌, ◌≤◌, Bool, true, false, not, ltb, eqb, List, [], ◌∷◌, ◌++◌, length, slice_get, Option, None, Some, Ok, refl, sym, ap, ap₂, subst, ◌∙◌, append_assoc, arith}
use Rattle.std.specs.Prelude.{◌&&◌, IsTrue, IsUtf8, position, if◌then◌else◌}
use Rattle.std.specs.List.{AllByRecursion}
use Rattle.std.specs.Cmp.Lexicographic.{bytes_decides}
use Rattle.std.proofs.lemmas.Bool.{ltb-false, eqb-true, and_parts}
use Rattle.std.proofs.lemmas.List.{append-nil, length-append}
use Rattle.std.proofs.lemmas.Option.{slice_get_within}
use Rattle.jl_logic.proofs.Rising.{each_in_append}
use Rattle.jl_reading.proofs.Steps.{guard_ok, ok_is}
use Rattle.jl_names.specs.Utf16.{utf16}
use Rattle.jl_names.proofs.Utf16Laws.{utf16_units}
use Rattle.jl_pool.specs.declared.entry.Entry.{Entry}
use Rattle.jl_pool.specs.declared.entry.Entry.TheVariants as entries
use Rattle.jl_pool.specs.Builder.{IsShort}
use Rattle.jl_pool.specs.Pool.{is_utf8, is_class, is_name_and_type, is_member, is_wide, is_unused, refers_rightly}
use Rattle.jl_pool.specs.Spelling.{EntryFits, AreSpaced, ArePoolEntries}
use Rattle.jl_class.specs.Meaning.{is_of_modules}
use Rattle.jl_classw.specs.Built.{IsPool}
use Rattle.jl_classw.specs.Building.{is_same, spaced, at_end, there_or, entered, text_entered}
use Rattle.jl_classw.proofs.PositionLaws.{position_none, position_there}

-- ---- what stands at an index

pub get_more : {X : Type 0} (xs ys : List X) (i : ℕ) (x : X) → slice_get xs i ≡ Some x → slice_get (xs ++ ys) i ≡ Some x
get_more [] ys i x e = absurd cc
get_more (y ∷ xs) ys zero x e = e
get_more (y ∷ xs) ys (suc i) x e = get_more xs ys i x e

get_new : {X : Type 0} (xs : List X) (x : X) (ys : List X) → slice_get (xs ++ x ∷ ys) (length xs) ≡ Some x
get_new [] x ys = refl
get_new (y ∷ xs) x ys = get_new xs x ys

pub some_of : {A B : Type 0} (f : Option A → Option B) (o : Option A) (y : B) → f None ≡ None → f o ≡ Some y → (x : A) × (o ≡ Some x)
some_of f None y n e = absurd (let g = sym n ∙ e in cc)
some_of f (Some x) y n e = (x, refl)

pub stays : {A : Type 0} (f : Option Entry → Option A) (pool rest : List Entry) (i : ℕ) (y : A) → f None ≡ None → f (slice_get pool i) ≡ Some y → f (slice_get (pool ++ rest) i) ≡ Some y
stays f pool rest i y n e =
    let s = some_of f (slice_get pool i) y n e in
    ap f (get_more pool rest i s.0 s.1) ∙ (ap f (sym s.1) ∙ e)

test_of : {A : Type 0} (t : Option A → Bool) (o : Option A) → t None ≡ false → t o ≡ true → (x : A) × (o ≡ Some x)
test_of t None n e = absurd (let g = sym n ∙ e in cc)
test_of t (Some x) n e = (x, refl)

test_stays : (t : Option Entry → Bool) (pool rest : List Entry) (i : ℕ) → t None ≡ false → t (slice_get pool i) ≡ true → t (slice_get (pool ++ rest) i) ≡ true
test_stays t pool rest i n e =
    let s = test_of t (slice_get pool i) n e in
    ap t (get_more pool rest i s.0 s.1) ∙ (ap t (sym s.1) ∙ e)

pub and_is : (a b : Bool) → a ≡ true → b ≡ true → (a && b) ≡ true
and_is a b e f = rw (e, f) refl

module _ (pool rest : List Entry) where
  utf8_stays : (i : ℕ) → is_utf8 (slice_get pool i) ≡ true → is_utf8 (slice_get (pool ++ rest) i) ≡ true
  utf8_stays i e = test_stays is_utf8 pool rest i refl e

  class_and_type_stay : (i j : ℕ) → (is_class (slice_get pool i) && is_name_and_type (slice_get pool j)) ≡ true → (is_class (slice_get (pool ++ rest) i) && is_name_and_type (slice_get (pool ++ rest) j)) ≡ true
  class_and_type_stay i j e =
      let b = and_parts (is_class (slice_get pool i)) (is_name_and_type (slice_get pool j)) e in
      and_is (is_class (slice_get (pool ++ rest) i)) (is_name_and_type (slice_get (pool ++ rest) j)) (test_stays is_class pool rest i refl b.0) (test_stays is_name_and_type pool rest j refl b.1)

  refers_stays : (e : Entry) → refers_rightly pool e ≡ true → refers_rightly (pool ++ rest) e ≡ true
  refers_stays entries.Unused h = refl
  refers_stays (entries.Utf8 units) h = refl
  refers_stays (entries.Integer n) h = refl
  refers_stays (entries.Float n) h = refl
  refers_stays (entries.Long n) h = refl
  refers_stays (entries.Double n) h = refl
  refers_stays (entries.Class i) h = utf8_stays i h
  refers_stays (entries.String i) h = utf8_stays i h
  refers_stays (entries.Field i j) h = class_and_type_stay i j h
  refers_stays (entries.Method i j) h = class_and_type_stay i j h
  refers_stays (entries.InterfaceMethod i j) h = class_and_type_stay i j h
  refers_stays (entries.NameAndType i j) h =
      let b = and_parts (is_utf8 (slice_get pool i)) (is_utf8 (slice_get pool j)) h in
      and_is (is_utf8 (slice_get (pool ++ rest) i)) (is_utf8 (slice_get (pool ++ rest) j)) (utf8_stays i b.0) (utf8_stays j b.1)
  refers_stays (entries.MethodHandle kind i) h = test_stays is_member pool rest i refl h
  refers_stays (entries.MethodType i) h = utf8_stays i h
  refers_stays (entries.Dynamic b i) h = test_stays is_name_and_type pool rest i refl h
  refers_stays (entries.InvokeDynamic b i) h = test_stays is_name_and_type pool rest i refl h
  refers_stays (entries.Module i) h = utf8_stays i h
  refers_stays (entries.Package i) h = utf8_stays i h

-- ---- one more entry

-- an entry that a class may have
pub record IsFine (pool : List Entry) (e : Entry) : Type 0 where
  pub fits : EntryFits e
  pub refers : refers_rightly pool e ≡ true
  pub inside : is_of_modules e ≡ false
  pub used : is_unused e ≡ false

spaced_by : Bool → Entry → List Entry
spaced_by w e = if w then e ∷ entries.Unused ∷ [] else e ∷ []

are_spaced_by : (w : Bool) (e : Entry) → is_wide e ≡ w → is_unused e ≡ false → AreSpaced false (spaced_by w e)
unfolding spaced_by
are_spaced_by true e wide used = (ap not used, subst (λ (b : Bool). AreSpaced b (entries.Unused ∷ [])) (sym wide) (refl, tt))
are_spaced_by false e wide used = (ap not used, subst (λ (b : Bool). AreSpaced b []) (sym wide) tt)

each_spaced : (P : Entry → Type 0) (w : Bool) (e : Entry) → P e → P entries.Unused → AllByRecursion P (spaced_by w e)
unfolding spaced_by
each_spaced P true e p u = (p, (u, tt))
each_spaced P false e p u = (p, tt)

none_spaced : (w : Bool) (e : Entry) → is_of_modules e ≡ false → None ≡ position is_of_modules (spaced_by w e)
unfolding spaced_by
none_spaced true e f = rw f refl
none_spaced false e f = rw f refl

begins_by : (w : Bool) (e : Entry) → (more : List Entry) × (spaced_by w e ≡ e ∷ more)
unfolding spaced_by
begins_by true e = (entries.Unused ∷ [], refl)
begins_by false e = ([], refl)

are_spaced : (b : Bool) (es : List Entry) (e : Entry) → is_unused e ≡ false → AreSpaced b es → AreSpaced b (es ++ spaced e)
unfolding spaced_by
are_spaced true [] e used s = absurd s
are_spaced false [] e used s = are_spaced_by (is_wide e) e refl used
are_spaced true (x ∷ es) e used s = (s.0, are_spaced false es e used s.1)
are_spaced false (x ∷ es) e used s = (s.0, are_spaced (is_wide x) es e used s.1)

each_as : (P Q : Entry → Type 0) → ((e : Entry) → P e → Q e) → (es : List Entry) → AllByRecursion P es → AllByRecursion Q es
each_as P Q h [] all = tt
each_as P Q h (e ∷ es) all = (h e all.0, each_as P Q h es all.1)

more_right : (es : List Entry) (e : Entry) → ArePoolEntries es → IsFine (entries.Unused ∷ es) e → length (entries.Unused ∷ es) + length (spaced e) ≤ 65535 → ArePoolEntries (es ++ spaced e)
unfolding spaced_by
more_right es e right fine room =
    let len = length-append es (spaced e) in
    let pool = entries.Unused ∷ es in
    let all = entries.Unused ∷ (es ++ spaced e) in
    record {
      few = omega (arith, len, room);
      spaced = are_spaced false es e fine.used right.spaced;
      fit = each_in_append EntryFits es (spaced e) right.fit (each_spaced EntryFits (is_wide e) e fine.fits tt);
      refer = each_in_append (λ (x : Entry). IsTrue (refers_rightly all x)) es (spaced e)
          (each_as (λ (x : Entry). IsTrue (refers_rightly pool x)) (λ (x : Entry). IsTrue (refers_rightly all x)) (refers_stays pool (spaced e)) es right.refer)
          (each_spaced (λ (x : Entry). IsTrue (refers_rightly all x)) (is_wide e) e (refers_stays pool (spaced e) e fine.refers) refl);
    }

pub pool_more : (pool : List Entry) (e : Entry) → IsPool pool → IsFine pool e → length pool + length (spaced e) ≤ 65535 → IsPool (pool ++ spaced e)
unfolding spaced_by
pool_more pool e is fine room =
    let len = ap length is.first in
    record {
      es = is.es ++ spaced e;
      first = ap (λ (l : List Entry). l ++ spaced e) is.first;
      right = more_right is.es e is.right (subst (λ (l : List Entry). IsFine l e) is.first fine) (omega (arith, len, room));
      inside = sym (position_none is_of_modules pool (spaced e) (sym is.inside) (none_spaced (is_wide e) e fine.inside));
    }

-- ---- an entry that was entered

-- a pool that grew
pub record Grown (pool more : List Entry) : Type 0 where
  pub rest : List Entry
  pub parts : more ≡ pool ++ rest
  pub right : IsPool more

pub grown_self : (pool : List Entry) → IsPool pool → Grown pool pool
grown_self pool is = record { rest = []; parts = sym (append-nil pool); right = is }

pub grown_then : (a b c : List Entry) → Grown a b → Grown b c → Grown a c
grown_then a b c g h = record { rest = g.rest ++ h.rest; parts = h.parts ∙ (ap (λ (l : List Entry). l ++ h.rest) g.parts ∙ append_assoc a g.rest h.rest); right = h.right }

pub still : {A : Type 0} (f : Option Entry → Option A) (a b : List Entry) → Grown a b → (i : ℕ) (y : A) → f None ≡ None → f (slice_get a i) ≡ Some y → f (slice_get b i) ≡ Some y
still f a b g i y n e = subst (λ (l : List Entry). f (slice_get l i) ≡ Some y) (sym g.parts) (stays f a g.rest i y n e)

pub there_still : (a b : List Entry) → Grown a b → (i : ℕ) (x : Entry) → slice_get a i ≡ Some x → slice_get b i ≡ Some x
there_still a b g i x e = subst (λ (l : List Entry). slice_get l i ≡ Some x) (sym g.parts) (get_more a g.rest i x e)

pub few_of : (pool : List Entry) → IsPool pool → length pool < 65536
few_of pool is = let len = ap length is.first in let few = is.right.few in omega (arith, len, few)

pub small_index : (pool : List Entry) (i : ℕ) (x : Entry) → IsPool pool → slice_get pool i ≡ Some x → i < 65536
small_index pool i x is e = let w = slice_get_within pool i x e in let few = few_of pool is in omega (arith, w, few)

pub pair_is : (a b c d : ℕ) → (eqb a c && eqb b d) ≡ true → (a ≡ c) × (b ≡ d)
pair_is a b c d e = let h = and_parts (eqb a c) (eqb b d) e in (eqb-true a c h.0, eqb-true b d h.1)

same_is : (a b : Entry) → is_same a b ≡ true → a ≡ b
same_is (entries.Utf8 a) (entries.Utf8 b) e = ap (λ (t : List ℕ). entries.Utf8 t) ((bytes_decides a b).0 e)
same_is (entries.Integer a) (entries.Integer b) e = ap (λ (n : ℕ). entries.Integer n) (eqb-true a b e)
same_is (entries.Long a) (entries.Long b) e = ap (λ (n : ℕ). entries.Long n) (eqb-true a b e)
same_is (entries.Class a) (entries.Class b) e = ap (λ (n : ℕ). entries.Class n) (eqb-true a b e)
same_is (entries.String a) (entries.String b) e = ap (λ (n : ℕ). entries.String n) (eqb-true a b e)
same_is (entries.Field a b) (entries.Field c d) e = let h = pair_is a b c d e in ap₂ (λ (n m : ℕ). entries.Field n m) h.0 h.1
same_is (entries.Method a b) (entries.Method c d) e = let h = pair_is a b c d e in ap₂ (λ (n m : ℕ). entries.Method n m) h.0 h.1
same_is (entries.InterfaceMethod a b) (entries.InterfaceMethod c d) e = let h = pair_is a b c d e in ap₂ (λ (n m : ℕ). entries.InterfaceMethod n m) h.0 h.1
same_is (entries.NameAndType a b) (entries.NameAndType c d) e = let h = pair_is a b c d e in ap₂ (λ (n m : ℕ). entries.NameAndType n m) h.0 h.1
same_is _ _ e = absurd cc

pub record Entered (pool : List Entry) (e : Entry) (more : List Entry) (i : ℕ) : Type 0 where
  pub grown : Grown pool more
  pub there : slice_get more i ≡ Some e

at_end_is : (pool : List Entry) (e : Entry) (more : List Entry) (i : ℕ) → IsPool pool → IsFine pool e → at_end pool e ≡ Ok (more, i) → Entered pool e more i
unfolding spaced_by
at_end_is pool e more i is fine h =
    let g = guard_ok (ltb 65535 (length pool + length (spaced e))) _ (Ok (pool ++ spaced e, length pool)) (more, i) h in
    let room = ltb-false 65535 (length pool + length (spaced e)) g.0 in
    let same = ok_is (pool ++ spaced e, length pool) (more, i) g.1 in
    let begins = begins_by (is_wide e) e in
    let made : Entered pool e (pool ++ spaced e) (length pool) = record {
      grown = record { rest = spaced e; parts = refl; right = pool_more pool e is fine room };
      there = ap (λ (l : List Entry). slice_get (pool ++ l) (length pool)) begins.1 ∙ get_new pool e begins.0;
    } in
    subst (λ (x : List Entry × ℕ). Entered pool e x.0 x.1) same made

there_is : (pool : List Entry) (e : Entry) (o : Option ℕ) (more : List Entry) (i : ℕ) → position (is_same e) pool ≡ o → IsPool pool → IsFine pool e → there_or o pool e ≡ Ok (more, i) → Entered pool e more i
there_is pool e None more i place is fine h = at_end_is pool e more i is fine h
there_is pool e (Some j) more i place is fine h =
    let same = ok_is (pool, j) (more, i) h in
    let p = position_there (is_same e) pool j place in
    let made : Entered pool e pool j = record {
      grown = grown_self pool is;
      there = p.1 ∙ ap (λ (x : Entry). Some x) (sym (same_is e p.0 p.2));
    } in
    subst (λ (x : List Entry × ℕ). Entered pool e x.0 x.1) same made

pub is_entered : (pool : List Entry) (e : Entry) (more : List Entry) (i : ℕ) → IsPool pool → IsFine pool e → entered pool e ≡ Ok (more, i) → Entered pool e more i
unfolding entered
is_entered pool e more i is fine h = there_is pool e (position (is_same e) pool) more i refl is fine h

pub text_is_entered : (pool : List Entry) (t : List ℕ) (more : List Entry) (i : ℕ) → IsPool pool → IsUtf8 t → IsShort t → text_entered pool t ≡ Ok (more, i) → Entered pool (entries.Utf8 (utf16 t)) more i
text_is_entered pool t more i is utf8 short h = is_entered pool (entries.Utf8 (utf16 t)) more i is (record { fits = (utf16_units t utf8, short); refers = refl; inside = refl; used = refl }) h
