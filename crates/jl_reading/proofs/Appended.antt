-- Readings under bytes that follow: numbers, and readings that are made of others.
use Rattle.std.proofs.Common.{◌≡◌, ℕ, zero, suc, ◌+◌, ◌<◌, ◌≤◌, Bool, true, false, cond, ltb, List, [], ◌∷◌, ◌++◌, length, take, drop, Option, None, Some, Result, Ok, Err, refl, sym, ap, subst, ◌∙◌, arith, inl, inr}
use Rattle.std.specs.Prelude.{◌⊎◌, MatchOption, ⊤, replicate}
use Rattle.std.proofs.lemmas.Bool.{cases_lt, le-ltb, lt-ltb}
use Rattle.std.proofs.lemmas.List.{length-append, length-replicate, take-append-le, drop-take, get_or-replicate, get_or_past}
use Rattle.byteorder.specs.Endian.{big_number}
use Rattle.byteorder.specs.Numbers.{big_from-take}
use Rattle.jl_reading.specs.Reading.{◌>>=◌, number_at, each_at, steps_at, IsBytes}
use Rattle.jl_reading.specs.Appended.{IsPast, GoesPast, Stays, NoPart, Appends}
use Rattle.jl_reading.proofs.Steps.{bind_ok, ok_is}

-- zeros that may follow
pub zeros_are_bytes : (n : ℕ) → IsBytes (replicate n 0)
zeros_are_bytes n i =
    elim (cases_lt i n) [
      | inl lt ↦ rw (get_or-replicate {A = ℕ} n i 0 0 lt) (omega arith)
      | inr le ↦ rw (get_or_past {X = ℕ} (replicate n 0) i 0 (omega (arith, length-replicate {A = ℕ} n 0))) (omega arith)
    ]

abbrev pub failed : {X F : Type 0} → F → Result X F
failed f = Err f

pub err_is : {X F : Type 0} (f g : F) → failed {X = X} f ≡ failed g → f ≡ g
err_is f g e = cc

pub not_both : {X F : Type 0} {C : Type 0} (x : X) (f : F) → Ok x ≡ Err f → C
not_both x f e = absurd cc

-- a step that failed, or the one behind it
pub bind_err : {A B F : Type 0} (r : Result A F) (f : A → Result B F) (d : F) → (r >>= f) ≡ Err d → (r ≡ Err d) ⊎ ((x : A) × (r ≡ Ok x) × (f x ≡ Err d))
bind_err (Ok x) f d e = inr (x, refl, e)
bind_err (Err c) f d e = inl (ap (λ (g : _). Err g) (err_is c d e))

-- a step that gives a value, and what the rest comes to
pub bind_as : {A B F : Type 0} {r : Result A F} {x : A} {z : Result B F} (f : A → Result B F) → r ≡ Ok x → f x ≡ z → (r >>= f) ≡ z
bind_as f e g = rw e g

pub bind_fails : {A B F : Type 0} {r : Result A F} {d : F} (f : A → Result B F) → r ≡ Err d → (r >>= f) ≡ Err d
bind_fails f e = rw e refl

module _ {F : Type 0} (cut_at : F → Option ℕ) (Windows : List ℕ → ℕ → Type 0) where
  -- a reading that is the same on all bytes
  pub appends_as : {X : Type 0} (next : X → ℕ) (start : ℕ) (f g : List ℕ → Result X F) → ((bytes : List ℕ) → f bytes ≡ g bytes) → Appends cut_at next Windows start f → Appends cut_at next Windows start g
  appends_as next start f g same a = subst (λ (h : List ℕ → Result _ F). Appends cut_at next Windows start h) (λ i bytes. same bytes i) a

  -- a value without reading
  pub given_appends : {X : Type 0} (next : X → ℕ) (start : ℕ) (x : X) → next x ≡ start → Appends cut_at next Windows start (λ (bytes : List ℕ). Ok x)
  given_appends next start x e = record {
    read = λ bytes y le is. let n = ap next (ok_is x y is) in (omega (arith, n, e), omega (arith, n, e, le), λ more. refl);
    fault = λ bytes f le is none. not_both x f is;
    cut = λ bytes f p le is some. not_both x f is;
  }

  no_place : {C : Type 0} (f : F) (p : ℕ) → cut_at f ≡ None → cut_at f ≡ Some p → C
  no_place f p none some = absurd cc

  -- a fault without reading
  pub fault_appends : {X : Type 0} (next : X → ℕ) (start : ℕ) (f : F) → cut_at f ≡ None → Appends cut_at next Windows start (λ (bytes : List ℕ). failed {X = X} f)
  fault_appends next start f none = record {
    read = λ bytes y le is. not_both y f (sym is);
    fault = λ bytes g le is no more. refl;
    cut = λ bytes g p le is some. no_place f p none (ap cut_at (err_is f g is) ∙ some);
  }

  -- one of two readings
  pub cond_appends : {X : Type 0} (next : X → ℕ) (start : ℕ) (b : Bool) (f g : List ℕ → Result X F) → Appends cut_at next Windows start f → Appends cut_at next Windows start g
      → Appends cut_at next Windows start (λ bytes. cond b (f bytes) (g bytes))
  cond_appends next start true f g a b = a
  cond_appends next start false f g a b = b

  -- what is read from a place behind another is read past that
  pub past_fault : {p : ℕ} (f : F) (o : Option ℕ) → cut_at f ≡ o → ((q : ℕ) → cut_at f ≡ Some q → p < q) → MatchOption (cut_at f) ⊤ (λ q. p < q)
  past_fault {p} f None e h = subst (λ (o : Option ℕ). MatchOption o ⊤ (λ q. p < q)) (sym e) tt
  past_fault {p} f (Some q) e h = subst (λ (o : Option ℕ). MatchOption o ⊤ (λ q. p < q)) (sym e) (h q e)

  pub starts_past : {X : Type 0} (In : List ℕ → ℕ → Type 0) (next : X → ℕ) (start p : ℕ) (f : List ℕ → Result X F) → Appends cut_at next In start f → p < start
      → (bytes : List ℕ) (r : Result X F) → start ≤ length bytes → f bytes ≡ r → IsPast cut_at next p r
  starts_past In next start p f a lt bytes (Ok x) le e = let w = (a.read bytes x le e).0 in omega (arith, w, lt)
  starts_past In next start p f a lt bytes (Err d) le e = past_fault {p = p} d (cut_at d) refl (λ q some. let w = (a.cut bytes d q le e some).0 in omega (arith, w, lt))

  -- a reading, and another from its end on
  past_bind : {X Y : Type 0} (In : X → List ℕ → ℕ → Type 0) (next : X → ℕ) (then : Y → ℕ) (start p : ℕ) (f : List ℕ → Result X F) (g : X → List ℕ → Result Y F)
      → Appends cut_at next Windows start f → ((x : X) → Appends cut_at then (In x) (next x) (g x))
      → (bytes : List ℕ) (r : Result X F) → start ≤ length bytes → f bytes ≡ r → IsPast cut_at next p r → IsPast cut_at then p (r >>= λ x. g x bytes)
  past_bind In next then start p f g a b bytes (Ok x) le e past = starts_past (In x) then (next x) p (g x) (b x) past bytes (g x bytes) (a.read bytes x le e).1 refl
  past_bind In next then start p f g a b bytes (Err d) le e past = past

  -- likewise, where the parts of the second are known by what the first read
  pub bind_within : {X Y : Type 0} (In : X → List ℕ → ℕ → Type 0) (next : X → ℕ) (then : Y → ℕ) (start : ℕ) (f : List ℕ → Result X F) (g : X → List ℕ → Result Y F)
      → ((bytes : List ℕ) (x : X) (p : ℕ) → f bytes ≡ Ok x → In x bytes p → Windows bytes p)
      → Appends cut_at next Windows start f → ((x : X) → Appends cut_at then (In x) (next x) (g x))
      → Appends cut_at then Windows start (λ bytes. f bytes >>= λ x. g x bytes)
  bind_within In next then start f g inside a b = record {
    read = λ bytes y le e.
        let o = bind_ok (f bytes) (λ x. g x bytes) y e in
        let first = a.read bytes o.0 le o.1 in
        let second = (b o.0).read bytes y first.1 o.2 in (
          omega (arith, first.0, second.0),
          second.1,
          λ more. bind_as (λ x. g x (bytes ++ more)) (first.2 more ∙ o.1) (second.2 more ∙ o.2) ∙ sym e,
        );
    fault = λ bytes d le e none.
        elim (bind_err (f bytes) (λ x. g x bytes) d e) [
          | inl h ↦ λ more. bind_fails (λ x. g x (bytes ++ more)) (a.fault bytes d le h none more ∙ h) ∙ sym e
          | inr o ↦
              let first = a.read bytes o.0 le o.1 in
              λ more. bind_as (λ x. g x (bytes ++ more)) (first.2 more ∙ o.1) ((b o.0).fault bytes d first.1 o.2 none more ∙ o.2) ∙ sym e
        ];
    cut = λ bytes d p le e some.
        elim (bind_err (f bytes) (λ x. g x bytes) d e) [
          | inl h ↦
              let c = a.cut bytes d p le h some in (
                c.0,
                c.1,
                elim c.2 [
                  | inl goes ↦ inl (
                    goes.0,
                    goes.1,
                    past_bind In next then start p f g a b (bytes ++ goes.0) (f (bytes ++ goes.0)) (omega (arith, le, length-append bytes goes.0)) refl goes.2,
                  )
                  | inr w ↦ inr (w.0, λ more. bind_fails (λ x. g x (bytes ++ more)) (w.1 more ∙ h) ∙ sym e)
                ],
              )
          | inr o ↦
              let first = a.read bytes o.0 le o.1 in
              let c = (b o.0).cut bytes d p first.1 o.2 some in (
                omega (arith, first.0, c.0),
                c.1,
                elim c.2 [
                  | inl goes ↦ inl (
                    goes.0,
                    goes.1,
                    subst (λ (r : Result _ F). IsPast cut_at then p (r >>= λ x. g x (bytes ++ goes.0))) (sym (first.2 goes.0 ∙ o.1)) goes.2,
                  )
                  | inr w ↦ inr (inside bytes o.0 p o.1 w.0, λ more. bind_as (λ x. g x (bytes ++ more)) (first.2 more ∙ o.1) (w.1 more ∙ o.2) ∙ sym e)
                ],
              )
        ];
  }

  pub bind_appends : {X Y : Type 0} (next : X → ℕ) (then : Y → ℕ) (start : ℕ) (f : List ℕ → Result X F) (g : X → List ℕ → Result Y F)
      → Appends cut_at next Windows start f → ((x : X) → Appends cut_at then Windows (next x) (g x))
      → Appends cut_at then Windows start (λ bytes. f bytes >>= λ x. g x bytes)
  bind_appends next then start f g a b = bind_within (λ x. Windows) next then start f g (λ bytes x p e w. w) a b

  -- so many units, one after the other
  pub each_appends : {X : Type 0} (one : List ℕ → List X → ℕ → Result (X × ℕ) F) → ((done : List X) (at : ℕ) → Appends cut_at (λ (x : X × ℕ). x.1) Windows at (λ bytes. one bytes done at))
      → (n : ℕ) (done : List X) (at : ℕ) → Appends cut_at (λ (x : List X × ℕ). x.1) Windows at (λ bytes. each_at (one bytes) done n at)
  unfolding each_at
  each_appends one law zero done at = given_appends (λ (x : List _ × ℕ). x.1) at (done, at) refl
  each_appends one law (suc n) done at =
      bind_appends (λ (x : _ × ℕ). x.1) (λ (x : List _ × ℕ). x.1) at (λ bytes. one bytes done at) (λ x bytes. each_at (one bytes) (done ++ x.0 ∷ []) n x.1) (law done at)
      (λ x. each_appends one law n (done ++ x.0 ∷ []) x.1)

  -- so many steps, one after the other
  pub steps_appends : {S : Type 0} (one : List ℕ → S → ℕ → Result (S × ℕ) F) → ((done : S) (at : ℕ) → Appends cut_at (λ (x : S × ℕ). x.1) Windows at (λ bytes. one bytes done at))
      → (n : ℕ) (done : S) (at : ℕ) → Appends cut_at (λ (x : S × ℕ). x.1) Windows at (λ bytes. steps_at (one bytes) n done at)
  unfolding steps_at
  steps_appends one law zero done at = given_appends (λ (x : _ × ℕ). x.1) at (done, at) refl
  steps_appends one law (suc n) done at =
      bind_appends (λ (x : _ × ℕ). x.1) (λ (x : _ × ℕ). x.1) at (λ bytes. one bytes done at) (λ x bytes. steps_at (one bytes) n x.0 x.1) (law done at)
      (λ x. steps_appends one law n x.0 x.1)

  -- ---- numbers, and parts of a length

  whole_or : {X : Type 0} (bytes : List ℕ) (start n : ℕ) (short : F) (r : Result X F) → (start + n ≤ length bytes → cond (ltb (length bytes) (start + n)) (Err short) r ≡ r)
      × (length bytes < start + n → cond (ltb (length bytes) (start + n)) (Err short) r ≡ Err short)
  whole_or bytes start n short r = ((λ le. rw (le-ltb _ _ le) refl), (λ lt. rw (lt-ltb _ _ lt) refl))

  place_is : (f : F) (p q : ℕ) → cut_at f ≡ Some p → cut_at f ≡ Some q → p ≡ q
  place_is f p q a b = cc

  -- A part of n bytes from a place on, of which a reader answers that sees the bytes up to its end alone. Of fewer than k bytes it cannot read the first number.
  pub record ReadsPart {X : Type 0} (next : X → ℕ) (short : ℕ → F) (start n k : ℕ) (part : List ℕ → Result X F) : Type 0 where
    pub read : (bytes : List ℕ) (x : X) → start + n ≤ length bytes → part (take (start + n) bytes) ≡ Ok x → next x ≡ start + n
    pub cut : (bytes : List ℕ) (f : F) (p : ℕ) → start + n ≤ length bytes → part (take (start + n) bytes) ≡ Err f → cut_at f ≡ Some p → Windows bytes p × (start ≤ p) × (p ≤ start + n)
    pub few : (bytes : List ℕ) → start ≤ length bytes → n < k → Windows bytes start
    pub less : (bytes : List ℕ) → start + n ≤ length bytes → n < k → part (take (start + n) bytes) ≡ Err (short start)
    pub enough : (bytes : List ℕ) → start + n ≤ length bytes → 0 < n → k ≤ n → IsPast cut_at next start (part (take (start + n) bytes))

  module _ {X : Type 0} (next : X → ℕ) (short : ℕ → F) (places : (p : ℕ) → cut_at (short p) ≡ Some p) (start n k : ℕ) (part : List ℕ → Result X F) (law : ReadsPart next short start n k part) where
    abbrev reading : List ℕ → Result X F
    reading bytes = cond (ltb (length bytes) (start + n)) (Err (short start)) (part (take (start + n) bytes))

    there : (bytes : List ℕ) → start + n ≤ length bytes → reading bytes ≡ part (take (start + n) bytes)
    there bytes le = (whole_or bytes start n (short start) (part (take (start + n) bytes))).0 le

    gone : (bytes : List ℕ) → length bytes < start + n → reading bytes ≡ Err (short start)
    gone bytes lt = (whole_or bytes start n (short start) (part (take (start + n) bytes))).1 lt

    longer : (bytes more : List ℕ) → start + n ≤ length bytes → start + n ≤ length (bytes ++ more)
    longer bytes more le = omega (arith, le, length-append bytes more)

    stays : (bytes : List ℕ) → start + n ≤ length bytes → Stays reading bytes
    stays bytes le more = there (bytes ++ more) (longer bytes more le) ∙ ap part (take-append-le (start + n) bytes more le) ∙ sym (there bytes le)

    all_short : (bytes : List ℕ) → length bytes < start + n → n < k → (more : List ℕ) → reading (bytes ++ more) ≡ Err (short start)
    all_short bytes lt few more = elim (cases_lt (length (bytes ++ more)) (start + n)) [
      | inl l ↦ gone (bytes ++ more) l
      | inr l ↦ there (bytes ++ more) l ∙ law.less (bytes ++ more) l few
    ]

    filled : (bytes : List ℕ) → start ≤ length bytes → start + n ≤ length (bytes ++ replicate n 0)
    filled bytes le = omega (arith, le, length-append bytes (replicate n 0), length-replicate {A = ℕ} n 0)

    cut_here : (bytes : List ℕ) → start ≤ length bytes → length bytes < start + n → GoesPast cut_at next reading bytes start ⊎ (Windows bytes start × Stays reading bytes)
    cut_here bytes le lt = elim (cases_lt n k) [
      | inl few ↦ inr (law.few bytes le few, λ more. all_short bytes lt few more ∙ sym (gone bytes lt))
      | inr fits ↦ inl (
        replicate n 0,
        zeros_are_bytes n,
        subst (λ (r : Result X F). IsPast cut_at next start r) (sym (there (bytes ++ replicate n 0) (filled bytes le))) (law.enough (bytes ++ replicate n 0) (filled bytes le) (omega (arith, le, lt)) fits),
      )
    ]

    pub part_appends : Appends cut_at next Windows start reading
    part_appends = record {
      read = λ bytes x le e.
          elim (cases_lt (length bytes) (start + n)) [
            | inl lt ↦ not_both x (short start) (sym e ∙ gone bytes lt)
            | inr w ↦ let n = law.read bytes x w (sym (there bytes w) ∙ e) in (omega (arith, n), omega (arith, n, w), stays bytes w)
          ];
      fault = λ bytes f le e none.
          elim (cases_lt (length bytes) (start + n)) [
            | inl lt ↦ no_place (short start) start (ap cut_at (err_is (short start) f (sym (gone bytes lt) ∙ e)) ∙ none) (places start)
            | inr w ↦ stays bytes w
          ];
      cut = λ bytes f p le e some.
          elim (cases_lt (length bytes) (start + n)) [
            | inl lt ↦
                let same = place_is (short start) start p (places start) (ap cut_at (err_is (short start) f (sym (gone bytes lt) ∙ e)) ∙ some) in
                (omega (arith, same), omega (arith, same, le), subst (λ (q : ℕ). GoesPast cut_at next reading bytes q ⊎ (Windows bytes q × Stays reading bytes)) same (cut_here bytes le lt))
            | inr w ↦ let c = law.cut bytes f p w (sym (there bytes w) ∙ e) some in (c.1, omega (arith, c.2, w), inr (c.0, stays bytes w))
          ];
    }

  -- a number of so many bytes
  pub number_appends : (short : ℕ → F) → ((p : ℕ) → cut_at (short p) ≡ Some p) → (k start : ℕ) → Appends cut_at (λ (x : ℕ × ℕ). x.1) Windows start (λ bytes. number_at short k bytes start)
  number_appends short places k start =
      let part : List ℕ → Result (ℕ × ℕ) F = λ window. Ok (big_number k (drop start window), start + k) in
      let law : ReadsPart (λ (x : ℕ × ℕ). x.1) short start k 0 part = record {
        read = λ bytes x le e. sym (ap (λ (x : ℕ × ℕ). x.1) (ok_is (big_number k (drop start (take (start + k) bytes)), start + k) x e));
        cut = λ bytes f p le e some. not_both (big_number k (drop start (take (start + k) bytes)), start + k) f e;
        few = λ bytes le few. absurd (omega (arith, few));
        less = λ bytes le few. absurd (omega (arith, few));
        enough = λ bytes le pos few. omega (arith, pos);
      } in
      appends_as (λ (x : ℕ × ℕ). x.1) start (λ bytes. cond (ltb (length bytes) (start + k)) (Err (short start)) (part (take (start + k) bytes))) (λ bytes. number_at short k bytes start)
      (λ bytes. ap (λ (n : ℕ). cond (ltb (length bytes) (start + k)) (Err (short start)) (Ok (n, start + k))) (ap (big_number k) (drop-take start k bytes) ∙ big_from-take 0 k k (drop start bytes) (omega arith)))
      (part_appends (λ (x : ℕ × ℕ). x.1) short places start k 0 part law)

-- the same reading, where faults are those of another type
pub mapped_appends : {X F G : Type 0} (cut_at : F → Option ℕ) (cut_in : G → Option ℕ) (Windows : List ℕ → ℕ → Type 0) (next : X → ℕ) (start : ℕ) (f : List ℕ → Result X F) (m : Result X F → Result X G) (h : F → G)
    → ((x : X) → m (Ok x) ≡ Ok x) → ((d : F) → m (Err d) ≡ Err (h d)) → ((d : F) → cut_in (h d) ≡ cut_at d)
    → Appends cut_at next Windows start f → Appends cut_in next Windows start (λ bytes. m (f bytes))
mapped_appends {X} {F} {G} cut_at cut_in Windows next start f m h good bad same a = record {
  read = λ bytes x le e. let r = a.read bytes x le (was_read (f bytes) x e) in (r.0, r.1, λ more. ap m (r.2 more));
  fault = λ bytes g le e none more. let o = was_fault (f bytes) g e in ap m (a.fault bytes o.0 le o.1 (sym (same o.0) ∙ (ap cut_in o.2 ∙ none)) more);
  cut = λ bytes g p le e some.
      let o = was_fault (f bytes) g e in
      let c = a.cut bytes o.0 p le o.1 (sym (same o.0) ∙ (ap cut_in o.2 ∙ some)) in (
        c.0,
        c.1,
        elim c.2 [
          | inl goes ↦ inl (goes.0, goes.1, past p (f (bytes ++ goes.0)) goes.2)
          | inr w ↦ inr (w.0, λ more. ap m (w.1 more))
        ],
      );
}
  where
    was_read : (r : Result X F) (x : X) → m r ≡ Ok x → r ≡ Ok x
    was_read (Ok y) x e = ap (λ (z : X). Ok z) (ok_is y x (sym (good y) ∙ e))
    was_read (Err d) x e = not_both x (h d) (sym e ∙ bad d)

    was_fault : (r : Result X F) (g : G) → m r ≡ Err g → (d : F) × (r ≡ Err d) × (h d ≡ g)
    was_fault (Ok y) g e = not_both y g (sym (good y) ∙ e)
    was_fault (Err d) g e = (d, refl, err_is (h d) g (sym (bad d) ∙ e))

    past : (p : ℕ) (r : Result X F) → IsPast cut_at next p r → IsPast cut_in next p (m r)
    past p (Ok y) i = subst (λ (r : Result X G). IsPast cut_in next p r) (sym (good y)) i
    past p (Err d) i = subst (λ (r : Result X G). IsPast cut_in next p r) (sym (bad d)) (subst (λ (o : Option ℕ). MatchOption o ⊤ (λ q. p < q)) (sym (same d)) i)

-- a reading without parts of a length, among readings with them
pub widened_appends : {X F : Type 0} (cut_at : F → Option ℕ) (Windows : List ℕ → ℕ → Type 0) (next : X → ℕ) (start : ℕ) (f : List ℕ → Result X F) → Appends cut_at next NoPart start f → Appends cut_at next Windows start f
widened_appends cut_at Windows next start f a = record {
  read = a.read;
  fault = a.fault;
  cut = λ bytes d p le e some.
      let c = a.cut bytes d p le e some in (
        c.0,
        c.1,
        elim c.2 [
          | inl goes ↦ inl goes
          | inr w ↦ absurd w.0
        ],
      );
}
