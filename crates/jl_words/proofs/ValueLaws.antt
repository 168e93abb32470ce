-- Values of options and operands: that reading them finds what their texts mean.
use Rattle.std.proofs.Common.{◌≡◌, ℕ, zero, suc, ◌<◌, ◌^◌, ◌==◌, nat_lt, List, [], ◌∷◌, ◌++◌, Bool, true, false, cond, ◌&&◌, Option, None, Some, option_map, refl, sym, ap, subst, ◌∙◌, arith}
use Rattle.std.specs.List.{list_all}
use Rattle.std.proofs.lemmas.Bool.{eqb-true, true≢false, ltb-true, lt-ltb, and_parts}
use Rattle.std.proofs.lemmas.Option.{none-some, same_Some}
use Rattle.jl_names.specs.Dots.{slashed}
use Rattle.jl_prim.specs.Names.{names_a_module, is_in_module_names}
use Rattle.jl_words.specs.declared.command.Added.{Added}
use Rattle.jl_words.specs.declared.command.Added.TheVariants.{Reads, Exports, Opens}
use Rattle.jl_words.specs.declared.setting.Setting.{Setting}
use Rattle.jl_words.specs.declared.setting.Setting.TheVariants as settings
use Rattle.jl_words.specs.Values.{are_digits, spelled, number_of, is_typed_package, is_typed_class, IsNumber, IsReads, IsGranted, IsAdded, IsTarget}
use Rattle.jl_words.specs.Reading.{parted, parted_last, reads_of, granted_of, added_of, target_of}
use Rattle.jl_words.proofs.Cutting.{Lacks, parted_none, parted_some, last_some}

pub whole : (c : ℕ) (text : List ℕ) (x : List ℕ × List ℕ) → parted c text ≡ Some x → text ≡ x.0 ++ c ∷ x.1
unfolding parted
whole c [] x e = absurd (none-some x e)
whole c (b ∷ bs) x e = by (b == c) refl (parted c bs) (whole c bs) e
  where
    later : (r : Option (List ℕ × List ℕ)) → ((y : List ℕ × List ℕ) → r ≡ Some y → bs ≡ y.0 ++ c ∷ y.1) → option_map (λ y. (b ∷ y.0, y.1)) r ≡ Some x → b ∷ bs ≡ x.0 ++ c ∷ x.1
    later None ih e = absurd (none-some x e)
    later (Some y) ih e = subst (λ z. b ∷ bs ≡ z.0 ++ c ∷ z.1) (same_Some (b ∷ y.0, y.1) x e) (ap (λ l. b ∷ l) (ih y refl))

    by : (t : Bool) → (b == c) ≡ t → (r : Option (List ℕ × List ℕ)) → ((y : List ℕ × List ℕ) → r ≡ Some y → bs ≡ y.0 ++ c ∷ y.1) → cond t (Some ([], bs)) (option_map (λ y. (b ∷ y.0, y.1)) r) ≡ Some x → b ∷ bs ≡ x.0 ++ c ∷ x.1
    by true is r ih e = subst (λ z. b ∷ bs ≡ z.0 ++ c ∷ z.1) (same_Some ([], bs) x e) (ap (λ d. d ∷ bs) (eqb-true b c is))
    by false is r ih e = later r ih e

last_later : (c b : ℕ) (bs : List ℕ) (y : List ℕ × List ℕ) → parted_last c bs ≡ Some y → parted_last c (b ∷ bs) ≡ Some (b ∷ y.0, y.1)
unfolding parted_last
last_later c b bs y e = rw e refl

last_here : (c b : ℕ) (bs : List ℕ) → parted_last c bs ≡ None → parted_last c (b ∷ bs) ≡ cond (b == c) (Some ([], bs)) None
unfolding parted_last
last_here c b bs e = rw e refl

last_empty : (c : ℕ) → parted_last c [] ≡ None
unfolding parted_last
last_empty c = refl

pub whole_last : (c : ℕ) (text : List ℕ) (x : List ℕ × List ℕ) → parted_last c text ≡ Some x → text ≡ x.0 ++ c ∷ x.1
whole_last c [] x e = absurd (none-some x (sym (last_empty c) ∙ e))
whole_last c (b ∷ bs) x e = by (parted_last c bs) refl (whole_last c bs)
  where
    here : (t : Bool) → (b == c) ≡ t → cond t (Some ([], bs)) None ≡ Some x → b ∷ bs ≡ x.0 ++ c ∷ x.1
    here true is e = subst (λ z. b ∷ bs ≡ z.0 ++ c ∷ z.1) (same_Some ([], bs) x e) (ap (λ d. d ∷ bs) (eqb-true b c is))
    here false is e = absurd (none-some x e)

    by : (r : Option (List ℕ × List ℕ)) → parted_last c bs ≡ r → ((y : List ℕ × List ℕ) → parted_last c bs ≡ Some y → bs ≡ y.0 ++ c ∷ y.1) → b ∷ bs ≡ x.0 ++ c ∷ x.1
    by (Some y) is ih = subst (λ z. b ∷ bs ≡ z.0 ++ c ∷ z.1) (same_Some (b ∷ y.0, y.1) x (sym (last_later c b bs y is) ∙ e)) (ap (λ l. b ∷ l) (ih y is))
    by None is ih = here (b == c) refl (sym (last_here c b bs is) ∙ e)

-- a reserved byte stands in no module name
pub names_lack : (c : ℕ) (name : List ℕ) → is_in_module_names c ≡ false → list_all is_in_module_names name ≡ true → Lacks c name
names_lack c [] out all i l = absurd (omega (arith, l))
names_lack c (b ∷ bs) out all zero l = λ e. absurd (true≢false (sym (and_parts (is_in_module_names b) _ all).0 ∙ ap is_in_module_names e ∙ out))
names_lack c (b ∷ bs) out all (suc i) l = names_lack c bs out (and_parts (is_in_module_names b) _ all).1 i (omega (arith, l))

pub module_lacks : (c : ℕ) (name : List ℕ) → is_in_module_names c ≡ false → names_a_module name ≡ true → Lacks c name
module_lacks c name out named = names_lack c name out (and_parts _ _ named).1

-- ---- numbers

pub number_is : (text : List ℕ) (n : ℕ) → number_of text ≡ Some n → IsNumber text n
number_is text n e = by (are_digits text && nat_lt (spelled 0 text) (2 ^ 64)) refl e
  where
    by : (t : Bool) → (are_digits text && nat_lt (spelled 0 text) (2 ^ 64)) ≡ t → cond t (Some (spelled 0 text)) None ≡ Some n → IsNumber text n
    by true is e =
        let parts = and_parts (are_digits text) _ is in
        let same : spelled 0 text ≡ n = same_Some _ n e in
        record { digits = parts.0; value = sym same; fits = subst (λ m. m < 2 ^ 64) same (ltb-true _ _ parts.1) }
    by false is e = absurd (none-some n e)

pub number_found : (text : List ℕ) (n : ℕ) → IsNumber text n → number_of text ≡ Some n
number_found text n is =
    let small : nat_lt (spelled 0 text) (2 ^ 64) ≡ true = lt-ltb _ _ (subst (λ m. m < 2 ^ 64) is.value is.fits) in
    rw (is.digits, small) (ap Some (sym is.value))

-- ---- added facts

reads_none : (value : List ℕ) → parted 61 value ≡ None → reads_of value ≡ None
reads_none value e = rw e refl

reads_some : (value : List ℕ) (x : List ℕ × List ℕ) → parted 61 value ≡ Some x → reads_of value ≡ cond (names_a_module x.0 && names_a_module x.1) (Some (Reads x.0 x.1)) None
reads_some value x e = rw e refl

reads_is : (value : List ℕ) (a : Added) → reads_of value ≡ Some a → IsAdded settings.AddReads value a
reads_is value a e = by (parted 61 value) refl
  where
    fits : (x : List ℕ × List ℕ) → parted 61 value ≡ Some x → (t : Bool) → (names_a_module x.0 && names_a_module x.1) ≡ t → cond t (Some (Reads x.0 x.1)) None ≡ Some a → IsAdded settings.AddReads value a
    fits x is true named e = subst (IsAdded settings.AddReads value) (same_Some _ a e) (record { text = whole 61 value x is; names = named })
    fits x is false named e = absurd (none-some a e)

    by : (r : Option (List ℕ × List ℕ)) → parted 61 value ≡ r → IsAdded settings.AddReads value a
    by None is = absurd (none-some a (sym (reads_none value is) ∙ e))
    by (Some x) is = fits x is (names_a_module x.0 && names_a_module x.1) refl (sym (reads_some value x is) ∙ e)

reads_found : (value m n : List ℕ) → IsReads value m n → reads_of value ≡ Some (Reads m n)
reads_found value m n is =
    let cut : parted 61 value ≡ Some (m, n) = ap (parted 61) is.text ∙ parted_some 61 m n (module_lacks 61 m refl (and_parts _ _ is.names).0) in
    reads_some value (m, n) cut ∙ ap (λ t. cond t (Some (Reads m n)) None) is.names

module _ (made : List ℕ → List ℕ → List ℕ → Added) (value : List ℕ) where
  granted_none : parted 47 value ≡ None → granted_of made value ≡ None
  granted_none e = rw e refl

  granted_lost : (x : List ℕ × List ℕ) → parted 47 value ≡ Some x → parted_last 61 x.1 ≡ None → granted_of made value ≡ None
  granted_lost x e f = rw e (rw f refl)

  granted_some : (x y : List ℕ × List ℕ) → parted 47 value ≡ Some x → parted_last 61 x.1 ≡ Some y
      → granted_of made value ≡ cond (names_a_module x.0 && (is_typed_package y.0 && names_a_module y.1)) (Some (made x.0 (slashed y.0) y.1)) None
  granted_some x y e f = rw e (rw f refl)

  granted_is : (a : Added) → granted_of made value ≡ Some a → (m : List ℕ) × (p : List ℕ) × (n : List ℕ) × (made m p n ≡ a) × IsGranted value m p n
  granted_is a e = by (parted 47 value) refl
    where
      fits : (x y : List ℕ × List ℕ) → parted 47 value ≡ Some x → parted_last 61 x.1 ≡ Some y → (t : Bool) → (names_a_module x.0 && (is_typed_package y.0 && names_a_module y.1)) ≡ t → cond t (Some (made x.0 (slashed y.0) y.1)) None ≡ Some a
          → (m : List ℕ) × (p : List ℕ) × (n : List ℕ) × (made m p n ≡ a) × IsGranted value m p n
      fits x y is last true named e = (x.0, slashed y.0, y.1, same_Some _ a e, record { typed = y.0; text = whole 47 value x is ∙ ap (λ l. x.0 ++ 47 ∷ l) (whole_last 61 x.1 y last); internal = refl; names = named })
      fits x y is last false named e = absurd (none-some a e)

      inner : (x : List ℕ × List ℕ) → parted 47 value ≡ Some x → (r : Option (List ℕ × List ℕ)) → parted_last 61 x.1 ≡ r → (m : List ℕ) × (p : List ℕ) × (n : List ℕ) × (made m p n ≡ a) × IsGranted value m p n
      inner x is None last = absurd (none-some a (sym (granted_lost x is last) ∙ e))
      inner x is (Some y) last = fits x y is last (names_a_module x.0 && (is_typed_package y.0 && names_a_module y.1)) refl (sym (granted_some x y is last) ∙ e)

      by : (r : Option (List ℕ × List ℕ)) → parted 47 value ≡ r → (m : List ℕ) × (p : List ℕ) × (n : List ℕ) × (made m p n ≡ a) × IsGranted value m p n
      by None is = absurd (none-some a (sym (granted_none is) ∙ e))
      by (Some x) is = inner x is (parted_last 61 x.1) refl

  granted_found : (m p n : List ℕ) → IsGranted value m p n → granted_of made value ≡ Some (made m p n)
  granted_found m p n is =
      let named = and_parts (names_a_module m) _ is.names in
      let first : parted 47 value ≡ Some (m, is.typed ++ 61 ∷ n) = ap (parted 47) is.text ∙ parted_some 47 m (is.typed ++ 61 ∷ n) (module_lacks 47 m refl named.0) in
      let last : parted_last 61 (is.typed ++ 61 ∷ n) ≡ Some (is.typed, n) = last_some 61 is.typed n (module_lacks 61 n refl (and_parts _ _ named.1).1) in
      granted_some (m, is.typed ++ 61 ∷ n) (is.typed, n) first last ∙ ap (λ t. cond t (Some (made m (slashed is.typed) n)) None) is.names ∙ ap (λ q. Some (made m q n)) (sym is.internal)

pub added_is : (s : Setting) (value : List ℕ) (a : Added) → added_of s value ≡ Some a → IsAdded s value a
added_is settings.AddReads value a e = reads_is value a e
added_is settings.AddExports value a e = let g = granted_is Exports value a e in subst (IsAdded settings.AddExports value) g.3 g.4
added_is settings.AddOpens value a e = let g = granted_is Opens value a e in subst (IsAdded settings.AddOpens value) g.3 g.4
added_is _ value a e = absurd (none-some a e)

pub added_found : (s : Setting) (value : List ℕ) (a : Added) → IsAdded s value a → added_of s value ≡ Some a
added_found settings.AddReads value (Reads m n) is = reads_found value m n is
added_found settings.AddExports value (Exports m p n) is = granted_found Exports value m p n is
added_found settings.AddOpens value (Opens m p n) is = granted_found Opens value m p n is
added_found _ value a is = absurd is

-- ---- targets

target_none : (word : List ℕ) → parted 47 word ≡ None → target_of word ≡ cond (names_a_module word) (Some (word, None)) None
target_none word e = rw e refl

target_some : (word : List ℕ) (x : List ℕ × List ℕ) → parted 47 word ≡ Some x → target_of word ≡ cond (names_a_module x.0 && is_typed_class x.1) (Some (x.0, Some (slashed x.1))) None
target_some word x e = rw e refl

pub target_is : (word : List ℕ) (main : List ℕ × Option (List ℕ)) → target_of word ≡ Some main → IsTarget word main.0 main.1
target_is word main e = by (parted 47 word) refl
  where
    alone : (t : Bool) → names_a_module word ≡ t → cond t (Some (word, None)) None ≡ Some main → IsTarget word main.0 main.1
    alone true named e = subst (λ x. IsTarget word x.0 x.1) (same_Some (word, None) main e) (refl, named)
    alone false named e = absurd (none-some main e)

    fits : (x : List ℕ × List ℕ) → parted 47 word ≡ Some x → (t : Bool) → (names_a_module x.0 && is_typed_class x.1) ≡ t → cond t (Some (x.0, Some (slashed x.1))) None ≡ Some main → IsTarget word main.0 main.1
    fits x is true named e = subst (λ z. IsTarget word z.0 z.1) (same_Some (x.0, Some (slashed x.1)) main e) (x.1, whole 47 word x is, refl, named)
    fits x is false named e = absurd (none-some main e)

    by : (r : Option (List ℕ × List ℕ)) → parted 47 word ≡ r → IsTarget word main.0 main.1
    by None is = alone (names_a_module word) refl (sym (target_none word is) ∙ e)
    by (Some x) is = fits x is (names_a_module x.0 && is_typed_class x.1) refl (sym (target_some word x is) ∙ e)

pub target_found : (word m : List ℕ) (class : Option (List ℕ)) → IsTarget word m class → target_of word ≡ Some (m, class)
target_found word m None is =
    let named : names_a_module word ≡ true = ap names_a_module is.0 ∙ is.1 in
    target_none word (parted_none 47 word (module_lacks 47 word refl named)) ∙ ap (λ t. cond t (Some (word, None)) None) named ∙ ap (λ n. Some (n, None)) is.0
target_found word m (Some c) is =
    let cut : parted 47 word ≡ Some (m, is.0) = ap (parted 47) is.1 ∙ parted_some 47 m is.0 (module_lacks 47 m refl (and_parts _ _ is.3).0) in
    target_some word (m, is.0) cut ∙ ap (λ t. cond t (Some (m, Some (slashed is.0))) None) is.3 ∙ ap (λ k. Some (m, Some k)) (sym is.2)
