-- The bytes of one attribute, and of rows that are made of others.
use Rattle.std.proofs.Common.{◌≡◌, ℕ, List, [], ◌∷◌, ◌++◌, map, Result, Ok, Err, refl, sym, ap, ap₂, ◌∙◌, append_assoc}
use Rattle.std.specs.Prelude.{OnOk}
use Rattle.std.specs.List.{flat_map}
use Rattle.std.proofs.lemmas.List.{append-nil, length-map}
use Rattle.std.proofs.lemmas.List.Concat.{flat_map-cons}
use Rattle.jl_reading.specs.Reading.{two, counted}
use Rattle.jl_classfile.specs.Spelling.{Attribute, attribute_bytes}

-- one attribute, behind its count
pub one_attribute : (a : Attribute) → two 1 ++ attribute_bytes a ≡ counted attribute_bytes (a ∷ [])
one_attribute a = ap (λ (l : List ℕ). two 1 ++ l) (sym (flat_map-cons attribute_bytes a [] ∙ append-nil (attribute_bytes a)))

pub on_ok_as : {A E : Type 0} (r : Result A E) (before new one other : List ℕ) → one ≡ other → OnOk r (new ≡ before ++ one) → OnOk r (new ≡ before ++ other)
on_ok_as (Ok x) before new one other e h = h ∙ ap (λ (l : List ℕ). before ++ l) e
on_ok_as (Err f) before new one other e h = tt

rows_mapped : {A B : Type 0} (f : A → B) (g : B → List ℕ) (xs : List A) → flat_map g (map f xs) ≡ flat_map (λ x. g (f x)) xs
rows_mapped f g [] = refl
rows_mapped f g (x ∷ xs) = flat_map-cons g (f x) (map f xs) ∙ (ap (λ (l : List ℕ). g (f x) ++ l) (rows_mapped f g xs) ∙ sym (flat_map-cons (λ y. g (f y)) x xs))

-- rows that are made of others
pub counted_mapped : {A B : Type 0} (f : A → B) (g : B → List ℕ) (xs : List A) → counted g (map f xs) ≡ counted (λ x. g (f x)) xs
counted_mapped f g xs = ap₂ (λ (n : ℕ) (l : List ℕ). two n ++ l) (length-map xs f) (rows_mapped f g xs)

-- three texts behind what was there
pub three_pushed : {A E : Type 0} (r : Result A E) (before first second new a b c : List ℕ) → first ≡ before ++ a → second ≡ first ++ b → OnOk r (new ≡ second ++ c) → OnOk r (new ≡ before ++ (a ++ (b ++ c)))
three_pushed (Ok x) before first second new a b c e f h =
    h ∙ (ap (λ (l : List ℕ). l ++ c) (f ∙ ap (λ (l : List ℕ). l ++ b) e) ∙ (append_assoc (before ++ a) b c ∙ append_assoc before a (b ++ c)))
three_pushed (Err f) before first second new a b c e g h = tt
