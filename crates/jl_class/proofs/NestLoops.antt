-- Parts of the attributes of a class, as they are read.
use Rattle.std.proofs.Common.{◌≡◌, ℕ, List, [], ◌∷◌, ◌++◌, Option, None, Some, Ok, refl, sym, ap, ◌∙◌, subst}
use Rattle.jl_classfile.specs.Attributes.{first_that, or_else}
use Rattle.jl_classfile.proofs.Slots.{first_that_push}
use Rattle.jl_reading.proofs.Steps.{bind_to}
use Rattle.jl_names.specs.Names.{names_a_field}
use Rattle.jl_pool.specs.declared.entry.Entry.{Entry}
use Rattle.jl_pool.specs.Pool.{text_that}
use Rattle.jl_class.specs.Faults.{cut_in}
use Rattle.jl_class.specs.Meaning.{describes_a_field}
use Rattle.jl_class.specs.Reading.{named_in, one_at, passing_reader, component_at}

-- a component, each part of which is read from the same bytes
pub component_from : (pool : List Entry) (place : ℕ) (bytes first second : List ℕ) (at a1 a2 a3 : ℕ) (name desc : List ℕ) (o : Option ℕ) → first ≡ bytes → second ≡ bytes
    → named_in place (text_that names_a_field pool) bytes at ≡ Ok (name, a1) → named_in place (text_that describes_a_field pool) first a1 ≡ Ok (desc, a2)
    → one_at passing_reader (cut_in place) pool second a2 ≡ Ok (o, a3) → component_at pool place bytes at ≡ Ok (tt, a3)
unfolding component_at
component_from pool place bytes first second at a1 a2 a3 name desc o e f r1 r2 r3 =
    bind_to _ r1 (bind_to _ (subst (λ b. named_in place (text_that describes_a_field pool) b a1 ≡ Ok (desc, a2)) e r2) (bind_to _ (subst (λ b. one_at passing_reader (cut_in place) pool b a2 ≡ Ok (o, a3)) f r3) refl))

-- one more value, which holds it or not
pub held_more : {V W : Type 0} (pick : V → Option W) (vs : List V) (v : V) (o : Option W) (w : Option W) → o ≡ first_that pick vs → pick v ≡ w → or_else o w ≡ first_that pick (vs ++ v ∷ [])
held_more pick vs v o w h e = ap (λ a. or_else a w) h ∙ ap (λ b. or_else (first_that pick vs) b) (sym e) ∙ sym (first_that_push pick vs v)

or_nothing : {W : Type 0} (o : Option W) → o ≡ or_else o None
or_nothing None = refl
or_nothing (Some w) = refl

pub held_still : {V W : Type 0} (pick : V → Option W) (vs : List V) (v : V) (o : Option W) → o ≡ first_that pick vs → pick v ≡ None → o ≡ first_that pick (vs ++ v ∷ [])
held_still pick vs v o h e = or_nothing o ∙ held_more pick vs v o None h e
