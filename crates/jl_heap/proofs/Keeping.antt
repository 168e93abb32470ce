-- What is kept under a key is what the map has.
use Rattle.std.proofs.Common.{◌≡◌, List, [], ◌∷◌, None, Some, Bool, true, false, ◌++◌, ◌&&◌, ◌==◌, if◌then◌else◌, refl, ap, sym}
use Rattle.std.proofs.lemmas.Option.{none-some}
use Rattle.std_collections.specs.Map.{lookup}
use Rattle.indexmap.specs.IndexMap.{insert_entry}
use Rattle.jl_prim.specs.declared.numbers.ObjRef.{ObjRef}
use Rattle.jl_heap.specs.declared.kept.KeptKey.{KeptKey}
use Rattle.jl_heap.specs.declared.kept.KeptKey.TheVariants as keys
use Rattle.jl_heap.specs.declared.shape.Base.{Base}
use Rattle.jl_heap.specs.declared.shape.Base.TheVariants as bases
use Rattle.jl_heap.specs.declared.shape.Element.{Element}
use Rattle.jl_heap.specs.declared.shape.Mirror.{Mirror}
use Rattle.jl_heap.specs.declared.shape.Mirror.TheVariants as mirrors
use Rattle.jl_heap.specs.contracts.kept.KeptKeyPartialEq.TheImpl as key_eq
use Rattle.jl_heap.specs.contracts.shape.BasePartialEq.TheImpl as base_eq
use Rattle.jl_heap.specs.contracts.shape.ElementPartialEq.TheImpl as element_eq
use Rattle.jl_heap.specs.contracts.shape.MirrorPartialEq.TheImpl as mirror_eq
use Rattle.jl_heap.specs.Kept.{is_same_base, is_same_element, is_same_mirror, is_same_key, kept_under}

base_is : (a b : Base) → base_eq.eq-value.it a b ≡ is_same_base a b
base_is (bases.Prim a) (bases.Prim b) = refl
base_is (bases.Prim a) (bases.Class b) = refl
base_is (bases.Class a) (bases.Prim b) = refl
base_is (bases.Class a) (bases.Class b) = refl

element_is : (a b : Element) → element_eq.eq-value.it a b ≡ is_same_element a b
element_is a b = ap (λ same. same && (a.dims == b.dims)) (base_is a.base b.base)

mirror_is : (a b : Mirror) → mirror_eq.eq-value.it a b ≡ is_same_mirror a b
mirror_is (mirrors.Class a0) (mirrors.Class b0) = element_is a0 b0
mirror_is (mirrors.Class a0) (mirrors.Module b0) = refl
mirror_is (mirrors.Class a0) (mirrors.Layer b0) = refl
mirror_is (mirrors.Class a0) (mirrors.Config b0) = refl
mirror_is (mirrors.Class a0) (mirrors.Loader b0) = refl
mirror_is (mirrors.Class a0) (mirrors.Control b0) = refl
mirror_is (mirrors.Class a0) (mirrors.Field b0 b1) = refl
mirror_is (mirrors.Class a0) (mirrors.Method b0 b1) = refl
mirror_is (mirrors.Class a0) (mirrors.Iter b0 b1) = refl
mirror_is (mirrors.Module a0) (mirrors.Class b0) = refl
mirror_is (mirrors.Module a0) (mirrors.Module b0) = refl
mirror_is (mirrors.Module a0) (mirrors.Layer b0) = refl
mirror_is (mirrors.Module a0) (mirrors.Config b0) = refl
mirror_is (mirrors.Module a0) (mirrors.Loader b0) = refl
mirror_is (mirrors.Module a0) (mirrors.Control b0) = refl
mirror_is (mirrors.Module a0) (mirrors.Field b0 b1) = refl
mirror_is (mirrors.Module a0) (mirrors.Method b0 b1) = refl
mirror_is (mirrors.Module a0) (mirrors.Iter b0 b1) = refl
mirror_is (mirrors.Layer a0) (mirrors.Class b0) = refl
mirror_is (mirrors.Layer a0) (mirrors.Module b0) = refl
mirror_is (mirrors.Layer a0) (mirrors.Layer b0) = refl
mirror_is (mirrors.Layer a0) (mirrors.Config b0) = refl
mirror_is (mirrors.Layer a0) (mirrors.Loader b0) = refl
mirror_is (mirrors.Layer a0) (mirrors.Control b0) = refl
mirror_is (mirrors.Layer a0) (mirrors.Field b0 b1) = refl
mirror_is (mirrors.Layer a0) (mirrors.Method b0 b1) = refl
mirror_is (mirrors.Layer a0) (mirrors.Iter b0 b1) = refl
mirror_is (mirrors.Config a0) (mirrors.Class b0) = refl
mirror_is (mirrors.Config a0) (mirrors.Module b0) = refl
mirror_is (mirrors.Config a0) (mirrors.Layer b0) = refl
mirror_is (mirrors.Config a0) (mirrors.Config b0) = refl
mirror_is (mirrors.Config a0) (mirrors.Loader b0) = refl
mirror_is (mirrors.Config a0) (mirrors.Control b0) = refl
mirror_is (mirrors.Config a0) (mirrors.Field b0 b1) = refl
mirror_is (mirrors.Config a0) (mirrors.Method b0 b1) = refl
mirror_is (mirrors.Config a0) (mirrors.Iter b0 b1) = refl
mirror_is (mirrors.Loader a0) (mirrors.Class b0) = refl
mirror_is (mirrors.Loader a0) (mirrors.Module b0) = refl
mirror_is (mirrors.Loader a0) (mirrors.Layer b0) = refl
mirror_is (mirrors.Loader a0) (mirrors.Config b0) = refl
mirror_is (mirrors.Loader a0) (mirrors.Loader b0) = refl
mirror_is (mirrors.Loader a0) (mirrors.Control b0) = refl
mirror_is (mirrors.Loader a0) (mirrors.Field b0 b1) = refl
mirror_is (mirrors.Loader a0) (mirrors.Method b0 b1) = refl
mirror_is (mirrors.Loader a0) (mirrors.Iter b0 b1) = refl
mirror_is (mirrors.Control a0) (mirrors.Class b0) = refl
mirror_is (mirrors.Control a0) (mirrors.Module b0) = refl
mirror_is (mirrors.Control a0) (mirrors.Layer b0) = refl
mirror_is (mirrors.Control a0) (mirrors.Config b0) = refl
mirror_is (mirrors.Control a0) (mirrors.Loader b0) = refl
mirror_is (mirrors.Control a0) (mirrors.Control b0) = refl
mirror_is (mirrors.Control a0) (mirrors.Field b0 b1) = refl
mirror_is (mirrors.Control a0) (mirrors.Method b0 b1) = refl
mirror_is (mirrors.Control a0) (mirrors.Iter b0 b1) = refl
mirror_is (mirrors.Field a0 a1) (mirrors.Class b0) = refl
mirror_is (mirrors.Field a0 a1) (mirrors.Module b0) = refl
mirror_is (mirrors.Field a0 a1) (mirrors.Layer b0) = refl
mirror_is (mirrors.Field a0 a1) (mirrors.Config b0) = refl
mirror_is (mirrors.Field a0 a1) (mirrors.Loader b0) = refl
mirror_is (mirrors.Field a0 a1) (mirrors.Control b0) = refl
mirror_is (mirrors.Field a0 a1) (mirrors.Field b0 b1) = refl
mirror_is (mirrors.Field a0 a1) (mirrors.Method b0 b1) = refl
mirror_is (mirrors.Field a0 a1) (mirrors.Iter b0 b1) = refl
mirror_is (mirrors.Method a0 a1) (mirrors.Class b0) = refl
mirror_is (mirrors.Method a0 a1) (mirrors.Module b0) = refl
mirror_is (mirrors.Method a0 a1) (mirrors.Layer b0) = refl
mirror_is (mirrors.Method a0 a1) (mirrors.Config b0) = refl
mirror_is (mirrors.Method a0 a1) (mirrors.Loader b0) = refl
mirror_is (mirrors.Method a0 a1) (mirrors.Control b0) = refl
mirror_is (mirrors.Method a0 a1) (mirrors.Field b0 b1) = refl
mirror_is (mirrors.Method a0 a1) (mirrors.Method b0 b1) = refl
mirror_is (mirrors.Method a0 a1) (mirrors.Iter b0 b1) = refl
mirror_is (mirrors.Iter a0 a1) (mirrors.Class b0) = refl
mirror_is (mirrors.Iter a0 a1) (mirrors.Module b0) = refl
mirror_is (mirrors.Iter a0 a1) (mirrors.Layer b0) = refl
mirror_is (mirrors.Iter a0 a1) (mirrors.Config b0) = refl
mirror_is (mirrors.Iter a0 a1) (mirrors.Loader b0) = refl
mirror_is (mirrors.Iter a0 a1) (mirrors.Control b0) = refl
mirror_is (mirrors.Iter a0 a1) (mirrors.Field b0 b1) = refl
mirror_is (mirrors.Iter a0 a1) (mirrors.Method b0 b1) = refl
mirror_is (mirrors.Iter a0 a1) (mirrors.Iter b0 b1) = refl

-- the derived test of keys
key_is : (a b : KeptKey) → key_eq.eq-value.it a b ≡ is_same_key a b
key_is (keys.Text a0) (keys.Text b0) = refl
key_is (keys.Text a0) (keys.Mirror b0) = refl
key_is (keys.Text a0) (keys.Boxed b0 b1) = refl
key_is (keys.Mirror a0) (keys.Text b0) = refl
key_is (keys.Mirror a0) (keys.Mirror b0) = mirror_is a0 b0
key_is (keys.Mirror a0) (keys.Boxed b0 b1) = refl
key_is (keys.Boxed a0 a1) (keys.Text b0) = refl
key_is (keys.Boxed a0 a1) (keys.Mirror b0) = refl
key_is (keys.Boxed a0 a1) (keys.Boxed b0 b1) = refl

pub lookup_is_kept : (key : KeptKey) (pairs : List (KeptKey × ObjRef)) → lookup (key_eq.eq-value.it key) pairs ≡ kept_under key pairs
lookup_is_kept key [] = refl
lookup_is_kept key (p ∷ ps) = rw (key_is key p.0, lookup_is_kept key ps) refl

pub insert_is_kept : (key : KeptKey) (o : ObjRef) (pairs : List (KeptKey × ObjRef))
    → kept_under key pairs ≡ None → insert_entry key_eq.eq-value.it pairs key o ≡ pairs ++ (key, o) ∷ []
insert_is_kept key o [] e = refl
insert_is_kept key o (p ∷ ps) e = rw (key_is key p.0) (by (is_same_key key p.0) e (insert_is_kept key o ps)) where
  by : (b : Bool) → (if b then Some p.1 else kept_under key ps) ≡ None
      → (kept_under key ps ≡ None → insert_entry key_eq.eq-value.it ps key o ≡ ps ++ (key, o) ∷ [])
      → (if b then (p.0, o) ∷ ps else p ∷ insert_entry key_eq.eq-value.it ps key o) ≡ p ∷ (ps ++ (key, o) ∷ [])
  by true e rest = absurd (none-some p.1 (sym e))
  by false e rest = ap (λ qs. p ∷ qs) (rest e)
