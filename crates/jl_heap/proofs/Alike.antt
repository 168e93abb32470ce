-- What changes of objects leave as it is.
use Rattle.std.proofs.Common.{◌≡◌, ℕ, List, [], ◌∷◌, ◌++◌, None, slice_set, option_map, refl, sym}
use Rattle.std.proofs.lemmas.Option.{none-some}
use Rattle.jl_heap.specs.declared.value.Value.{Value}
use Rattle.jl_heap.specs.declared.shape.Mirror.{Mirror}
use Rattle.jl_heap.specs.declared.shape.Shape.{Shape}
use Rattle.jl_heap.specs.declared.shape.Shape.TheVariants as shapes
use Rattle.jl_heap.specs.declared.shape.Object.{Object}
use Rattle.jl_heap.specs.Objects.{slots_of}
use Rattle.jl_heap.specs.Heap.{with_slot, with_mirror, with_units, with_item, text_units, list_items, mirrored}
use Rattle.jl_heap.specs.Laws.{AreAlike}

abbrev pub object : Shape → List Value → Object
object shape slots = record { shape = shape; slots = slots }

pub slot_alike : (at : ℕ) (v : Value) (shape : Shape) (slots : List Value) → AreAlike (with_slot at v (object shape slots)).shape shape
slot_alike at v (shapes.Object c fields) slots = (refl, refl)
slot_alike at v (shapes.Array e len) slots = (refl, refl)
slot_alike at v (shapes.Text c units) slots = refl
slot_alike at v (shapes.List c items) slots = refl
slot_alike at v (shapes.Mirror c m) slots = refl

pub slot_shape : (at : ℕ) (v : Value) (shape : Shape) (slots : List Value) → list_items (object shape slots) ≡ None → (with_slot at v (object shape slots)).shape ≡ shape
slot_shape at v (shapes.Object c fields) slots e = refl
slot_shape at v (shapes.Array f len) slots e = refl
slot_shape at v (shapes.Text c units) slots e = refl
slot_shape at v (shapes.List c items) slots e = absurd (none-some items (sym e))
slot_shape at v (shapes.Mirror c m) slots e = refl

pub slot_values : (at : ℕ) (v : Value) (shape : Shape) (slots : List Value) → slots_of (with_slot at v (object shape slots)) ≡ slice_set (slots_of (object shape slots)) at v
slot_values at v (shapes.Object c fields) slots = refl
slot_values at v (shapes.Array e len) slots = refl
slot_values at v (shapes.Text c units) slots = refl
slot_values at v (shapes.List c items) slots = refl
slot_values at v (shapes.Mirror c m) slots = refl

pub mirror_alike : (what : Mirror) (shape : Shape) (slots : List Value) → AreAlike (with_mirror what (object shape slots)).shape shape
mirror_alike what (shapes.Object c fields) slots = (refl, refl)
mirror_alike what (shapes.Array e len) slots = (refl, refl)
mirror_alike what (shapes.Text c units) slots = refl
mirror_alike what (shapes.List c items) slots = refl
mirror_alike what (shapes.Mirror c m) slots = refl

pub mirror_what : (what : Mirror) (shape : Shape) (slots : List Value) → mirrored (with_mirror what (object shape slots)) ≡ option_map (λ _. what) (mirrored (object shape slots))
mirror_what what (shapes.Object c fields) slots = refl
mirror_what what (shapes.Array e len) slots = refl
mirror_what what (shapes.Text c units) slots = refl
mirror_what what (shapes.List c items) slots = refl
mirror_what what (shapes.Mirror c m) slots = refl

pub text_alike : (more : List ℕ) (shape : Shape) (slots : List Value) → AreAlike (with_units more (object shape slots)).shape shape
text_alike more (shapes.Object c fields) slots = (refl, refl)
text_alike more (shapes.Array e len) slots = (refl, refl)
text_alike more (shapes.Text c units) slots = refl
text_alike more (shapes.List c items) slots = refl
text_alike more (shapes.Mirror c m) slots = refl

pub text_more : (more : List ℕ) (shape : Shape) (slots : List Value) → text_units (with_units more (object shape slots)) ≡ option_map (λ units. units ++ more) (text_units (object shape slots))
text_more more (shapes.Object c fields) slots = refl
text_more more (shapes.Array e len) slots = refl
text_more more (shapes.Text c units) slots = refl
text_more more (shapes.List c items) slots = refl
text_more more (shapes.Mirror c m) slots = refl

pub list_alike : (v : Value) (shape : Shape) (slots : List Value) → AreAlike (with_item v (object shape slots)).shape shape
list_alike v (shapes.Object c fields) slots = (refl, refl)
list_alike v (shapes.Array e len) slots = (refl, refl)
list_alike v (shapes.Text c units) slots = refl
list_alike v (shapes.List c items) slots = refl
list_alike v (shapes.Mirror c m) slots = refl

pub list_more : (v : Value) (shape : Shape) (slots : List Value) → list_items (with_item v (object shape slots)) ≡ option_map (λ items. items ++ v ∷ []) (list_items (object shape slots))
list_more v (shapes.Object c fields) slots = refl
list_more v (shapes.Array e len) slots = refl
list_more v (shapes.Text c units) slots = refl
list_more v (shapes.List c items) slots = refl
list_more v (shapes.Mirror c m) slots = refl
