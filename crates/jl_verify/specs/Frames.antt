-- Frames: what the locals and the stack hold at an instruction (JVMS 4.10.1.2, 4.10.1.4).
use Rattle.std.specs.Prelude.{List, [], ◌∷◌, ◌++◌, reverse, Bool, true, false, if◌then◌else◌}
use Rattle.jl_vtypes.specs.declared.item.Item.{Item}
use Rattle.jl_vtypes.specs.declared.item.Item.TheVariants as items

-- The locals from the lowest, and the stack from its top, slot by slot. Of the two slots of a long or a double the higher one is Top. A frame is
-- marked where this is not yet initialized.
pub record Frame : Type 0 where
  pub locals : List Item
  pub stack : List Item
  pub marked : Bool

-- ---- slots

-- an item that takes two slots
abbrev pub is_wide : Item → Bool
is_wide items.Long = true
is_wide items.Double = true
is_wide _ = false

-- the slots of an item, from the lowest
abbrev pub slots_of : Item → List Item
slots_of item = if is_wide item then item ∷ items.Top ∷ [] else item ∷ []

-- the slots of items, from the lowest
abbrev pub slots : List Item → List Item
slots [] = []
slots (item ∷ later) = slots_of item ++ slots later

-- the slots of items on a stack, from the top, where the last item is the top
abbrev pub stacked : List Item → List Item
stacked all = reverse (slots all)
