-- Questions about the items of lists, one by one.
use Rattle.std.proofs.Common.{◌≡◌, ◌∙◌, ℕ, zero, suc, ◌+◌, ◌<◌, ◌≤◌, List, [], ◌∷◌, length, map, drop, get_or, Bool, true, false, Option, refl, sym, subst, ap, ap₂, arith, add-one}
use Rattle.std.specs.Prelude.{if◌then◌else◌, slice_get, ℤ, reverse, ◌==◌, ◌&&◌, ◌||◌, not, Result, Ok}
use Rattle.jl_vtypes.specs.declared.question.Asked.{Asked}
use Rattle.jl_verify.specs.declared.fault.VerifyFault.{VerifyFault}
use Rattle.jl_verify.specs.Comes.{Comes}
use Rattle.jl_verify.proofs.Comings.{done}
use Rattle.std.proofs.lemmas.List.{drop_more, drop_all}
use Rattle.jl_prim.specs.declared.declaration.Handler.{Handler}
use Rattle.jl_code.specs.declared.code.Instr.{Instr}
use Rattle.jl_vtypes.specs.declared.item.Item.{Item}
use Rattle.jl_vtypes.specs.Asking.{Asks, Done}
use Rattle.jl_vtypes.specs.Assignability.{goes}
use Rattle.jl_verify.specs.Frames.{Frame}
use Rattle.jl_verify.specs.Checked.{Checked}
use Rattle.jl_verify.specs.Moves.{both, or_top}
use Rattle.jl_verify.specs.Rules.{items_go, frame_goes, declared_at, goes_to_declared, leads, covers, handler_fits, handlers_fit}

-- ---- items

items_at : (from to : List Item) (k : ℕ) (d : Item) → k < length to → items_go (drop k from) (drop k to) ≡ both (goes (or_top (slice_get from k)) (get_or to k d)) (items_go (drop (suc k) from) (drop (suc k) to))
items_at from [] k d h = absurd (omega arith)
items_at [] (t ∷ ts) zero d h = refl
items_at (f ∷ fs) (t ∷ ts) zero d h = refl
items_at [] (t ∷ ts) (suc k) d h = items_none ts k d (omega arith)
  where
    items_none : (to : List Item) (k : ℕ) (d : Item) → k < length to → items_go [] (drop k to) ≡ both (goes (or_top (slice_get [] (suc k))) (get_or to k d)) (items_go [] (drop (suc k) to))
    items_none [] k d h = absurd (omega arith)
    items_none (t ∷ ts) zero d h = refl
    items_none (t ∷ ts) (suc k) d h = items_none ts k d (omega arith)
items_at (f ∷ fs) (t ∷ ts) (suc k) d h = items_at fs ts k d (omega arith)

-- the item at hand, and then the others
pub items_next : (from to : List Item) (k : ℕ) (o : Option Item) (d : Item) → o ≡ slice_get from k → d ≡ get_or to k d → k < length to
    → items_go (drop k from) (drop k to) ≡ both (goes (or_top o) d) (items_go (drop (k + 1) from) (drop (k + 1) to))
items_next from to k o d is same h = rw add-one (items_at from to k d h ∙ ap₂ (λ (p : Option Item) (x : Item). both (goes (or_top p) x) (items_go (drop (suc k) from) (drop (suc k) to))) (sym is) (sym same))

pub items_done : (from to : List Item) (k : ℕ) → length to ≤ k → items_go (drop k from) (drop k to) ≡ Done true
items_done from to k h = ap (λ (ts : List Item). items_go (drop k from) ts) (drop_all k to h) ∙ none (drop k from)
  where
    none : (from : List Item) → items_go from [] ≡ Done true
    none [] = refl
    none (f ∷ fs) = refl

-- ---- frames

module _ {S : Type 0} (step : S → Asked → S → Type 0) (from to : Frame) (old : S) (is : Bool) (e : is ≡ ((length from.stack == length to.stack) && (not from.marked || to.marked))) where
  pub compared : (result : Result Bool VerifyFault) (new : S) → is ≡ true → Comes step (both (items_go from.locals to.locals) (items_go (reverse from.stack) (reverse to.stack))) old result new → Comes step (frame_goes from to) old result new
  compared result new so p = subst (λ b. Comes step (if b then both (items_go from.locals to.locals) (items_go (reverse from.stack) (reverse to.stack)) else Done false) old result new) (sym so ∙ e) p

  pub not_compared : is ≡ false → Comes step (frame_goes from to) old (Ok false) old
  not_compared so = subst (λ b. Comes step (if b then both (items_go from.locals to.locals) (items_go (reverse from.stack) (reverse to.stack)) else Done false) old (Ok false) old) (sym so ∙ e) (done step false old)

-- ---- places

pub places_next : (c : Checked) (f : Frame) (cases : List (ℤ × ℕ)) (k : ℕ) (d : ℤ × ℕ) → k < length cases
    → leads c f (map (λ case. case.1) (drop k cases)) ≡ both (goes_to_declared f (declared_at c (get_or cases k d).1)) (leads c f (map (λ case. case.1) (drop (k + 1) cases)))
places_next c f cases k d h = ap (λ (cs : List (ℤ × ℕ)). leads c f (map (λ case. case.1) cs)) (drop_more cases k d h)

pub places_done : (c : Checked) (f : Frame) (cases : List (ℤ × ℕ)) (k : ℕ) → length cases ≤ k → leads c f (map (λ case. case.1) (drop k cases)) ≡ Done true
places_done c f cases k h = ap (λ (cs : List (ℤ × ℕ)). leads c f (map (λ case. case.1) cs)) (drop_all k cases h)

-- ---- handlers

-- what a handler asks at an instruction, which is nothing where it does not cover it
abbrev pub handler_asks : Checked → Frame → Instr → Handler → Asks Bool
handler_asks c f i handler = if covers handler i then handler_fits c f handler else Done true

handler_before : (c : Checked) (f : Frame) (i : Instr) (handler : Handler) (later : List Handler) → handlers_fit c f i (handler ∷ later) ≡ both (handler_asks c f i handler) (handlers_fit c f i later)
handler_before c f i handler later = by (covers handler i)
  where
    by : (is : Bool) → (if is then both (handler_fits c f handler) (handlers_fit c f i later) else handlers_fit c f i later) ≡ both (if is then handler_fits c f handler else Done true) (handlers_fit c f i later)
    by true = refl
    by false = refl

pub handlers_next : (c : Checked) (f : Frame) (i : Instr) (handlers : List Handler) (k : ℕ) (d : Handler) → k < length handlers
    → handlers_fit c f i (drop k handlers) ≡ both (handler_asks c f i (get_or handlers k d)) (handlers_fit c f i (drop (k + 1) handlers))
handlers_next c f i handlers k d h = ap (handlers_fit c f i) (drop_more handlers k d h) ∙ handler_before c f i (get_or handlers k d) (drop (k + 1) handlers)

pub handlers_done : (c : Checked) (f : Frame) (i : Instr) (handlers : List Handler) (k : ℕ) → length handlers ≤ k → handlers_fit c f i (drop k handlers) ≡ Done true
handlers_done c f i handlers k h = ap (handlers_fit c f i) (drop_all k handlers h)
