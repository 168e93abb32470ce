-- The contents of attributes: what is read stands there, and what stands there is read (JVMS 4.7.2 to 4.7.4).
use Rattle.std.proofs.Common.{◌≡◌, ℕ, ◌+◌, ◌<◌, ◌≤◌, List, [], ◌∷◌, ◌++◌, length, take, drop, true, eqb, Option, Ok, refl, sym, ap, ◌∙◌, subst, arith}
use Rattle.std.specs.Prelude.{◌&&◌}
use Rattle.std.specs.List.{flat_map, AllByRecursion}
use Rattle.std.proofs.lemmas.Bool.{eqb-true, eq-eqb, and_parts}
use Rattle.std.proofs.lemmas.List.{append-nil, drop_all, length-drop, drop-take}
use Rattle.jl_reading.specs.Reading.{Stands, IsBytes, number_at, two, four, counted}
use Rattle.jl_reading.proofs.Stands.{Stands-from_parts, Stands-parts, Along, each_stands, each_again}
use Rattle.jl_reading.proofs.Steps.{bind_ok, ok_is, bind_to, else_ok}
use Rattle.jl_prim.specs.declared.declaration.Handler.{Handler}
use Rattle.jl_pool.specs.declared.entry.Entry.{Entry}
use Rattle.jl_class.specs.declared.fault.ClassFault.TheVariants as faults
use Rattle.jl_class.specs.declared.member.CodeBytes.{CodeBytes}
use Rattle.jl_class.specs.Faults.{cut_in}
use Rattle.jl_class.specs.Meaning.{sets_field, names_frames}
use Rattle.jl_class.specs.Spelling.{IsConstant, IsFrames, HandlerFits, IsCode, handler_bytes, code_bytes}
use Rattle.jl_class.specs.Reading.{constant_at, handler_at, handlers_at, long_text_at, frames_at, inner_at, code_at}
use Rattle.jl_reading.proofs.Standing.{number_in, number_read, join, first, second, known, ends_at}
use Rattle.jl_optable.specs.declared.attributes.AttrForm.TheVariants as forms
use Rattle.jl_classfile.specs.Places.{content_at}
use Rattle.jl_classfile.specs.Spelling.{attribute_bytes, measured}
use Rattle.jl_classfile.proofs.AttributeLaws.{Held, content_window, held_window, held_reads}
use Rattle.jl_class.proofs.AttributeLaws.{ContentLaws, AllStand, one_stands, one_again}

-- ---- constants

constant_stands : (flags : ℕ) (desc : List ℕ) (pool : List Entry) (place : ℕ) (bytes : List ℕ) (at i : ℕ) → IsBytes bytes → at ≤ length bytes → constant_at flags desc pool place bytes at ≡ Ok i
    → (content : List ℕ) × IsConstant flags desc pool content i × Stands bytes at content (length bytes)
unfolding constant_at
constant_stands flags desc pool place bytes at i b le e =
    let s = bind_ok (number_at (cut_in place) 2 bytes at) _ i e in
    let g = else_ok (eqb s.0.1 (length bytes) && sets_field flags desc pool s.0.0) (faults.Attribute place) (Ok s.0.0) i s.2 in
    let t = and_parts (eqb s.0.1 (length bytes)) (sets_field flags desc pool s.0.0) g.0 in
    let n = number_in (cut_in place) 2 bytes at s.0 b s.1 in
    let stands = ends_at (length bytes) (eqb-true s.0.1 (length bytes) t.0) n.stands in
    subst (λ (k : ℕ). (content : List ℕ) × IsConstant flags desc pool content k × Stands bytes at content (length bytes)) (ok_is _ _ g.1) (two s.0.0, (n.small, refl, t.1), stands)

constant_reads : (flags : ℕ) (desc : List ℕ) (pool : List Entry) (place : ℕ) (bytes : List ℕ) (at i : ℕ) (content : List ℕ) → IsConstant flags desc pool content i → Stands bytes at content (length bytes)
    → constant_at flags desc pool place bytes at ≡ Ok i
unfolding constant_at
constant_reads flags desc pool place bytes at i content c s =
    let number = subst (λ t. Stands bytes at t (length bytes)) c.1 s in
    bind_to _ (number_read (cut_in place) 2 bytes at i (length bytes) c.0 number) (rw (eq-eqb (length bytes) (length bytes) refl, c.2) refl)

pub constant_laws : (flags : ℕ) (desc : List ℕ) (pool : List Entry) → ContentLaws (constant_at flags desc pool) (IsConstant flags desc pool)
constant_laws flags desc pool = record { stand = constant_stands flags desc pool; read = constant_reads flags desc pool }

-- ---- frames

frames_stand : (place : ℕ) (bytes : List ℕ) (at : ℕ) (v : List ℕ) → IsBytes bytes → at ≤ length bytes → frames_at place bytes at ≡ Ok v → (content : List ℕ) × IsFrames content v × Stands bytes at content (length bytes)
frames_stand place bytes at v b le e =
    let is : drop at bytes ≡ v = ok_is _ _ e in
    (drop at bytes, is, Stands-from_parts bytes at (drop at bytes) [] (length bytes) (sym (append-nil (drop at bytes))) (omega (arith, length-drop at bytes)) (omega arith))

frames_read : (place : ℕ) (bytes : List ℕ) (at : ℕ) (v content : List ℕ) → IsFrames content v → Stands bytes at content (length bytes) → frames_at place bytes at ≡ Ok v
frames_read place bytes at v content is s =
    let parts = Stands-parts bytes at content (length bytes) s in
    let rest : drop at bytes ≡ v = parts ∙ ap (λ (t : List ℕ). content ++ t) (drop_all (length bytes) bytes (omega arith)) ∙ append-nil content ∙ is in
    ap (λ (t : List ℕ). Ok t) rest

pub frames_laws : ContentLaws frames_at IsFrames
frames_laws = record { stand = frames_stand; read = frames_read }

-- ---- handlers

handler_stands : (place : ℕ) (bytes : List ℕ) → IsBytes bytes → (done : List Handler) (at : ℕ) (h : Handler) (next : ℕ) → at ≤ length bytes → handler_at place bytes at ≡ Ok (h, next)
    → Stands bytes at (handler_bytes h) next × HandlerFits h
unfolding handler_at
handler_stands place bytes b done at h next le e =
    let s1 = bind_ok (number_at (cut_in place) 2 bytes at) _ (h, next) e in
    let s2 = bind_ok (number_at (cut_in place) 2 bytes s1.0.1) _ (h, next) s1.2 in
    let s3 = bind_ok (number_at (cut_in place) 2 bytes s2.0.1) _ (h, next) s2.2 in
    let s4 = bind_ok (number_at (cut_in place) 2 bytes s3.0.1) _ (h, next) s3.2 in
    let n1 = number_in (cut_in place) 2 bytes at s1.0 b s1.1 in
    let n2 = number_in (cut_in place) 2 bytes s1.0.1 s2.0 b s2.1 in
    let n3 = number_in (cut_in place) 2 bytes s2.0.1 s3.0 b s3.1 in
    let n4 = number_in (cut_in place) 2 bytes s3.0.1 s4.0 b s4.1 in
    let found : Handler = record { start = s1.0.0; end = s2.0.0; target = s3.0.0; catch_type = s4.0.0 } in
    subst (λ (x : Handler × ℕ). Stands bytes at (handler_bytes x.0) x.1 × HandlerFits x.0) {x = (found, s4.0.1)} {y = (h, next)} (ok_is (found, s4.0.1) (h, next) s4.2)
    (join n1.stands (join n2.stands (join n3.stands n4.stands)), (n1.small, n2.small, n3.small, n4.small))

handler_reads : (place : ℕ) (bytes : List ℕ) → (done : List Handler) (at : ℕ) (h : Handler) (next : ℕ) → HandlerFits h → Stands bytes at (handler_bytes h) next → handler_at place bytes at ≡ Ok (h, next)
unfolding handler_at
handler_reads place bytes done at h next fits s =
    let s1 = first (two h.start) (two h.end ++ (two h.target ++ two h.catch_type)) s in
    let r1 = second (two h.start) (two h.end ++ (two h.target ++ two h.catch_type)) s in
    let s2 = first (two h.end) (two h.target ++ two h.catch_type) r1 in
    let r2 = second (two h.end) (two h.target ++ two h.catch_type) r1 in
    let s3 = first (two h.target) (two h.catch_type) r2 in
    let s4 = second (two h.target) (two h.catch_type) r2 in
    bind_to _ (number_read (cut_in place) 2 bytes at h.start (at + 2) fits.0 s1) (bind_to _ (number_read (cut_in place) 2 bytes (at + 2) h.end (at + 2 + 2) fits.1 s2)
    (bind_to _ (number_read (cut_in place) 2 bytes (at + 2 + 2) h.target (at + 2 + 2 + 2) fits.2 s3) (bind_to _ (number_read (cut_in place) 2 bytes (at + 2 + 2 + 2) h.catch_type next fits.3 s4) refl)))

abbrev Fitting : List Handler → Handler → Type 0
Fitting done h = HandlerFits h

all_fit : (done hs : List Handler) → Along Fitting done hs → AllByRecursion HandlerFits hs
all_fit done [] a = tt
all_fit done (h ∷ hs) a = (a.0, all_fit (done ++ h ∷ []) hs a.1)

fit_along : (done hs : List Handler) → AllByRecursion HandlerFits hs → Along Fitting done hs
fit_along done [] a = tt
fit_along done (h ∷ hs) a = (a.0, fit_along (done ++ h ∷ []) hs a.1)

record Handlers (bytes : List ℕ) (at : ℕ) (x : List Handler × ℕ) : Type 0 where
  few : length x.0 < 65536
  fit : AllByRecursion HandlerFits x.0
  stands : Stands bytes at (counted handler_bytes x.0) x.1

handlers_stand : (place : ℕ) (bytes : List ℕ) (at : ℕ) (x : List Handler × ℕ) → IsBytes bytes → handlers_at place bytes at ≡ Ok x → Handlers bytes at x
unfolding handlers_at
handlers_stand place bytes at x b e =
    let s = bind_ok (number_at (cut_in place) 2 bytes at) _ x e in
    let n = number_in (cut_in place) 2 bytes at s.0 b s.1 in
    let f = each_stands bytes handler_bytes Fitting (λ done. handler_at place bytes) (handler_stands place bytes b) s.0.0 [] s.0.1 x.0 x.1 n.stands.within s.2 in
    let same : f.xs ≡ x.0 = sym f.parts in
    let there : Handlers bytes at (f.xs, x.1) = record {
      few = subst (λ k. k < 65536) (sym f.count) n.small;
      fit = all_fit [] f.xs f.along;
      stands = join (known (length f.xs) (sym f.count) n) f.stand;
    } in
    subst (λ (hs : List Handler). Handlers bytes at (hs, x.1)) same there

handlers_read : (place : ℕ) (bytes : List ℕ) (at next : ℕ) (hs : List Handler) → length hs < 65536 → AllByRecursion HandlerFits hs → Stands bytes at (counted handler_bytes hs) next
    → handlers_at place bytes at ≡ Ok (hs, next)
unfolding handlers_at
handlers_read place bytes at next hs few fit s =
    let s1 = first (two (length hs)) (flat_map handler_bytes hs) s in
    let s2 = second (two (length hs)) (flat_map handler_bytes hs) s in
    bind_to _ (number_read (cut_in place) 2 bytes at (length hs) (at + 2) few s1) (each_again bytes handler_bytes Fitting (λ done. handler_at place bytes) (handler_reads place bytes) hs [] (at + 2) next (fit_along [] hs fit) s2)

-- ---- a length, and so many bytes

long_text_stands : (place : ℕ) (bytes : List ℕ) (at : ℕ) (x : List ℕ × ℕ) → IsBytes bytes → long_text_at place bytes at ≡ Ok x → Held bytes at x.1 x.0
unfolding long_text_at
long_text_stands place bytes at x b e =
    let s = bind_ok (content_at (cut_in place) bytes at) _ x e in
    let w = content_window (cut_in place) bytes at s.0 b s.1 in
    subst (λ (y : List ℕ × ℕ). Held bytes at y.1 y.0) (ok_is _ _ s.2) (held_window bytes at s.0 w)

long_text_reads : (place : ℕ) (bytes : List ℕ) (at next : ℕ) (text : List ℕ) → Held bytes at next text → long_text_at place bytes at ≡ Ok (text, next)
unfolding long_text_at
long_text_reads place bytes at next text h =
    let s = second (four (length text)) text h.stands in
    let there : take (length text) (drop (at + 4) bytes) ≡ text = s.there in
    let whole : drop (at + 4) (take next bytes) ≡ text = ap (λ (n : ℕ). drop (at + 4) (take n bytes)) s.ends ∙ drop-take (at + 4) (length text) bytes ∙ there in
    bind_to _ (held_reads (cut_in place) bytes at next text h) (rw whole refl)

-- ---- code

inner_stands : (pool : List Entry) (place : ℕ) (bytes : List ℕ) (at : ℕ) (x : Option (List ℕ) × ℕ) → IsBytes bytes → inner_at pool place bytes at ≡ Ok x → AllStand IsFrames names_frames true pool bytes at x
inner_stands pool place bytes at x b e = one_stands (cut_in place) names_frames forms.Frames cut_in true frames_at IsFrames frames_laws pool bytes at x b e

code_stands : (pool : List Entry) (place : ℕ) (bytes : List ℕ) (at : ℕ) (c : CodeBytes) → IsBytes bytes → at ≤ length bytes → code_at pool place bytes at ≡ Ok c
    → (content : List ℕ) × IsCode pool content c × Stands bytes at content (length bytes)
unfolding code_at
code_stands pool place bytes at c b le e =
    let s1 = bind_ok (number_at (cut_in place) 2 bytes at) _ c e in
    let s2 = bind_ok (number_at (cut_in place) 2 bytes s1.0.1) _ c s1.2 in
    let s3 = bind_ok (long_text_at place bytes s2.0.1) _ c s2.2 in
    let s4 = bind_ok (handlers_at place bytes s3.0.1) _ c s3.2 in
    let s5 = bind_ok (inner_at pool place bytes s4.0.1) _ c s4.2 in
    let made : CodeBytes = record { max_stack = s1.0.0; max_locals = s2.0.0; code = s3.0.0; handlers = s4.0.0; frames = s5.0.0 } in
    let g = else_ok (eqb s5.0.1 (length bytes)) (faults.Attribute place) (Ok made) c s5.2 in
    let n1 = number_in (cut_in place) 2 bytes at s1.0 b s1.1 in
    let n2 = number_in (cut_in place) 2 bytes s1.0.1 s2.0 b s2.1 in
    let t3 = long_text_stands place bytes s2.0.1 s3.0 b s3.1 in
    let t4 = handlers_stand place bytes s3.0.1 s4.0 b s4.1 in
    let t5 = inner_stands pool place bytes s4.0.1 s5.0 b s5.1 in
    let inner = ends_at (length bytes) (eqb-true s5.0.1 (length bytes) g.0) t5.stands in
    subst (λ (k : CodeBytes). (content : List ℕ) × IsCode pool content k × Stands bytes at content (length bytes)) (ok_is _ _ g.1) (
      code_bytes made t5.attributes,
      record {
        attributes = t5.attributes;
        is = refl;
        fits = record { max_stack = n1.small; max_locals = n2.small; code = t3.small; few = t4.few; handlers = t4.fit };
        fit = t5.are;
        frames = t5.declared.one;
      },
      join n1.stands (join n2.stands (join t3.stands (join t4.stands inner))),
    )

code_reads : (pool : List Entry) (place : ℕ) (bytes : List ℕ) (at : ℕ) (c : CodeBytes) (content : List ℕ) → IsCode pool content c → Stands bytes at content (length bytes) → code_at pool place bytes at ≡ Ok c
unfolding code_at
code_reads pool place bytes at c content is s =
    let inner = counted attribute_bytes is.attributes in
    let handlers = counted handler_bytes c.handlers in
    let end = length bytes in
    let all : Stands bytes at (code_bytes c is.attributes) end = subst (λ t. Stands bytes at t (length bytes)) is.is s in
    let s1 = first (two c.max_stack) (two c.max_locals ++ (measured c.code ++ (handlers ++ inner))) all in
    let r1 = second (two c.max_stack) (two c.max_locals ++ (measured c.code ++ (handlers ++ inner))) all in
    let s2 = first (two c.max_locals) (measured c.code ++ (handlers ++ inner)) r1 in
    let r2 = second (two c.max_locals) (measured c.code ++ (handlers ++ inner)) r1 in
    let s3 = first (measured c.code) (handlers ++ inner) r2 in
    let r3 = second (measured c.code) (handlers ++ inner) r2 in
    let s4 = first handlers inner r3 in
    let s5 = second handlers inner r3 in
    let p3 = at + 2 + 2 + length (measured c.code) in
    let p4 = p3 + length handlers in
    let t3 = long_text_reads place bytes (at + 2 + 2) p3 c.code (record { small = is.fits.code; stands = s3 }) in
    let t4 = handlers_read place bytes p3 p4 c.handlers is.fits.few is.fits.handlers s4 in
    let t5 = one_again (cut_in place) names_frames forms.Frames cut_in true frames_at IsFrames frames_laws pool bytes p4 end is.attributes c.frames (record { one = is.frames; allowed = λ _. refl }) is.fit s5 in
    bind_to _ (number_read (cut_in place) 2 bytes at c.max_stack (at + 2) is.fits.max_stack s1) (bind_to _ (number_read (cut_in place) 2 bytes (at + 2) c.max_locals (at + 2 + 2) is.fits.max_locals s2)
    (bind_to _ t3 (bind_to _ t4 (bind_to _ t5 (rw (eq-eqb end end refl) refl)))))

pub code_laws : (pool : List Entry) → ContentLaws (code_at pool) (IsCode pool)
code_laws pool = record { stand = code_stands pool; read = code_reads pool }
