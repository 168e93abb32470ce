-- What each module of the set gets from others.
use Rattle.std.proofs.Common.{◌≡◌, ◌≢◌, ◌<◌, ◌≤◌, ◌+◌, ℕ, List, [], ◌∷◌, ◌++◌, length, map, take, get_or, slice_get, refl, sym, ◌∙◌, ap, ap₂, subst, Contains, Some, inl, true, ◌&&◌}
use Rattle.std.proofs.lemmas.List.{take_more, take_all, map-append}
use Rattle.std.proofs.lemmas.Bool.{and_parts}
use Rattle.jl_logic.specs.Order.{is_text, RisesBy}
use Rattle.jl_config.specs.declared.imports.Exported.{Exported}
use Rattle.jl_config.specs.declared.imports.Imports.{Imports}
use Rattle.jl_config.specs.declared.readings.Reading.{Reading}
use Rattle.jl_config.specs.declared.candidate.Candidate.{Candidate}
use Rattle.jl_config.specs.Located.{Scene, candidate_name}
use Rattle.jl_config.specs.Members.{Reads}
use Rattle.jl_config.specs.Places.{place_of_candidate}
use Rattle.jl_config.specs.Refusals.{Exports}
use Rattle.jl_config.specs.ReadRows.{name_at, IsReadingOf, AreReadings}
use Rattle.jl_config.specs.Collected.{Among}
use Rattle.jl_config.specs.Imported.{IsGranted, IsExportedBy, IsExportedAt, exported_cmp, IsImportOf, IsImport, AreImports}
use Rattle.jl_config.proofs.Names.{text_is}
use Rattle.jl_config.proofs.Lists.{into_map, from_map, same_item, last_or_before}
use Rattle.jl_config.proofs.SameNames.{place_read, reader_name, one_first}

abbrev pub reader_of_reading : Reading → ℕ
reader_of_reading r = r.reader

abbrev pub reader_of_imports : Imports → ℕ
reader_of_imports m = m.reader

-- what was made for the first i readings
pub record AreImportsSoFar (w : Scene) (rs : List Reading) (i : ℕ) (ms : List Imports) : Type 0 where
  pub readers : map reader_of_imports ms ≡ map reader_of_reading (take i rs)
  pub each : (m : Imports) → Contains ms m → IsImport w m

pub one_import : (w : Scene) (r : Reading) (a : Candidate) (es : List Exported) → IsReadingOf w r a → RisesBy exported_cmp es
    → ((e : Exported) → Contains es e → Among (IsExportedAt w r.reader) r.read e) → ((e : Exported) → Among (IsExportedAt w r.reader) r.read e → Contains es e)
    → IsImportOf w (record { reader = r.reader; exported = es }) a
one_import w r a es h up only all =
    let named : name_at w r.reader ≡ candidate_name a = reader_name w r a h in
    record {
      here = h.here;
      member = h.member;
      rise = up;
      only = λ e c.
          let s = only e c in
          let t = s.2 in
          let b = place_read w r a s.0 h s.1 in
          let same : b.candidate ≡ t.0 = same_item b.candidate t.0 (slice_get w.candidates s.0) b.at t.1 in
          (t.0, subst (Reads w a) same b.read, subst (λ n. IsExportedBy n t.0 e) named t.3, subst (λ n. candidate_name t.0 ≢ n) named t.2);
      all = λ b p read exports other.
          let q = h.reads.read.all b read in
          all (record { «package» = p; exporter = candidate_name b }) (q.0, q.1, (b, q.2, subst (λ n. candidate_name b ≢ n) (sym named) other, (subst (λ n. Exports b p n) (sym named) exports, refl)));
      own = λ b read named same.
          let p = h.reads.read.all b read in
          let q = h.reads.read.all a (inl refl) in
          let f = place_read w r a p.0 h p.1 in
          let g = place_read w r a q.0 h q.1 in
          let fb : f.candidate ≡ b = same_item f.candidate b (slice_get w.candidates p.0) f.at p.2 in
          let ga : g.candidate ≡ a = same_item g.candidate a (slice_get w.candidates q.0) g.at q.2 in
          let pb : place_of_candidate b.config (candidate_name b) w.candidates ≡ Some p.0 = subst (λ (v : Candidate). place_of_candidate v.config (candidate_name v) w.candidates ≡ Some p.0) fb f.first in
          let qa : place_of_candidate a.config (candidate_name a) w.candidates ≡ Some q.0 = subst (λ (v : Candidate). place_of_candidate v.config (candidate_name v) w.candidates ≡ Some q.0) ga g.first in
          let one : p.0 ≡ q.0 = one_first w b a p.0 q.0 pb qa same named in
          same_item b a (slice_get w.candidates q.0) (subst (λ k. slice_get w.candidates k ≡ Some b) one p.2) q.2;
    }

pub more_imports : (w : Scene) (rs : List Reading) (i : ℕ) (r : Reading) (m : Imports) (old new : List Imports) → i < length rs → r ≡ get_or rs i r → m.reader ≡ r.reader → IsImport w m → new ≡ old ++ m ∷ []
    → AreImportsSoFar w rs i old → AreImportsSoFar w rs (i + 1) new
more_imports w rs i r m old new lt is e one f h =
    let more : take i rs ++ r ∷ [] ≡ take (i + 1) rs = sym (take_more rs i r lt ∙ ap (λ v. take i rs ++ v ∷ []) (sym is)) in
    subst (AreImportsSoFar w rs (i + 1)) (sym f) (record {
      readers = map-append reader_of_imports old (m ∷ []) ∙ ap₂ (λ l q. l ++ q ∷ []) h.readers e ∙ sym (map-append reader_of_reading (take i rs) (r ∷ [])) ∙ ap (map reader_of_reading) more;
      each = λ n c. last_or_before old m n (IsImport w n) c (h.each n) (λ g. subst (IsImport w) g one);
    })

pub all_imports : (w : Scene) (rs : List Reading) (i : ℕ) (ms : List Imports) → length rs ≤ i → AreReadings w rs → AreImportsSoFar w rs i ms → AreImports w ms
all_imports w rs i ms le right h =
    let readers : map reader_of_imports ms ≡ map reader_of_reading rs = h.readers ∙ ap (map reader_of_reading) (take_all i rs le) in
    record {
      only = h.each;
      all = λ a m.
          let r = right.all a m in
          let c : Contains (map reader_of_imports ms) r.0.reader = subst (λ l. Contains l r.0.reader) (sym readers) (into_map reader_of_reading rs r.0 r.1) in
          let n = from_map reader_of_imports ms r.0.reader c in
          let s = h.each n.0 n.1 in
          let at : slice_get w.candidates n.0.reader ≡ Some a = subst (λ q. slice_get w.candidates q ≡ Some a) (sym n.2) r.2.here in
          let same : s.0 ≡ a = same_item s.0 a (slice_get w.candidates n.0.reader) s.1.here at in
          (n.0, n.1, subst (IsImportOf w n.0) same s.1);
    }

-- ---- what one module exports

pub granted_is_exported : (reader : List ℕ) (s : Candidate) (e : Exported) → Among (IsGranted reader s) s.observed.declaration.exports e → IsExportedBy reader s e
granted_is_exported reader s e h = let g = h.2 in ((h.0, h.1, ap (λ (x : Exported). x.«package») (sym g.1), g.0), ap (λ (x : Exported). x.exporter) g.1)

pub exported_is_granted : (reader : List ℕ) (s : Candidate) (e : Exported) → IsExportedBy reader s e → Among (IsGranted reader s) s.observed.declaration.exports e
exported_is_granted reader s e h = let g = h.0 in (g.0, g.1, (g.3, λ i. record { «package» = sym g.2 i; exporter = h.1 i }))

module _ (w : Scene) (reader p : ℕ) (b : Candidate) (at : slice_get w.candidates p ≡ Some b) where
  pub own_exports_nothing : candidate_name b ≡ name_at w reader → (e : Exported) → IsExportedAt w reader p e → ⊥
  own_exports_nothing same e h = let f : h.0 ≡ b = same_item h.0 b (slice_get w.candidates p) h.1 at in h.2 (ap candidate_name f ∙ same)

  pub exported_here : candidate_name b ≢ name_at w reader → (e : Exported) → IsExportedBy (name_at w reader) b e → IsExportedAt w reader p e
  exported_here other e h = (b, at, other, h)

  pub here_exported : (e : Exported) → IsExportedAt w reader p e → IsExportedBy (name_at w reader) b e
  here_exported e h = let f : h.0 ≡ b = same_item h.0 b (slice_get w.candidates p) h.1 at in subst (λ v. IsExportedBy (name_at w reader) v e) f h.3

pub exported_exact : (x y : Exported) → (is_text x.«package» y.«package» && is_text x.exporter y.exporter) ≡ true → x ≡ y
exported_exact x y e =
    let both = and_parts (is_text x.«package» y.«package») (is_text x.exporter y.exporter) e in
    let named : x.«package» ≡ y.«package» = text_is x.«package» y.«package» both.0 in
    let from : x.exporter ≡ y.exporter = text_is x.exporter y.exporter both.1 in
    λ i. record { «package» = named i; exporter = from i }
