use Rattle.std.proofs.Common.{◌≡◌, ◌∙◌, ap, ap₂, sym, subst, None, Some, Option, unwrap_or, List, [], ℕ, ◌≤◌, ◌<◌, length, nat_eq, get_or}
use Rattle.std.specs.Cmp.Lexicographic.{pointwise}
use Rattle.std.specs.Option.{option_copied, option_map}
use Rattle.std.proofs.lemmas.Option.{slice_get_past, slice_get-get_or}
use Rattle.indexmap.specs.IndexMap.{get}
use Rattle.jl_prim.specs.declared.numbers.ConfigId.{ConfigId}
use Rattle.jl_config.specs.declared.configuration.Read.{Read}
use Rattle.jl_config.specs.Lineages.{is_reader, is_read_in}
use Rattle.jl_config.specs.Located.{Scene, find_read}
use Rattle.jl_config.specs.Tables.{places_where, first_of_places}
use Rattle.jl_config.proofs.PlaceTables.{read_of, read_found}
use Rattle.jl_config.proofs.scene.Scene.read_by.Goals as goal

-- what is read at the place that was found, over the reads of the scene
found_so : (w : Scene) (rs : List (ConfigId × Read)) (rs_seen : List (ConfigId × Read)) (ps ps_seen : List ℕ) (config : ConfigId) (reader name : List ℕ) (o : Option (List ℕ)) (p : Option ℕ) → rs ≡ w.reads → rs_seen ≡ rs → ps_seen ≡ ps → Some ps ≡ o
    → unwrap_or o [] ≡ places_where (is_reader reader) 0 rs → p ≡ first_of_places (is_read_in config name) rs_seen ps_seen → read_of rs p ≡ find_read config reader name w.reads
found_so w rs rs_seen ps ps_seen config reader name o p e f g some listed found =
    ap (read_of rs) (found ∙ ap₂ (first_of_places (is_read_in config name)) f g) ∙ read_found config reader name rs ps (ap (λ (o : Option (List ℕ)). unwrap_or o []) some ∙ listed) ∙ ap (find_read config reader name) e

pub returns-in_err-places : goal.returns-in_err-places
returns-in_err-places c =
    let reader = c.args.reader.now in
    let reads = c.self.inside.reads.items in
    let none : None ≡ get (pointwise nat_eq) c.self.inside.readers reader = c.in_err-places.ensures.value in
    let places : [] ≡ places_where (is_reader reader) 0 reads = ap (λ (o : Option (List ℕ)). unwrap_or o []) none ∙ c.self.invariant.1 reader in
    ap option_copied c.from_residual.ensures ∙ read_found c.args.config reader c.args.name.now reads [] places ∙ ap (λ (w : Scene). find_read c.args.config reader c.args.name.now w.reads) c.self.view_is

pub returns-in_err-at : goal.returns-in_err-at
returns-in_err-at c =
    let none : None ≡ first_of_places (is_read_in c.args.config c.args.name.now) c.as_slice.result.now c.as_slice-2.result.now = c.in_err-at.ensures in
    ap option_copied c.from_residual-in_err-at.ensures
    ∙ found_so c.args.self.now c.self.inside.reads.items c.as_slice.result.now c.in_ok-places.places.now c.as_slice-2.result.now c.args.config c.args.reader.now c.args.name.now _ None
    (ap (λ (w : Scene). w.reads) c.self.view_is) c.as_slice.ensures.value c.as_slice-2.ensures c.in_ok-places.ensures.value (c.self.invariant.1 c.args.reader.now) none

pub returns-in_err-entry : goal.returns-in_err-entry
returns-in_err-entry c =
    let reads = c.self.inside.reads.items in
    let past : length reads ≤ c.in_ok-at.at = subst (λ (l : List (ConfigId × Read)). length l ≤ c.in_ok-at.at) c.deref.ensures.value c.in_err-entry.ensures.lookup.3 in
    let nothing : None ≡ read_of reads (Some c.in_ok-at.at) = ap (option_map (λ (r : ConfigId × Read). r.1)) (sym (slice_get_past reads c.in_ok-at.at past)) in
    ap option_copied c.from_residual-in_err-entry.ensures ∙ nothing
    ∙ found_so c.args.self.now reads c.as_slice.result.now c.in_ok-places.places.now c.as_slice-2.result.now c.args.config c.args.reader.now c.args.name.now _ (Some c.in_ok-at.at)
    (ap (λ (w : Scene). w.reads) c.self.view_is) c.as_slice.ensures.value c.as_slice-2.ensures c.in_ok-places.ensures.value (c.self.invariant.1 c.args.reader.now) c.in_ok-at.ensures

pub returns : goal.returns
returns c =
    let reads = c.self.inside.reads.items in
    let entry : ConfigId × Read = c.in_ok-entry.entry.now in
    let within : c.in_ok-at.at < length reads = subst (λ (l : List (ConfigId × Read)). c.in_ok-at.at < length l) c.deref.ensures.value c.in_ok-entry.ensures.lookup.3.0 in
    let is : entry ≡ get_or reads c.in_ok-at.at entry = c.in_ok-entry.ensures.lookup.1 ∙ ap (λ (l : List (ConfigId × Read)). get_or l c.in_ok-at.at entry) c.deref.ensures.value in
    let there : Some entry.1 ≡ read_of reads (Some c.in_ok-at.at) = ap (option_map (λ (r : ConfigId × Read). r.1)) (ap Some is ∙ sym (slice_get-get_or reads c.in_ok-at.at entry within)) in
    there
    ∙ found_so c.args.self.now reads c.as_slice.result.now c.in_ok-places.places.now c.as_slice-2.result.now c.args.config c.args.reader.now c.args.name.now _ (Some c.in_ok-at.at)
    (ap (λ (w : Scene). w.reads) c.self.view_is) c.as_slice.ensures.value c.as_slice-2.ensures c.in_ok-places.ensures.value (c.self.invariant.1 c.args.reader.now) c.in_ok-at.ensures
