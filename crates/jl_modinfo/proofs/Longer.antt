-- Reading a declaration file where more bytes follow.
use Rattle.std.proofs.Common.{◌≡◌, ℕ, ◌+◌, ◌<◌, ◌≤◌, Bool, true, false, cond, ltb, eqb, not, List, [], ◌∷◌, ◌++◌, length, take, drop, Option, None, Some, Result, Ok, Err, refl, sym, ap, subst, ◌∙◌, arith, inl, inr}
use Rattle.std.specs.Prelude.{◌⊎◌, codes, map}
use Rattle.std.proofs.lemmas.Bool.{lt-ltb, le-ltb}
use Rattle.byteorder.specs.Endian.{big_number}
use Rattle.std.proofs.lemmas.List.{length-take-le, length-append}
use Rattle.jl_reading.specs.Reading.{◌>>=◌, number_at, each_at}
use Rattle.jl_reading.specs.Appended.{Appends, IsPast}
use Rattle.jl_reading.proofs.Appended.{number_appends, bind_appends, bind_within, given_appends, fault_appends, cond_appends, each_appends, steps_appends, part_appends, appends_as, mapped_appends, widened_appends, ReadsPart, bind_err, bind_as, bind_fails, past_fault, not_both, err_is, failed}
use Rattle.jl_reading.proofs.Steps.{bind_ok, guard_ok, ok_is}
use Rattle.jl_prim.specs.declared.declaration.Requires.{Requires}
use Rattle.jl_prim.specs.declared.declaration.Grant.{Grant}
use Rattle.jl_prim.specs.declared.declaration.Provides.{Provides}
use Rattle.jl_prim.specs.declared.declaration.Declaration.{Declaration}
use Rattle.jl_pool.specs.declared.entry.Entry.{Entry}
use Rattle.jl_pool.specs.declared.fault.PoolFault.{PoolFault}
use Rattle.jl_pool.specs.declared.fault.PoolFault.TheVariants as pools
use Rattle.jl_pool.specs.Pool.{text_of, class_named}
use Rattle.jl_pool.specs.Reading.{pool_at}
use Rattle.jl_pool.specs.Laws as pool_laws
use Rattle.jl_pool.proofs.Longer.{pool_longer}
use Rattle.jl_classfile.specs.Attributes as framing
use Rattle.jl_classfile.specs.Front as front_words
use Rattle.jl_classfile.specs.Places.{content_at}
use Rattle.jl_modinfo.specs.declared.module.Module.{Module}
use Rattle.jl_modinfo.specs.declared.attribute.FileParts.{FileParts}
use Rattle.jl_modinfo.specs.declared.attribute.Form.{Form}
use Rattle.jl_modinfo.specs.declared.attribute.Form.TheVariants as forms
use Rattle.jl_modinfo.specs.declared.attribute.Part.{Part}
use Rattle.jl_modinfo.specs.declared.attribute.Part.TheVariants as parts
use Rattle.jl_tables.specs.declared.fault.InfoFault.{InfoFault}
use Rattle.jl_tables.specs.declared.fault.InfoFault.TheVariants as faults
use Rattle.jl_tables.specs.Faults.{short, of_pool, pool_or, named_or}
use Rattle.jl_tables.specs.Meaning.{module_named, package_named, version_named, is_set, is_among, targets_of}
use Rattle.jl_modinfo.specs.Meaning.{class_text, is_module_info}
use Rattle.jl_modinfo.specs.Rules.{keeps_base_rule, missing_package}
use Rattle.jl_modinfo.specs.Reading.{front_at, zero_at, this_at, empty_class_at, ended, module_at, packages_at, main_at, form_of, form_name, part_at, is_first, reader_of, attributes_in, attributes_at, whole, ruled, all_there, or_found, declaration_of, info_of}
use Rattle.jl_tables.specs.Reading.{name_at, new_name_at, names_at, version_at, requires_at, requires_table_at, grant_at, grants_at, implementations_at, provides_at, provides_table_at}
use Rattle.jl_tables.specs.Meaning.{opened_named}
use Rattle.jl_modinfo.specs.Longer.{cut_at, is_lasting, LiesInContent, IsReadPast, Lasts, ReadsLonger}

abbrev Longer : {A : Type 0} → ℕ → (List ℕ → Result (A × ℕ) InfoFault) → Type 0
Longer {A} at reading = Appends cut_at (λ (x : A × ℕ). x.1) LiesInContent at reading

abbrev Moved : ℕ → (List ℕ → Result ℕ InfoFault) → Type 0
Moved at reading = Appends cut_at (λ (x : ℕ). x) LiesInContent at reading

number : (k at : ℕ) → Longer at (λ bytes. number_at short k bytes at)
number k at = number_appends cut_at LiesInContent short (λ p. refl) k at

then : {A B : Type 0} (at : ℕ) (f : List ℕ → Result (A × ℕ) InfoFault) (g : A × ℕ → List ℕ → Result (B × ℕ) InfoFault) → Longer at f → ((x : A × ℕ) → Longer x.1 (g x)) → Longer at (λ bytes. f bytes >>= λ x. g x bytes)
then {A} {B} at f g a b = bind_appends cut_at LiesInContent (λ (x : A × ℕ). x.1) (λ (x : B × ℕ). x.1) at f g a b

value : {A : Type 0} (x : A) (at : ℕ) → Longer at (λ (bytes : List ℕ). Ok (x, at))
value {A} x at = given_appends cut_at LiesInContent (λ (y : A × ℕ). y.1) at (x, at) refl

wrong : {A : Type 0} (at : ℕ) (f : InfoFault) → cut_at f ≡ None → Longer {A = A} at (λ bytes. failed f)
wrong {A} at f e = fault_appends cut_at LiesInContent (λ (x : A × ℕ). x.1) at f e

either : {A : Type 0} (at : ℕ) (b : Bool) (f g : List ℕ → Result (A × ℕ) InfoFault) → Longer at f → Longer at g → Longer at (λ bytes. cond b (f bytes) (g bytes))
either {A} at b f g a c = cond_appends cut_at LiesInContent (λ (x : A × ℕ). x.1) at b f g a c

-- a name or a version by an index
by_name : {A : Type 0} (place at : ℕ) (o : Option A) → Longer at (λ (bytes : List ℕ). named_or place o >>= λ x. Ok (x, at))
by_name place at None = wrong at (faults.BadIndex place) refl
by_name place at (Some x) = value x at

name : (named : List Entry → ℕ → Option (List ℕ)) (pool : List Entry) (at : ℕ) → Longer at (λ bytes. name_at named pool bytes at)
unfolding name_at
name named pool at = then at (λ bytes. number_at short 2 bytes at) (λ i bytes. named_or at (named pool i.0) >>= λ x. Ok (x, i.1)) (number 2 at) (λ i. by_name at i.1 (named pool i.0))

new_name : (table : List ℕ) (named : List Entry → ℕ → Option (List ℕ)) (pool : List Entry) (done : List (List ℕ)) (at : ℕ) → Longer at (λ bytes. new_name_at table named pool bytes done at)
unfolding new_name_at
new_name table named pool done at =
    then at (λ bytes. name_at named pool bytes at) (λ x bytes. cond (is_among x.0 done) (Err (faults.Repeated table x.0)) (Ok x)) (name named pool at)
    (λ x. either x.1 (is_among x.0 done) (λ bytes. failed (faults.Repeated table x.0)) (λ bytes. Ok x) (wrong x.1 (faults.Repeated table x.0) refl) (value x.0 x.1))

counted_names : (table : List ℕ) (named : List Entry → ℕ → Option (List ℕ)) (pool : List Entry) (count at : ℕ) → Longer at (λ bytes. each_at (new_name_at table named pool bytes) [] count at)
counted_names table named pool count at = each_appends cut_at LiesInContent (λ bytes. new_name_at table named pool bytes) (λ done p. new_name table named pool done p) count [] at

names : (table : List ℕ) (named : List Entry → ℕ → Option (List ℕ)) (pool : List Entry) (at : ℕ) → Longer at (λ bytes. names_at table named pool bytes at)
unfolding names_at
names table named pool at =
    then at (λ bytes. number_at short 2 bytes at) (λ count bytes. each_at (new_name_at table named pool bytes) [] count.0 count.1) (number 2 at) (λ count. counted_names table named pool count.0 count.1)

version : (pool : List Entry) (at : ℕ) → Longer at (λ bytes. version_at pool bytes at)
unfolding version_at
version pool at = then at (λ bytes. number_at short 2 bytes at) (λ i bytes. named_or at (version_named pool i.0) >>= λ x. Ok (x, i.1)) (number 2 at) (λ i. by_name at i.1 (version_named pool i.0))

-- ---- tables

requires : (pool : List Entry) (done : List Requires) (at : ℕ) → Longer at (λ bytes. requires_at pool bytes done at)
unfolding requires_at
requires pool done at =
    then at (λ bytes. new_name_at (codes "requires") module_named pool bytes (map (λ (r : Requires). r.name) done) at) _ (new_name (codes "requires") module_named pool (map (λ (r : Requires). r.name) done) at)
    (λ n. then n.1 (λ bytes. number_at short 2 bytes n.1) _ (number 2 n.1)
    (λ flags. then flags.1 (λ bytes. version_at pool bytes flags.1) _ (version pool flags.1)
    (λ v. value (record { name = n.0; transitive = is_set flags.0 0x20; is_static = is_set flags.0 0x40 }) v.1)))

requires_table : (pool : List Entry) (at : ℕ) → Longer at (λ bytes. requires_table_at pool bytes at)
unfolding requires_table_at
requires_table pool at =
    then at (λ bytes. number_at short 2 bytes at) (λ count bytes. each_at (requires_at pool bytes) [] count.0 count.1) (number 2 at)
    (λ count. each_appends cut_at LiesInContent (λ bytes. requires_at pool bytes) (λ done p. requires pool done p) count.0 [] count.1)

grant : (table : List ℕ) (named : List Entry → ℕ → Option (List ℕ)) (pool : List Entry) (done : List Grant) (at : ℕ) → Longer at (λ bytes. grant_at table named pool bytes done at)
unfolding grant_at
grant table named pool done at =
    then at (λ bytes. new_name_at table named pool bytes (map (λ (g : Grant). g.«package») done) at) _ (new_name table named pool (map (λ (g : Grant). g.«package») done) at)
    (λ n. then n.1 (λ bytes. number_at short 2 bytes n.1) _ (number 2 n.1)
    (λ flags. then flags.1 (λ bytes. names_at (codes "targets") module_named pool bytes flags.1) _ (names (codes "targets") module_named pool flags.1)
    (λ ts. value (record { «package» = n.0; to = targets_of ts.0 }) ts.1)))

grants : (table : List ℕ) (named : List Entry → ℕ → Option (List ℕ)) (pool : List Entry) (at : ℕ) → Longer at (λ bytes. grants_at table named pool bytes at)
unfolding grants_at
grants table named pool at =
    then at (λ bytes. number_at short 2 bytes at) (λ count bytes. each_at (grant_at table named pool bytes) [] count.0 count.1) (number 2 at)
    (λ count. each_appends cut_at LiesInContent (λ bytes. grant_at table named pool bytes) (λ done p. grant table named pool done p) count.0 [] count.1)

implementations : (pool : List Entry) (at : ℕ) → Longer at (λ bytes. implementations_at pool bytes at)
unfolding implementations_at
implementations pool at =
    then at (λ bytes. number_at short 2 bytes at)
    (λ count bytes. cond (eqb count.0 0) (Err (faults.BadIndex at)) (each_at (new_name_at (codes "implementations") class_named pool bytes) [] count.0 count.1)) (number 2 at)
    (λ count. either count.1 (eqb count.0 0) (λ bytes. failed (faults.BadIndex at)) (λ bytes. each_at (new_name_at (codes "implementations") class_named pool bytes) [] count.0 count.1)
    (wrong count.1 (faults.BadIndex at) refl) (counted_names (codes "implementations") class_named pool count.0 count.1))

provides : (pool : List Entry) (done : List Provides) (at : ℕ) → Longer at (λ bytes. provides_at pool bytes done at)
unfolding provides_at
provides pool done at =
    then at (λ bytes. new_name_at (codes "provides") class_named pool bytes (map (λ (p : Provides). p.service) done) at) _ (new_name (codes "provides") class_named pool (map (λ (p : Provides). p.service) done) at)
    (λ n. then n.1 (λ bytes. implementations_at pool bytes n.1) _ (implementations pool n.1) (λ cs. value (record { service = n.0; implementations = cs.0 }) cs.1))

provides_table : (pool : List Entry) (at : ℕ) → Longer at (λ bytes. provides_table_at pool bytes at)
unfolding provides_table_at
provides_table pool at =
    then at (λ bytes. number_at short 2 bytes at) (λ count bytes. each_at (provides_at pool bytes) [] count.0 count.1) (number 2 at)
    (λ count. each_appends cut_at LiesInContent (λ bytes. provides_at pool bytes) (λ done p. provides pool done p) count.0 [] count.1)

-- ---- contents

-- What a reading of a whole content cuts stands behind the content's start, and before its end.
record Cuts {V : Type 0} (start : ℕ) (f : List ℕ → Result V InfoFault) : Type 0 where
  cut : (bytes : List ℕ) (d : InfoFault) (p : ℕ) → start ≤ length bytes → f bytes ≡ Err d → cut_at d ≡ Some p → (start ≤ p) × (p ≤ length bytes)

cuts_then : {A V : Type 0} (at : ℕ) (f : List ℕ → Result (A × ℕ) InfoFault) (g : A × ℕ → List ℕ → Result V InfoFault) → Longer at f → ((x : A × ℕ) → Cuts x.1 (g x)) → Cuts at (λ bytes. f bytes >>= λ x. g x bytes)
cuts_then at f g a b = record {
  cut = λ bytes d p le e some.
      elim (bind_err (f bytes) (λ x. g x bytes) d e) [
        | inl h ↦ (let c = a.cut bytes d p le h some in (c.0, c.1))
        | inr o ↦ (let r = a.read bytes o.0 le o.1 in let c = (b o.0).cut bytes d p r.1 o.2 some in (omega (arith, r.0, c.0), c.1))
      ];
}

no_place : {C : Type 0} (o : Option ℕ) (p : ℕ) → o ≡ None → o ≡ Some p → C
no_place o p none some = absurd cc

ended_whole : {A C : Type 0} (b : Bool) (x : A) (d : InfoFault) (p : ℕ) → cond b (Ok x) (Err faults.Trailing) ≡ Err d → cut_at d ≡ Some p → C
ended_whole true x d p e some = not_both x d e
ended_whole false x d p e some = no_place (cut_at d) p (ap cut_at (sym (err_is faults.Trailing d e))) some

cuts_ended : {A : Type 0} (x : A × ℕ) → Cuts x.1 (λ bytes. ended bytes x)
cuts_ended x = record { cut = λ bytes d p le e some. ended_whole (eqb x.1 (length bytes)) x.0 d p e some }

-- The first number of a content that is long enough is read, so that what is cut stands behind its start.
record Opens {V : Type 0} (start : ℕ) (f : List ℕ → Result V InfoFault) : Type 0 where
  less : (bytes : List ℕ) → length bytes < start + 2 → f bytes ≡ Err (faults.Short start)
  enough : (bytes : List ℕ) (d : InfoFault) (p : ℕ) → start + 2 ≤ length bytes → f bytes ≡ Err d → cut_at d ≡ Some p → start < p

-- Likewise, and what is read ends behind its start.
record Begins {A : Type 0} (start : ℕ) (f : List ℕ → Result (A × ℕ) InfoFault) : Type 0 where
  opens : Opens start f
  further : (bytes : List ℕ) (x : A × ℕ) → start ≤ length bytes → f bytes ≡ Ok x → start < x.1

number_cut : (start : ℕ) (bytes : List ℕ) → length bytes < start + 2 → number_at short 2 bytes start ≡ Err (faults.Short start)
number_cut start bytes lt = rw (lt-ltb (length bytes) (start + 2) lt) refl

number_whole : {C : Type 0} (start : ℕ) (bytes : List ℕ) (d : InfoFault) → start + 2 ≤ length bytes → number_at short 2 bytes start ≡ Err d → C
number_whole start bytes d le e =
    let there : number_at short 2 bytes start ≡ Ok (big_number 2 (drop start bytes), start + 2) = rw (le-ltb (length bytes) (start + 2) le) refl in
    not_both (big_number 2 (drop start bytes), start + 2) d (sym there ∙ e)

number_next : (start : ℕ) (bytes : List ℕ) (x : ℕ × ℕ) → number_at short 2 bytes start ≡ Ok x → x.1 ≡ start + 2
number_next start bytes x e =
    let g = guard_ok (ltb (length bytes) (start + 2)) (faults.Short start) (Ok (big_number 2 (drop start bytes), start + 2)) x e in
    sym (ap (λ (y : ℕ × ℕ). y.1) (ok_is (big_number 2 (drop start bytes), start + 2) x g.1))

begins : {A : Type 0} (start : ℕ) (g : ℕ × ℕ → List ℕ → Result (A × ℕ) InfoFault) → ((x : ℕ × ℕ) → Longer x.1 (g x)) → Begins start (λ bytes. number_at short 2 bytes start >>= λ x. g x bytes)
begins start g b = record {
  opens = record {
    less = λ bytes lt. bind_fails (λ x. g x bytes) (number_cut start bytes lt);
    enough = λ bytes d p le e some.
        elim (bind_err (number_at short 2 bytes start) (λ x. g x bytes) d e) [
          | inl h ↦ number_whole start bytes d le h
          | inr k ↦ (
              let next = number_next start bytes k.0 k.1 in
              let c = (b k.0).cut bytes d p (omega (arith, next, le)) k.2 some in
              let from = c.0 in
              omega (arith, next, from)
              )
        ];
  };
  further = λ bytes x le e.
      let o = bind_ok (number_at short 2 bytes start) (λ y. g y bytes) x e in
      let next = number_next start bytes o.0 o.1 in
      let within = ((number 2 start).read bytes o.0 le o.1).1 in
      let from = ((b o.0).read bytes x within o.2).0 in
      omega (arith, next, from);
}

opens_then : {A V : Type 0} (start : ℕ) (f : List ℕ → Result (A × ℕ) InfoFault) (g : A × ℕ → List ℕ → Result V InfoFault) → Longer start f → Begins start f → ((x : A × ℕ) → Cuts x.1 (g x)) → Opens start (λ bytes. f bytes >>= λ x. g x bytes)
opens_then start f g a o b = record {
  less = λ bytes lt. bind_fails (λ x. g x bytes) (o.opens.less bytes lt);
  enough = λ bytes d p le e some.
      elim (bind_err (f bytes) (λ x. g x bytes) d e) [
        | inl h ↦ o.opens.enough bytes d p le h some
        | inr k ↦ (
            let r = a.read bytes k.0 (omega (arith, le)) k.1 in
            let c = (b k.0).cut bytes d p r.1 k.2 some in
            let lt = o.further bytes k.0 (omega (arith, le)) k.1 in
            let from = c.0 in
            omega (arith, lt, from)
            )
      ];
}

name_begins : (named : List Entry → ℕ → Option (List ℕ)) (pool : List Entry) (at : ℕ) → Begins at (λ bytes. name_at named pool bytes at)
unfolding name_at
name_begins named pool at = begins at (λ i bytes. named_or at (named pool i.0) >>= λ x. Ok (x, i.1)) (λ i. by_name at i.1 (named pool i.0))

names_begin : (table : List ℕ) (named : List Entry → ℕ → Option (List ℕ)) (pool : List Entry) (at : ℕ) → Begins at (λ bytes. names_at table named pool bytes at)
unfolding names_at
names_begin table named pool at = begins at (λ count bytes. each_at (new_name_at table named pool bytes) [] count.0 count.1) (λ count. counted_names table named pool count.0 count.1)

-- a content that is read whole
record Content {V : Type 0} (start : ℕ) (f : List ℕ → Result V InfoFault) : Type 0 where
  cuts : Cuts start f
  opens : Opens start f

content_of : {A V : Type 0} (start : ℕ) (f : List ℕ → Result (A × ℕ) InfoFault) (g : A × ℕ → List ℕ → Result V InfoFault) → Longer start f → Begins start f → ((x : A × ℕ) → Cuts x.1 (g x)) → Content start (λ bytes. f bytes >>= λ x. g x bytes)
content_of start f g a o b = record { cuts = cuts_then start f g a b; opens = opens_then start f g a o b }

module_content : (pool : List Entry) (at : ℕ) → Content at (λ bytes. module_at pool bytes at)
unfolding module_at
module_content pool at =
    content_of at (λ bytes. name_at module_named pool bytes at) _ (name module_named pool at) (name_begins module_named pool at)
    (λ n. cuts_then n.1 (λ bytes. number_at short 2 bytes n.1) _ (number 2 n.1)
    (λ flags. cuts_then flags.1 (λ bytes. version_at pool bytes flags.1) _ (version pool flags.1)
    (λ v. cuts_then v.1 (λ bytes. requires_table_at pool bytes v.1) _ (requires_table pool v.1)
    (λ required. cuts_then required.1 (λ bytes. grants_at (codes "exports") package_named pool bytes required.1) _ (grants (codes "exports") package_named pool required.1)
    (λ exports. cuts_then exports.1 (λ bytes. grants_at (codes "opens") (opened_named (is_set flags.0 0x20)) pool bytes exports.1) _ (grants (codes "opens") (opened_named (is_set flags.0 0x20)) pool exports.1)
    (λ opens. cuts_then opens.1 (λ bytes. names_at (codes "uses") class_named pool bytes opens.1) _ (names (codes "uses") class_named pool opens.1)
    (λ uses. cuts_then uses.1 (λ bytes. provides_table_at pool bytes uses.1) _ (provides_table pool uses.1)
    (λ ps. cuts_ended (record { name = n.0; is_open = is_set flags.0 0x20; version = v.0; required = required.0; exports = exports.0; opens = opens.0; uses = uses.0; provides = ps.0 }, ps.1)))))))))

packages_content : (pool : List Entry) (at : ℕ) → Content at (λ bytes. packages_at pool bytes at)
unfolding packages_at
packages_content pool at =
    content_of at (λ bytes. names_at (codes "packages") package_named pool bytes at) (λ x bytes. ended bytes x) (names (codes "packages") package_named pool at) (names_begin (codes "packages") package_named pool at) (λ x. cuts_ended x)

main_content : (pool : List Entry) (at : ℕ) → Content at (λ bytes. main_at pool bytes at)
unfolding main_at
main_content pool at = content_of at (λ bytes. name_at class_named pool bytes at) (λ x bytes. ended bytes x) (name class_named pool at) (name_begins class_named pool at) (λ x. cuts_ended x)

-- a content, and a value that is made of what it means
content_made : {V W : Type 0} (start : ℕ) (f : List ℕ → Result V InfoFault) (made : V → W) → Content start f → Content start (λ bytes. f bytes >>= λ v. Ok (made v))
content_made start f made c = record {
  cuts = record {
    cut = λ bytes d p le e some.
        elim (bind_err (f bytes) (λ v. Ok (made v)) d e) [
          | inl h ↦ c.cuts.cut bytes d p le h some
          | inr k ↦ not_both (made k.0) d k.2
        ];
  };
  opens = record {
    less = λ bytes lt. bind_fails (λ v. Ok (made v)) (c.opens.less bytes lt);
    enough = λ bytes d p le e some.
        elim (bind_err (f bytes) (λ v. Ok (made v)) d e) [
          | inl h ↦ c.opens.enough bytes d p le h some
          | inr k ↦ not_both (made k.0) d k.2
        ];
  };
}

part_content : (pool : List Entry) (form : Form) (at : ℕ) → Content at (λ bytes. part_at pool form bytes at)
part_content pool forms.Module at = content_made at (λ bytes. module_at pool bytes at) (λ m. parts.Module m) (module_content pool at)
part_content pool forms.Packages at = content_made at (λ bytes. packages_at pool bytes at) (λ ps. parts.Packages ps) (packages_content pool at)
part_content pool forms.MainClass at = content_made at (λ bytes. main_at pool bytes at) (λ c. parts.MainClass c) (main_content pool at)

-- ---- attributes

-- a place in a content of n bytes from a place on
record LiesIn (start n : ℕ) (bytes : List ℕ) (p : ℕ) : Type 0 where
  within : (start ≤ p) × (p ≤ start + n)
  whole : (start + n ≤ length bytes) ⊎ ((n < 2) × (p ≡ start))

-- the length that was read stands before it
lies : (at : ℕ) (bytes : List ℕ) (len : ℕ × ℕ) (p : ℕ) → number_at short 4 bytes at ≡ Ok len → LiesIn len.1 len.0 bytes p → LiesInContent bytes p
lies at bytes len p e in_part =
    let g = guard_ok (ltb (length bytes) (at + 4)) (faults.Short at) (Ok (big_number 4 (drop at bytes), at + 4)) len e in
    let is : (big_number 4 (drop at bytes), at + 4) ≡ len = ok_is (big_number 4 (drop at bytes), at + 4) len g.1 in
    let starts : at + 4 ≡ len.1 = ap (λ (x : ℕ × ℕ). x.1) is in
    record {
      at = at;
      size = len.0;
      is_length = ap (λ (x : ℕ × ℕ). x.0) is;
      within = subst (λ (s : ℕ). (s ≤ p) × (p ≤ s + len.0)) (sym starts) in_part.within;
      whole = subst (λ (s : ℕ). (s + len.0 ≤ length bytes) ⊎ ((len.0 < 2) × (p ≡ s))) (sym starts) in_part.whole;
    }

passed_law : {A : Type 0} (start n : ℕ) (x : A) → ReadsPart cut_at (LiesIn start n) (λ (y : A × ℕ). y.1) short start n 0 (λ window. Ok (x, start + n))
passed_law start n x = record {
  read = λ bytes y le e. sym (ap (λ z. z.1) (ok_is (x, start + n) y e));
  cut = λ bytes d p le e some. not_both (x, start + n) d e;
  few = λ bytes le few. absurd (omega (arith, few));
  less = λ bytes le few. absurd (omega (arith, few));
  enough = λ bytes le pos fits. omega (arith, pos);
}

-- a length, and what is done with the content behind it
content_then : {A : Type 0} (bytes : List ℕ) (at : ℕ) (k : (List ℕ × ℕ) × ℕ → Result A InfoFault) (r : Result (ℕ × ℕ) InfoFault)
    → ((r >>= λ len. cond (ltb (length bytes) (len.1 + len.0)) (Err (short len.1)) (Ok ((take (len.1 + len.0) bytes, len.1), len.1 + len.0))) >>= k)
    ≡ (r >>= λ len. cond (ltb (length bytes) (len.1 + len.0)) (Err (short len.1)) (k ((take (len.1 + len.0) bytes, len.1), len.1 + len.0)))
content_then {A} bytes at k (Err d) = refl
content_then {A} bytes at k (Ok len) = by (ltb (length bytes) (len.1 + len.0))
  where
    by : (b : Bool) → (cond b (Err (short len.1)) (Ok ((take (len.1 + len.0) bytes, len.1), len.1 + len.0)) >>= k) ≡ cond b (Err (short len.1)) (k ((take (len.1 + len.0) bytes, len.1), len.1 + len.0))
    by true = refl
    by false = refl

content_longer : {A : Type 0} (at : ℕ) (k : (List ℕ × ℕ) × ℕ → Result (A × ℕ) InfoFault) (few : ℕ)
    → ((start n : ℕ) → ReadsPart cut_at (LiesIn start n) (λ (x : A × ℕ). x.1) short start n few (λ window. k ((window, start), start + n))) → Longer at (λ bytes. content_at short bytes at >>= k)
unfolding content_at
content_longer {A} at k few law =
    appends_as cut_at LiesInContent (λ (x : A × ℕ). x.1) at
    (λ bytes. number_at short 4 bytes at >>= λ len. cond (ltb (length bytes) (len.1 + len.0)) (Err (short len.1)) (k ((take (len.1 + len.0) bytes, len.1), len.1 + len.0)))
    (λ bytes. content_at short bytes at >>= k) (λ bytes. sym (content_then bytes at k (number_at short 4 bytes at)))
    (bind_within cut_at LiesInContent (λ (len : ℕ × ℕ). LiesIn len.1 len.0) (λ (x : ℕ × ℕ). x.1) (λ (x : A × ℕ). x.1) at (λ bytes. number_at short 4 bytes at)
    (λ len bytes. cond (ltb (length bytes) (len.1 + len.0)) (Err (short len.1)) (k ((take (len.1 + len.0) bytes, len.1), len.1 + len.0)))
    (λ bytes len p e w. lies at bytes len p e w) (number 4 at)
    (λ len. part_appends cut_at (LiesIn len.1 len.0) (λ (x : A × ℕ). x.1) short (λ p. refl) len.1 len.0 few (λ window. k ((window, len.1), len.1 + len.0)) (law len.1 len.0)))

added : (done : List Part) (start n : ℕ) (f : List ℕ → Result Part InfoFault) → Content start f → ReadsPart cut_at (LiesIn start n) (λ (x : List Part × ℕ). x.1) short start n 2 (λ window. f window >>= λ v. Ok (done ++ v ∷ [], start + n))
added done start n f c = record {
  read = λ bytes x le e.
      let o = bind_ok (f (take (start + n) bytes)) (λ v. Ok (done ++ v ∷ [], start + n)) x e in
      sym (ap (λ y. y.1) (ok_is (done ++ o.0 ∷ [], start + n) x o.2));
  cut = λ bytes d p le e some.
      let long = length-take-le (start + n) bytes le in
      elim (bind_err (f (take (start + n) bytes)) (λ v. Ok (done ++ v ∷ [], start + n)) d e) [
        | inl h ↦ (let k = c.cuts.cut (take (start + n) bytes) d p (omega (arith, long)) h some in let low = k.0 in let high = k.1 in (record { within = (low, omega (arith, long, high)); whole = inl le }, low, omega (arith, long, high)))
        | inr k ↦ not_both (done ++ k.0 ∷ [], start + n) d k.2
      ];
  few = λ bytes le few. record { within = (omega arith, omega arith); whole = inr (few, refl) };
  less = λ bytes le few.
      let long = length-take-le (start + n) bytes le in
      bind_fails (λ v. Ok (done ++ v ∷ [], start + n)) (c.opens.less (take (start + n) bytes) (omega (arith, long, few)));
  enough = λ bytes le pos fits. past (take (start + n) bytes) (length-take-le (start + n) bytes le) pos fits (f (take (start + n) bytes)) refl;
}
  where
    past : (window : List ℕ) → length window ≡ start + n → 0 < n → 2 ≤ n → (r : Result Part InfoFault) → f window ≡ r → IsPast cut_at (λ (x : List Part × ℕ). x.1) start (f window >>= λ v. Ok (done ++ v ∷ [], start + n))
    past window long pos fits (Ok v) e = subst (λ (r : Result Part InfoFault). IsPast cut_at (λ (x : List Part × ℕ). x.1) start (r >>= λ v. Ok (done ++ v ∷ [], start + n))) (sym e) (omega (arith, pos))
    past window long pos fits (Err d) e = subst (λ (r : Result Part InfoFault). IsPast cut_at (λ (x : List Part × ℕ). x.1) start (r >>= λ v. Ok (done ++ v ∷ [], start + n))) (sym e)
        (past_fault cut_at LiesInContent {p = start} d (cut_at d) refl (λ q some. c.opens.enough window d q (omega (arith, long, fits)) e some))

formed : (pool : List Entry) (place : ℕ) (done : List Part) (at : ℕ) (o : Option Form) → Longer at (λ bytes. framing.by_form (reader_of pool) place bytes done at o)
unfolding framing.passed_at framing.read_at
formed pool place done at None = content_longer at (λ content. Ok (done, content.1)) 0 (λ start n. passed_law start n done)
formed pool place done at (Some form) =
    either at (is_first done form) (λ bytes. content_at short bytes at >>= λ content. part_at pool form content.0.0 content.0.1 >>= λ v. Ok (done ++ v ∷ [], content.1))
    (λ bytes. failed (faults.Repeated (codes "attributes") (form_name form)))
    (content_longer at (λ content. part_at pool form content.0.0 content.0.1 >>= λ v. Ok (done ++ v ∷ [], content.1)) 2
    (λ start n. added done start n (λ window. part_at pool form window start) (part_content pool form start)))
    (wrong at (faults.Repeated (codes "attributes") (form_name form)) refl)

texted : (pool : List Entry) (place : ℕ) (done : List Part) (at : ℕ) (o : Option (List ℕ)) → Longer at (λ bytes. framing.some_or (faults.BadIndex place) o >>= λ n. framing.by_form (reader_of pool) place bytes done at (form_of n))
texted pool place done at None = wrong at (faults.BadIndex place) refl
texted pool place done at (Some n) = formed pool place done at (form_of n)

attribute : (pool : List Entry) (done : List Part) (at : ℕ) → Longer at (λ bytes. framing.attribute_at (reader_of pool) pool bytes done at)
unfolding framing.attribute_at
attribute pool done at =
    then at (λ bytes. number_at short 2 bytes at) (λ index bytes. framing.some_or (faults.BadIndex at) (text_of pool index.0) >>= λ n. framing.by_form (reader_of pool) at bytes done index.1 (form_of n)) (number 2 at)
    (λ index. texted pool at done index.1 (text_of pool index.0))

attributes : (pool : List Entry) (at : ℕ) → Longer at (λ bytes. attributes_at pool bytes at)
unfolding attributes_at
attributes pool at =
    then at (λ bytes. number_at short 2 bytes at) (λ count bytes. framing.attributes_at (reader_of pool) pool count.0 bytes count.1 >>= λ read. Ok (attributes_in read.0, read.1)) (number 2 at)
    (λ count. then count.1 (λ bytes. framing.attributes_at (reader_of pool) pool count.0 bytes count.1) (λ read bytes. Ok (attributes_in read.0, read.1))
    (steps_appends cut_at LiesInContent (λ bytes. framing.attribute_at (reader_of pool) pool bytes) (λ done p. attribute pool done p) count.0 [] count.1)
    (λ read. value (attributes_in read.0) read.1))

-- ---- up to the attributes

moved : {A : Type 0} (at : ℕ) (f : List ℕ → Result (A × ℕ) InfoFault) (g : A × ℕ → List ℕ → Result ℕ InfoFault) → Longer at f → ((x : A × ℕ) → Moved x.1 (g x)) → Moved at (λ bytes. f bytes >>= λ x. g x bytes)
moved {A} at f g a b = bind_appends cut_at LiesInContent (λ (x : A × ℕ). x.1) (λ (x : ℕ). x) at f g a b

moved_on : (at : ℕ) (f : List ℕ → Result ℕ InfoFault) (g : ℕ → List ℕ → Result ℕ InfoFault) → Moved at f → ((x : ℕ) → Moved x (g x)) → Moved at (λ bytes. f bytes >>= λ x. g x bytes)
moved_on at f g a b = bind_appends cut_at LiesInContent (λ (x : ℕ). x) (λ (x : ℕ). x) at f g a b

here : (at : ℕ) → Moved at (λ (bytes : List ℕ). Ok at)
here at = given_appends cut_at LiesInContent (λ (x : ℕ). x) at at refl

not_here : (at : ℕ) (f : InfoFault) → cut_at f ≡ None → Moved at (λ bytes. failed f)
not_here at f e = fault_appends cut_at LiesInContent (λ (x : ℕ). x) at f e

one_of : (at : ℕ) (b : Bool) (f g : List ℕ → Result ℕ InfoFault) → Moved at f → Moved at g → Moved at (λ bytes. cond b (f bytes) (g bytes))
one_of at b f g a c = cond_appends cut_at LiesInContent (λ (x : ℕ). x) at b f g a c

abbrev versions : List ℕ → ℕ → Result ((ℕ × ℕ) × ℕ) InfoFault
versions bytes at = front_words.front_at short faults.BadMagic (λ major minor. faults.BadVersion) bytes at

version_of : (at : ℕ) → Longer at (λ bytes. versions bytes at)
unfolding front_words.front_at
version_of at =
    then at (λ bytes. number_at short 4 bytes at) _ (number 4 at)
    (λ head. either head.1 (not (eqb head.0 0xCAFEBABE)) (λ bytes. failed faults.BadMagic) _ (wrong head.1 faults.BadMagic refl)
    (then head.1 (λ bytes. number_at short 2 bytes head.1) _ (number 2 head.1)
    (λ minor. then minor.1 (λ bytes. number_at short 2 bytes minor.1) _ (number 2 minor.1)
    (λ major. either major.1 (front_words.is_version major.0 minor.0) (λ bytes. Ok ((major.0, minor.0), major.1)) (λ bytes. failed faults.BadVersion) (value (major.0, minor.0) major.1) (wrong major.1 faults.BadVersion refl)))))

front : Moved 0 (λ bytes. front_at bytes)
unfolding front_at
front = moved 0 (λ bytes. versions bytes 0) (λ x bytes. Ok x.1) (version_of 0) (λ x. here x.1)

zero : (field : List ℕ) (at : ℕ) → Moved at (λ bytes. zero_at field bytes at)
unfolding zero_at
zero field at =
    moved at (λ bytes. number_at short 2 bytes at) (λ n bytes. cond (eqb n.0 0) (Ok n.1) (Err (faults.NotModule field))) (number 2 at)
    (λ n. one_of n.1 (eqb n.0 0) (λ bytes. Ok n.1) (λ bytes. failed (faults.NotModule field)) (here n.1) (not_here n.1 (faults.NotModule field) refl))

this : (pool : List Entry) (at : ℕ) → Moved at (λ bytes. this_at pool bytes at)
unfolding this_at
this pool at =
    moved at (λ bytes. number_at short 2 bytes at) _ (number 2 at)
    (λ flags. one_of flags.1 (not (eqb flags.0 0x8000)) (λ bytes. failed (faults.NotModule (codes "flags"))) _ (not_here flags.1 (faults.NotModule (codes "flags")) refl)
    (moved flags.1 (λ bytes. number_at short 2 bytes flags.1) (λ i bytes. cond (is_module_info (class_text pool i.0)) (Ok i.1) (Err (faults.NotModule (codes "this")))) (number 2 flags.1)
    (λ i. one_of i.1 (is_module_info (class_text pool i.0)) (λ bytes. Ok i.1) (λ bytes. failed (faults.NotModule (codes "this"))) (here i.1) (not_here i.1 (faults.NotModule (codes "this")) refl))))

empty_class : (pool : List Entry) (at : ℕ) → Moved at (λ bytes. empty_class_at pool bytes at)
unfolding empty_class_at
empty_class pool at =
    moved_on at (λ bytes. this_at pool bytes at) _ (this pool at)
    (λ a. moved_on a (λ bytes. zero_at (codes "super") bytes a) _ (zero (codes "super") a)
    (λ b. moved_on b (λ bytes. zero_at (codes "interfaces") bytes b) _ (zero (codes "interfaces") b)
    (λ c. moved_on c (λ bytes. zero_at (codes "fields") bytes c) _ (zero (codes "fields") c) (λ d. zero (codes "methods") d))))

pool_cut : (d : PoolFault) → cut_at (of_pool d) ≡ pool_laws.cut_at d
pool_cut (pools.Short at) = refl
pool_cut (pools.Entry i) = refl
pool_cut pools.NoMemory = refl

pool : (at : ℕ) → Longer at (λ bytes. pool_or (pool_at bytes at))
pool at = mapped_appends pool_laws.cut_at cut_at LiesInContent (λ (x : List Entry × ℕ). x.1) at (λ bytes. pool_at bytes at) pool_or of_pool (λ x. refl) (λ d. refl) pool_cut
    (widened_appends pool_laws.cut_at LiesInContent (λ (x : List Entry × ℕ). x.1) at (λ bytes. pool_at bytes at) (pool_longer at))

-- ---- the whole file

lasting_whole : (f : InfoFault) → is_lasting f ≡ true → cut_at f ≡ None
lasting_whole (faults.Short at) e = absurd cc
lasting_whole faults.BadMagic e = refl
lasting_whole faults.BadVersion e = refl
lasting_whole (faults.BadPool i) e = refl
lasting_whole (faults.NotModule field) e = refl
lasting_whole faults.NoModuleAttribute e = refl
lasting_whole (faults.BadIndex at) e = refl
lasting_whole (faults.Repeated table n) e = refl
lasting_whole faults.BaseRule e = refl
lasting_whole (faults.PackageMissing n) e = refl
lasting_whole faults.Trailing e = refl
lasting_whole faults.NoMemory e = refl

rest_past : {D : Type 0} (start p : ℕ) (g : List ℕ → Result D InfoFault) → Lasts start g → p < start → (bytes : List ℕ) (r : Result D InfoFault) → start ≤ length bytes → g bytes ≡ r → IsReadPast p r
rest_past start p g l lt bytes (Ok d) le e = tt
rest_past start p g l lt bytes (Err f) le e = past_fault cut_at LiesInContent {p = p} f (cut_at f) refl (λ q some. let c = (l.cut bytes f q le e some).0 in omega (arith, c, lt))

then_past : {A D : Type 0} (next : A → ℕ) (start p : ℕ) (f : List ℕ → Result A InfoFault) (g : A → List ℕ → Result D InfoFault) → Appends cut_at next LiesInContent start f → ((x : A) → Lasts (next x) (g x))
    → (bytes : List ℕ) (r : Result A InfoFault) → start ≤ length bytes → f bytes ≡ r → IsPast cut_at next p r → IsReadPast p (r >>= λ x. g x bytes)
then_past next start p f g a b bytes (Ok x) le e past = rest_past (next x) p (g x) (b x) past bytes (g x bytes) (a.read bytes x le e).1 refl
then_past next start p f g a b bytes (Err d) le e past = past

lasts_then : {A D : Type 0} (next : A → ℕ) (start : ℕ) (f : List ℕ → Result A InfoFault) (g : A → List ℕ → Result D InfoFault) → Appends cut_at next LiesInContent start f → ((x : A) → Lasts (next x) (g x)) → Lasts start (λ bytes. f bytes >>= λ x. g x bytes)
lasts_then next start f g a b = record {
  fault = λ bytes d le e lasting.
      elim (bind_err (f bytes) (λ x. g x bytes) d e) [
        | inl h ↦ λ more. bind_fails (λ x. g x (bytes ++ more)) (a.fault bytes d le h (lasting_whole d lasting) more ∙ h) ∙ sym e
        | inr o ↦
            let first = a.read bytes o.0 le o.1 in
            λ more. bind_as (λ x. g x (bytes ++ more)) (first.2 more ∙ o.1) ((b o.0).fault bytes d first.1 o.2 lasting more ∙ o.2) ∙ sym e
      ];
  cut = λ bytes d p le e some.
      elim (bind_err (f bytes) (λ x. g x bytes) d e) [
        | inl h ↦
            let c = a.cut bytes d p le h some in (
              c.0,
              c.1,
              elim c.2 [
                | inl goes ↦ inl (goes.0, goes.1, then_past next start p f g a b (bytes ++ goes.0) (f (bytes ++ goes.0)) (omega (arith, le, length-append bytes goes.0)) refl goes.2)
                | inr w ↦ inr (w.0, λ more. bind_fails (λ x. g x (bytes ++ more)) (w.1 more ∙ h) ∙ sym e)
              ],
            )
        | inr o ↦
            let first = a.read bytes o.0 le o.1 in
            let c = (b o.0).cut bytes d p first.1 o.2 some in
            let low = c.0 in (
              omega (arith, first.0, low),
              c.1,
              elim c.2 [
                | inl goes ↦ inl (goes.0, goes.1, subst (λ (r : Result _ InfoFault). IsReadPast p (r >>= λ x. g x (bytes ++ goes.0))) (sym (first.2 goes.0 ∙ o.1)) goes.2)
                | inr w ↦ inr (w.0, λ more. bind_as (λ x. g x (bytes ++ more)) (first.2 more ∙ o.1) (w.1 more ∙ o.2) ∙ sym e)
              ],
            )
      ];
}

-- the rules on the whole file
record Final (f : InfoFault) : Type 0 where
  passes : is_lasting f ≡ false
  whole : cut_at f ≡ None

is_final : (f g : InfoFault) → f ≡ g → Final f → Final g
is_final f g e h = subst Final e h

missing_final : (d : Declaration) (o : Option (List ℕ)) (f : InfoFault) → all_there d o ≡ Err f → Final f
missing_final d None f e = not_both d f e
missing_final d (Some n) f e = is_final (faults.PackageMissing n) f (err_is (faults.PackageMissing n) f e) (record { passes = refl; whole = refl })

ruled_final : (d : Declaration) (b : Bool) (f : InfoFault) → cond b (all_there d (missing_package d)) (Err faults.BaseRule) ≡ Err f → Final f
ruled_final d true f e = missing_final d (missing_package d) f e
ruled_final d false f e = is_final faults.BaseRule f (err_is faults.BaseRule f e) (record { passes = refl; whole = refl })

end_final : (d : Declaration) (b : Bool) (f : InfoFault) → cond b (ruled d) (Err faults.Trailing) ≡ Err f → Final f
end_final d true f e = ruled_final d (keeps_base_rule d.name d.required) f e
end_final d false f e = is_final faults.Trailing f (err_is faults.Trailing f e) (record { passes = refl; whole = refl })

passes_not : {C : Type 0} (b : Bool) → b ≡ false → b ≡ true → C
passes_not b e f = absurd cc

whole_lasts : (found : List (List ℕ)) (at : ℕ) (m : Option Module) (packages : Option (List (List ℕ))) (main : Option (List ℕ)) → Lasts at (λ bytes. whole found bytes (record { «module» = m; packages = packages; main = main }) at)
whole_lasts found at None packages main = record {
  fault = λ bytes f le e lasting more. refl;
  cut = λ bytes f p le e some. no_place (cut_at f) p (ap cut_at (sym (err_is faults.NoModuleAttribute f e))) some;
}
whole_lasts found at (Some m) packages main =
    let d = declaration_of m (or_found found packages) main in
    record {
      fault = λ bytes f le e lasting. passes_not (is_lasting f) (end_final d (eqb at (length bytes)) f e).passes lasting;
      cut = λ bytes f p le e some. no_place (cut_at f) p (end_final d (eqb at (length bytes)) f e).whole some;
    }

pub reads_longer : ReadsLonger
unfolding info_of
reads_longer found =
    lasts_then (λ (x : ℕ). x) 0 (λ bytes. front_at bytes) _ front
    (λ start. lasts_then (λ (x : List Entry × ℕ). x.1) start (λ bytes. pool_or (pool_at bytes start)) _ (pool start)
    (λ p. lasts_then (λ (x : ℕ). x) p.1 (λ bytes. empty_class_at p.0 bytes p.1) _ (empty_class p.0 p.1)
    (λ at. lasts_then (λ (x : FileParts × ℕ). x.1) at (λ bytes. attributes_at p.0 bytes at) (λ read bytes. whole found bytes read.0 read.1) (attributes p.0 at)
    (λ read. whole_lasts found read.1 read.0.«module» read.0.packages read.0.main))))
