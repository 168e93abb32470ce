-- What is written is a file of the class.
use Rattle.std.proofs.Common.{true, ◌≡◌, ℕ, ◌+◌, ◌<◌, List, [], ◌∷◌, ◌++◌, map, length, drop, Option, None, refl, sym, ap, subst, ◌∙◌, append_assoc, arith, inl}
use Rattle.std.specs.Prelude.{◌⊎◌, Result, Ok, Err, IfOk, position}
use Rattle.std.specs.List.{flat_map, AllByRecursion}
use Rattle.std.proofs.lemmas.List.{append-nil, length-append, drop_at, length-map}
use Rattle.std.proofs.lemmas.List.Concat.{flat_map-cons}
use Rattle.jl_reading.specs.Reading.{Stands, two, counted}
use Rattle.jl_reading.proofs.Stands.{Stands-from_parts}
use Rattle.jl_pool.specs.declared.entry.Entry.{Entry}
use Rattle.jl_pool.specs.declared.entry.Entry.TheVariants as entries
use Rattle.jl_pool.specs.Spelling.{entry_bytes, EntryFits, ArePoolEntries}
use Rattle.jl_class.specs.declared.member.MethodDecl.{MethodDecl}
use Rattle.jl_class.proofs.FileLaws.{class_reads}
use Rattle.jl_class.specs.Classes.{Class}
use Rattle.jl_class.specs.Reading.{class_of}
use Rattle.jl_class.specs.Meaning.{is_interface, is_of_modules, super_named}
use Rattle.jl_pool.specs.Pool.{class_named}
use Rattle.jl_class.specs.Spelling.{Parts, member_bytes, back_bytes, IsField, IsMethod, Declares, IsClass}
use Rattle.jl_classfile.specs.Front.{is_version}
use Rattle.jl_classfile.specs.Spelling.{HasName, attribute_bytes}
use Rattle.jl_class.specs.Meaning.{field_key, method_key}
use Rattle.jl_classw.specs.Writing.{class_index, super_index, field_member, method_member, parts_of, front_of, pool_bytes, names_bytes, members_bytes, nest_attributes, file_bytes, IsShortCode, IsWritable}
use Rattle.jl_classw.proofs.BytesLaws.{counted_mapped}
use Rattle.jl_classw.proofs.IndexLaws.{class_place, super_place}
use Rattle.jl_classw.proofs.NestsWritten.{nests_written, members_short, permits_short}
use Rattle.jl_classw.proofs.PartLaws.{field_written, method_written, method_short, match_written, match_all, match_length, table_written}

-- a text behind a front, before a rest
stands_in : (front text rest : List ℕ) → Stands (front ++ (text ++ rest)) (length front) text (length front + length text)
stands_in front text rest =
    let l = length-append front (text ++ rest) in
    let m = length-append text rest in
    Stands-from_parts (front ++ (text ++ rest)) (length front) text rest (length front + length text) (drop_at front (text ++ rest) (length front) refl) refl (omega (arith, l, m))

-- ---- bytes of a class whose parts are right

pub bytes_by : Class → Parts → List ℕ
bytes_by c p = front_of c ++ (pool_bytes c.pool ++ back_bytes c.flags p)

pool_same : (es : List Entry) → pool_bytes (entries.Unused ∷ es) ≡ two (length (entries.Unused ∷ es)) ++ flat_map entry_bytes es
pool_same es = ap (λ (l : List ℕ). two (length (entries.Unused ∷ es)) ++ l) (flat_map-cons entry_bytes entries.Unused es)

pub is_class : (c : Class) (p : Parts) (es : List Entry) → c.minor < 65536 → is_version c.major c.minor ≡ true → c.pool ≡ entries.Unused ∷ es → ArePoolEntries es → position is_of_modules c.pool ≡ None → Declares p c
    → IsClass (bytes_by c p) c
unfolding bytes_by
is_class c p es minor version first right inside declares =
    let front = front_of c in
    let pool = pool_bytes c.pool in
    let back = back_bytes c.flags p in
    let bytes = front ++ (pool ++ back) in
    let end = length front + length pool in
    let l = length-append front (pool ++ back) in
    let m = length-append pool back in
    let pool_stands = stands_in front pool back in
    let same : pool ≡ two (length (entries.Unused ∷ es)) ++ flat_map entry_bytes es = ap pool_bytes first ∙ pool_same es in
    record {
      parts = p;
      pool_end = end;
      minor = minor;
      version = version;
      front = stands_in [] front (pool ++ back);
      pool = record {
        es = es;
        count = length (entries.Unused ∷ es);
        first_unused = first;
        counts = inl refl;
        right = right;
        stands = subst (λ (text : List ℕ). Stands bytes 8 text end) same pool_stands;
      };
      inside = inside;
      back = Stands-from_parts bytes end back [] (length bytes)
          (ap (drop end) (sym (append_assoc front pool back)) ∙ (drop_at (front ++ pool) back end (length-append front pool) ∙ sym (append-nil back)))
          (omega (arith, l, m)) (omega arith);
      declares = declares;
    }

-- ---- the parts that are written

super_right : (pool es : List Entry) → pool ≡ entries.Unused ∷ es → length pool < 65536 → (name : Option (List ℕ)) (i : ℕ) → HasName (super_named pool) i name → HasName (super_named pool) (super_index pool name) name
super_right pool es first few name i h =
    let l = ap length first in
    subst (λ (q : List Entry). HasName (super_named q) (super_index q name) name) (sym first) (super_place es (omega (arith, l, few)) name i (subst (λ (q : List Entry). HasName (super_named q) i name) first h))

pub parts_right : (c : Class) (p : Parts) (es : List Entry) → c.pool ≡ entries.Unused ∷ es → length c.pool < 65536 → Declares p c → Declares (parts_of c) c
parts_right c p es first few d =
    let interfaces = match_length (HasName (class_named c.pool)) p.interfaces c.interfaces d.interfaces in
    let l = length-map c.interfaces (class_index c.pool) in
    let short = d.few in
    record {
      flags = d.flags;
      flagged = d.flagged;
      this = class_place c.pool few c.name p.this d.this;
      super = super_right c.pool es first few c.super_name p.super d.super;
      extends = d.extends;
      few = omega (arith, interfaces, l, short);
      interfaces = match_written (HasName (class_named c.pool)) (class_index c.pool) (λ i name h. class_place c.pool few name i h) p.interfaces c.interfaces d.interfaces;
      fields = table_written (IsField (is_interface c.flags) c.pool) field_key (field_member c.pool) (field_written c.pool few (is_interface c.flags)) p.fields c.fields d.fields;
      methods = table_written (IsMethod c.pool) method_key (method_member c.pool) (method_written c.pool few) p.methods c.methods d.methods;
      attributes = (nests_written c p.attributes few d.attributes d.nests).0;
      nests = (nests_written c p.attributes few d.attributes d.nests).1;
    }

back_same : (c : Class) → names_bytes c.pool c ++ members_bytes c.pool c ≡ back_bytes c.flags (parts_of c)
back_same c =
    let before : List ℕ → List ℕ = λ rest. two c.flags ++ (two (class_index c.pool c.name) ++ (two (super_index c.pool c.super_name) ++ rest)) in
    let fields = counted (λ f. member_bytes (field_member c.pool f)) c.fields in
    let methods = counted (λ m. member_bytes (method_member c.pool m)) c.methods in
    let last = counted attribute_bytes (nest_attributes c.pool c) in
    ap (λ (i : List ℕ). before (i ++ (fields ++ (methods ++ last)))) (sym (counted_mapped (class_index c.pool) two c.interfaces))
    ∙ (ap (λ (f : List ℕ). before (counted two (map (class_index c.pool) c.interfaces) ++ (f ++ (methods ++ last)))) (sym (counted_mapped (field_member c.pool) member_bytes c.fields))
    ∙ ap (λ (m : List ℕ). before (counted two (map (class_index c.pool) c.interfaces) ++ (counted member_bytes (map (field_member c.pool) c.fields) ++ (m ++ last)))) (sym (counted_mapped (method_member c.pool) member_bytes c.methods)))

pub file_same : (c : Class) → file_bytes c ≡ bytes_by c (parts_of c)
unfolding bytes_by
file_same c = ap (λ (back : List ℕ). front_of c ++ (pool_bytes c.pool ++ back)) (back_same c)

-- ---- a class that some file declares

few_entries : (pool es : List Entry) → pool ≡ entries.Unused ∷ es → ArePoolEntries es → length pool < 65536
few_entries pool es first right =
    let l = ap length first in
    let few = right.few in
    omega (arith, l, few)

pub writable : (bytes : List ℕ) (c : Class) → IsClass bytes c → IsWritable c.pool c
writable bytes c is =
    let d = is.declares in
    let p = is.parts in
    let few = few_entries c.pool is.pool.es is.pool.first_unused is.pool.right in
    let fields = match_length (IsField (is_interface c.flags) c.pool) p.fields c.fields d.fields.each in
    let methods = match_length (IsMethod c.pool) p.methods c.methods d.methods.each in
    let interfaces = match_length (HasName (class_named c.pool)) p.interfaces c.interfaces d.interfaces in
    let few_fields = d.fields.few in
    let few_methods = d.methods.few in
    let few_interfaces = d.few in
    record {
      few = few;
      entries = subst (λ (pool : List Entry). AllByRecursion EntryFits pool) (sym is.pool.first_unused) (tt, is.pool.right.fit);
      interfaces = omega (arith, interfaces, few_interfaces);
      fields = omega (arith, fields, few_fields);
      methods = omega (arith, methods, few_methods);
      nest_members = members_short c p.attributes few d.nests;
      permits = permits_short c p.attributes few d.nests;
      codes = match_all (IsMethod c.pool) (λ (m : MethodDecl). IsShortCode c.pool m.code) (method_short c.pool few) p.methods c.methods d.methods.each;
    }

pub written_again : (bytes : List ℕ) (c : Class) → IsClass bytes c → IsClass (file_bytes c) c
written_again bytes c is =
    let few = few_entries c.pool is.pool.es is.pool.first_unused is.pool.right in
    subst (λ (file : List ℕ). IsClass file c) (sym (file_same c))
    (is_class c (parts_of c) is.pool.es is.minor is.version is.pool.first_unused is.pool.right is.inside (parts_right c is.parts is.pool.es is.pool.first_unused few is.declares))

pub written_back : {X E : Type 0} (items : X → List ℕ) (r : Result X E) (bytes : List ℕ) (c : Class) → IsClass bytes c → IfOk r (λ x. items x ≡ file_bytes c) → IfOk r (λ x. IsClass (items x) c)
written_back items (Ok x) bytes c is e = subst (λ (file : List ℕ). IsClass file c) (sym e) (written_again bytes c is)
written_back items (Err f) bytes c is e = tt

pub written_read : {X E : Type 0} (items : X → List ℕ) (r : Result X E) (bytes : List ℕ) (c : Class) → IsClass bytes c → IfOk r (λ x. items x ≡ file_bytes c) → IfOk r (λ x. class_of (items x) ≡ Ok c)
written_read {E = E} items (Ok x) bytes c is e = class_reads (items x) c (written_back {E = E} items (Ok x) bytes c is e)
written_read items (Err f) bytes c is e = tt
