-- Which tags have which form.
use Rattle.std.proofs.Common.{◌≡◌, ℕ, ◌≤◌, ◌<◌, true, false, cond, ◌&&◌, Option, Some, option_map, refl, subst, arith}
use Rattle.std.specs.Prelude.{nat_le}
use Rattle.std.proofs.lemmas.Bool.{cond_both, le-leb, leb-true, lt-leb, and_parts, and_from, and_right}
use Rattle.std.proofs.lemmas.Option.{same_Some}
use Rattle.jl_frames.specs.declared.form.Form.{Form}
use Rattle.jl_frames.specs.declared.form.Form.TheVariants as forms
use Rattle.jl_frames.specs.declared.form.TagRow.{TagRow}
use Rattle.jl_frames.specs.Tags.{tag_rows, form_of}

-- the tags of a form
abbrev pub Range : Form → ℕ → Type 0
Range forms.Same tag = tag < 64
Range forms.One tag = (64 ≤ tag) × (tag < 128)
Range forms.OneExtended tag = tag ≡ 247
Range forms.Chop tag = (248 ≤ tag) × (tag ≤ 250)
Range forms.SameExtended tag = tag ≡ 251
Range forms.Append tag = (252 ≤ tag) × (tag ≤ 254)
Range forms.Full tag = tag ≡ 255

abbrev form_in : TagRow → Form
form_in r = r.form

-- one row of the table
row_range : (tag first last : ℕ) (f form : Form) (rest : Option TagRow)
    → (first ≤ tag → tag ≤ last → Range f tag) → (option_map form_in rest ≡ Some form → Range form tag)
    → option_map form_in (cond (nat_le first tag && nat_le tag last) (Some (record { first = first; last = last; form = f })) rest) ≡ Some form → Range form tag
row_range tag first last f form rest here there =
    cond_both (nat_le first tag && nat_le tag last) (Some (record { first = first; last = last; form = f })) rest (λ (o : Option TagRow). option_map form_in o ≡ Some form → Range form tag)
    (λ h e.
    let p = and_parts (nat_le first tag) (nat_le tag last) h in
    subst (λ (g : Form). Range g tag) (same_Some f form e) (here (leb-true first tag p.0) (leb-true tag last p.1)))
    (λ h e. there e)

pub in_range : (tag : ℕ) (form : Form) → form_of tag ≡ Some form → Range form tag
unfolding tag_rows
in_range tag form =
    row_range tag 0 63 forms.Same form _ (λ a b. omega arith)
    (row_range tag 64 127 forms.One form _ (λ a b. (a, omega arith))
    (row_range tag 247 247 forms.OneExtended form _ (λ a b. omega arith)
    (row_range tag 248 250 forms.Chop form _ (λ a b. (a, b))
    (row_range tag 251 251 forms.SameExtended form _ (λ a b. omega arith)
    (row_range tag 252 254 forms.Append form _ (λ a b. (a, b))
    (row_range tag 255 255 forms.Full form _ (λ a b. omega arith) (λ e. absurd cc)))))))

pub one_least : (tag : ℕ) → form_of tag ≡ Some forms.One → 64 ≤ tag
one_least tag e = (in_range tag forms.One e).0

pub chop_most : (tag : ℕ) → form_of tag ≡ Some forms.Chop → tag ≤ 251
chop_most tag e = let r = in_range tag forms.Chop e in omega arith

pub append_least : (tag : ℕ) → form_of tag ≡ Some forms.Append → 251 ≤ tag
append_least tag e = let r = in_range tag forms.Append e in omega arith

-- ---- the form of each tag

inside : (tag first last : ℕ) → first ≤ tag → tag ≤ last → (nat_le first tag && nat_le tag last) ≡ true
inside tag first last a b = and_from (nat_le first tag) (nat_le tag last) (le-leb first tag a) (le-leb tag last b)

past : (tag first last : ℕ) → last < tag → (nat_le first tag && nat_le tag last) ≡ false
past tag first last lt = and_right (nat_le first tag) (nat_le tag last) (lt-leb tag last lt)

pub in_form : (form : Form) (tag : ℕ) → Range form tag → form_of tag ≡ Some form
unfolding tag_rows
in_form forms.Same tag r = rw (inside tag 0 63 (omega arith) (omega arith)) refl
in_form forms.One tag r = rw (past tag 0 63 (omega arith), inside tag 64 127 (omega arith) (omega arith)) refl
in_form forms.OneExtended tag r = rw r refl
in_form forms.Chop tag r = rw (past tag 0 63 (omega arith), past tag 64 127 (omega arith), past tag 247 247 (omega arith), inside tag 248 250 (omega arith) (omega arith)) refl
in_form forms.SameExtended tag r = rw r refl
in_form forms.Append tag r = rw (past tag 0 63 (omega arith), past tag 64 127 (omega arith), past tag 247 247 (omega arith), past tag 248 250 (omega arith), past tag 251 251 (omega arith), inside tag 252 254 (omega arith) (omega arith)) refl
in_form forms.Full tag r = rw r refl
