-- Steps of the search for a field.
use Rattle.std.proofs.Common.{◌≡◌, ◌+◌, ◌||◌, ℕ, zero, suc, List, [], ◌∷◌, ◌++◌, length, drop, slice_get, append_assoc, Option, Some, None, inl, inr, Bool, true, false, refl, sym, ◌∙◌, ap, subst, arith}
use Rattle.std.specs.Prelude.{Contains, MatchOption}
use Rattle.std.specs.Option.{option_map_or, option_and_then, option_or}
use Rattle.std.proofs.lemmas.Bool.{eqb-true, false≢true}
use Rattle.std.proofs.lemmas.List.{append-nil}
use Rattle.std.proofs.lemmas.Option.{none-some, same_Some}
use Rattle.std.proofs.lemmas.List.Folds.{list_any-append}
use Rattle.jl_logic.proofs.Rising.{contains_head, contains_tail}
use Rattle.jl_prim.specs.declared.numbers.ClassId.{ClassId}
use Rattle.jl_loads.specs.Worlds.{State, IsClass, class_at, super_of, interfaces_of, is_among, is_same}
use Rattle.jl_loads.specs.Laws.{AreSound}
use Rattle.jl_link.specs.declared.member.Member.{Member}
use Rattle.jl_link.specs.declared.fields.Step.{Step}
use Rattle.jl_link.specs.declared.fields.Step.TheVariants.{Enter, Leave}
use Rattle.jl_link.specs.Members.{Wanted, first_given, own_field, field_of}
use Rattle.jl_link.specs.Searching.{entered, opened, gives, answer, AreDue, Searches, IsEntered}
use Rattle.jl_link.proofs.Looking.{field_step, interface_in, super_in}

-- ---- optional values

module _ {X : Type 0} where
  or_none : (a : Option X) → option_or a None ≡ a
  or_none None = refl
  or_none (Some x) = refl

  or_again : (a b c : Option X) → option_or (option_or a b) c ≡ option_or a (option_or b c)
  or_again None b c = refl
  or_again (Some x) b c = refl

  none_second : (a b : Option X) → option_or a b ≡ None → b ≡ None
  none_second None b e = e
  none_second (Some x) b e = absurd (none-some x (sym e))

-- ---- classes to be entered

entered_suc : (cs : List ClassId) (k : ℕ) (c : ClassId) → slice_get cs k ≡ Some c → entered (drop k cs) ≡ entered (drop (suc k) cs) ++ Enter c ∷ []
unfolding entered
entered_suc [] k c e = absurd (none-some c e)
entered_suc (d ∷ ds) zero c e = ap (λ (b : ClassId). entered ds ++ Enter b ∷ []) (same_Some d c e)
entered_suc (d ∷ ds) (suc k) c e = entered_suc ds k c e

-- one class more is put on top
pub entered_more : (base : List Step) (cs : List ClassId) (m k : ℕ) (c : ClassId) → m ≡ k + 1 → slice_get cs k ≡ Some c → base ++ entered (drop k cs) ≡ (base ++ entered (drop m cs)) ++ Enter c ∷ []
entered_more base cs m k c e g =
    let deep : m ≡ suc k = omega (arith, e) in
    ap (λ (xs : List Step). base ++ xs) (entered_suc cs k c g ∙ ap (λ (n : ℕ). entered (drop n cs) ++ Enter c ∷ []) (sym deep))
    ∙ sym (append_assoc base (entered (drop m cs)) (Enter c ∷ []))

entered_past : (cs : List ClassId) → entered (drop (length cs) cs) ≡ []
unfolding entered
entered_past [] = refl
entered_past (c ∷ cs) = entered_past cs

pub entered_none : (base : List Step) (cs : List ClassId) → base ≡ base ++ entered (drop (length cs) cs)
entered_none base cs = sym (append-nil base) ∙ ap (λ (xs : List Step). base ++ xs) (sym (entered_past cs))

-- ---- the answer of a step

pub entered_gives : (P : Type 0) (own o : Option Member) (m : Member) → o ≡ Some m → MatchOption o P (λ (k : Member). own ≡ Some k) → own ≡ Some m
entered_gives P own None m e h = absurd (none-some m e)
entered_gives P own (Some k) m e h = h ∙ e

pub entered_goes : (P : Type 0) (own o : Option Member) → o ≡ None → MatchOption o P (λ (k : Member). own ≡ Some k) → P
entered_goes P own None e h = h
entered_goes P own (Some k) e h = absurd (none-some k (sym e))

module _ (s : State) (w : Wanted) where
  -- ---- what steps find

  answer_append : (xs ys : List Step) → answer s w (xs ++ ys) ≡ option_or (answer s w ys) (answer s w xs)
  answer_append [] ys = sym (or_none (answer s w ys))
  answer_append (x ∷ xs) ys = ap (λ (a : Option Member). option_or a (gives s w x)) (answer_append xs ys) ∙ or_again (answer s w ys) (answer s w xs) (gives s w x)

  answer_swap : (ls xs ys : List Step) → answer s w xs ≡ answer s w ys → answer s w (ls ++ xs) ≡ answer s w (ls ++ ys)
  answer_swap ls xs ys e = answer_append ls xs ∙ ap (λ (a : Option Member). option_or a (answer s w ls)) e ∙ sym (answer_append ls ys)

  -- ---- what is due

  due_append : (xs ys : List Step) → AreDue s w xs → AreDue s w ys → AreDue s w (xs ++ ys)
  due_append [] ys h k = k
  due_append (Enter c ∷ xs) ys h k = (h.0, due_append xs ys h.1 k)
  due_append (Leave c ∷ xs) ys h k = ((λ e. h.0 (none_second (answer s w ys) (answer s w xs) (sym (answer_append xs ys) ∙ e))), due_append xs ys h.1 k)

  due_end : (xs ys : List Step) → AreDue s w (xs ++ ys) → AreDue s w ys
  due_end [] ys h = h
  due_end (Enter c ∷ xs) ys h = due_end xs ys h.1
  due_end (Leave c ∷ xs) ys h = due_end xs ys h.1

  due_swap : (ls xs ys : List Step) → answer s w xs ≡ answer s w ys → AreDue s w ys → AreDue s w (ls ++ xs) → AreDue s w (ls ++ ys)
  due_swap [] xs ys e k h = k
  due_swap (Enter c ∷ ls) xs ys e k h = (h.0, due_swap ls xs ys e k h.1)
  due_swap (Leave c ∷ ls) xs ys e k h = ((λ i. h.0 (answer_swap ls xs ys e ∙ i)), due_swap ls xs ys e k h.1)

  -- ---- the search

  module _ (c : ClassId) (ls : List Step) (vain : List ClassId) where
    swap : (xs ys : List Step) → Searches s w c (ls ++ xs) vain → answer s w xs ≡ answer s w ys → AreDue s w ys → Searches s w c (ls ++ ys) vain
    swap xs ys h e k = record {
      answer = sym (answer_swap ls xs ys e) ∙ h.answer;
      due = due_swap ls xs ys e k h.due;
      vain = h.vain;
    }

    drop_last : (x : Step) → Searches s w c (ls ++ x ∷ []) vain → gives s w x ≡ None → Searches s w c ls vain
    drop_last x h e = subst (λ (xs : List Step). Searches s w c xs vain) (append-nil ls) (swap (x ∷ []) [] h e tt)

    -- a class that was searched in vain
    pub searched_vain : (d : ClassId) → Searches s w c (ls ++ Enter d ∷ []) vain → is_among d vain ≡ true → Searches s w c ls vain
    searched_vain d h e = drop_last (Enter d) h (h.vain d e)

    -- the class to be entered is there
    pub searched_there : (d : ClassId) → Searches s w c (ls ++ Enter d ∷ []) vain → IsClass s d
    searched_there d h = (due_end ls (Enter d ∷ []) h.due).0

    -- a class that is left
    pub searched_left : (d : ClassId) → Searches s w c (ls ++ Leave d ∷ []) vain → Searches s w c ls (vain ++ d ∷ [])
    searched_left d h = record {
      answer = less.answer;
      due = less.due;
      vain = λ e i. by e (is_among e vain) (h.vain e) (is_same e d) refl (sym (list_any-append (is_same e) vain (d ∷ [])) ∙ i);
    }
      where
        less : Searches s w c ls vain
        less = drop_last (Leave d) h refl

        none : field_of s d w ≡ None
        none = (due_end ls (Leave d ∷ []) h.due).0 refl

        same : (e : ClassId) → is_same e d ≡ true → d ≡ e
        same e i = ap (λ (n : ℕ). let k : ClassId = record { 0 = n } in k) (sym (eqb-true e.0 d.0 i))

        by : (e : ClassId) (a : Bool) → (a ≡ true → field_of s e w ≡ None) → (b : Bool) → is_same e d ≡ b → (a || (b || false)) ≡ true → field_of s e w ≡ None
        by e true was b i j = was refl
        by e false was true i j = subst (λ (k : ClassId). field_of s k w ≡ None) (same e i) none
        by e false was false i j = absurd (false≢true j)

  -- nothing is left to do
  pub searched_all : (c : ClassId) (vain : List ClassId) → Searches s w c [] vain → None ≡ field_of s c w
  searched_all c vain h = h.answer

  module _ (sound : AreSound s) where
    entered_answer : (cs : List ClassId) → answer s w (entered cs) ≡ first_given (λ d. field_of s d w) cs
    unfolding entered
    entered_answer [] = refl
    entered_answer (c ∷ cs) = answer_append (entered cs) (Enter c ∷ []) ∙ ap (option_or (field_of s c w)) (entered_answer cs)

    entered_due : (cs : List ClassId) → ((d : ClassId) → Contains cs d → IsClass s d) → AreDue s w (entered cs)
    unfolding entered
    entered_due [] h = tt
    entered_due (c ∷ cs) h = due_append (entered cs) (Enter c ∷ []) (entered_due cs (λ d k. h d (contains_tail c d cs k))) (h c (contains_head c cs), tt)

    above_answer : (o : Option ClassId) (cs : List ClassId)
        → answer s w (option_map_or (λ (d : ClassId). Enter d ∷ []) o [] ++ entered cs) ≡ option_or (first_given (λ d. field_of s d w) cs) (option_and_then (λ d. field_of s d w) o)
    above_answer None cs = entered_answer cs ∙ sym (or_none (first_given (λ d. field_of s d w) cs))
    above_answer (Some d) cs = ap (λ (a : Option Member). option_or a (field_of s d w)) (entered_answer cs)

    above_due : (o : Option ClassId) (cs : List ClassId) → ((d : ClassId) → o ≡ Some d → IsClass s d) → ((d : ClassId) → Contains cs d → IsClass s d)
        → AreDue s w (option_map_or (λ (d : ClassId). Enter d ∷ []) o [] ++ entered cs)
    above_due None cs h k = entered_due cs k
    above_due (Some d) cs h k = (h d refl, entered_due cs k)

    module _ (d : ClassId) (there : IsClass s d) (own : own_field s w d ≡ None) where
      rest_answer : answer s w (option_map_or (λ (d : ClassId). Enter d ∷ []) (super_of s d) [] ++ entered (interfaces_of s d)) ≡ field_of s d w
      rest_answer =
          above_answer (super_of s d) (interfaces_of s d)
          ∙ sym (field_step s w sound d there
          ∙ ap (λ (a : Option Member). option_or a (option_or (first_given (λ d. field_of s d w) (interfaces_of s d)) (option_and_then (λ d. field_of s d w) (super_of s d)))) own)

      opened_answer : answer s w (opened s d) ≡ field_of s d w
      opened_answer = or_none (answer s w (option_map_or (λ (d : ClassId). Enter d ∷ []) (super_of s d) [] ++ entered (interfaces_of s d))) ∙ rest_answer

      opened_due : AreDue s w (opened s d)
      opened_due = (
        (λ e. sym rest_answer ∙ e),
        above_due (super_of s d) (interfaces_of s d)
            (λ k e. let r = super_in s w sound d k (class_at s d) refl e in (r.0, r.2))
            (λ k h. let r = interface_in s w sound d k (class_at s d) refl h in (r.0, r.2)),
      )

    -- a class that has not the field itself
    pub searched_opened : (c : ClassId) (ls : List Step) (vain : List ClassId) (d : ClassId) → Searches s w c (ls ++ Enter d ∷ []) vain → own_field s w d ≡ None → Searches s w c (ls ++ opened s d) vain
    searched_opened c ls vain d h own =
        let there = searched_there c ls vain d h in
        swap c ls vain (Enter d ∷ []) (opened s d) h (sym (opened_answer d there own)) (opened_due d there own)

  -- a class that has the field itself has it for all
  pub searched_own : AreSound s → (c : ClassId) (ls : List Step) (vain : List ClassId) (d : ClassId) (m : Member) → Searches s w c (ls ++ Enter d ∷ []) vain → own_field s w d ≡ Some m → Some m ≡ field_of s c w
  searched_own sound c ls vain d m h own =
      let has : field_of s d w ≡ Some m = field_step s w sound d (searched_there c ls vain d h)
      ∙ ap (λ (a : Option Member). option_or a (option_or (first_given (λ d. field_of s d w) (interfaces_of s d)) (option_and_then (λ d. field_of s d w) (super_of s d)))) own in
      ap (λ (a : Option Member). option_or a (answer s w ls)) (sym has) ∙ sym (answer_append ls (Enter d ∷ [])) ∙ h.answer

  -- ---- the code's steps

  -- at the start there is the class alone
  pub searched_first : (c : ClassId) (before steps : List Step) (seen : List ClassId) → IsClass s c → before ≡ [] → seen ≡ [] → steps ≡ before ++ Enter c ∷ [] → Searches s w c steps seen
  searched_first c before steps seen there e none f =
      subst (λ (xs : List Step). Searches s w c xs seen) (ap (λ (xs : List Step). xs ++ Enter c ∷ []) (sym e) ∙ sym f)
      (subst (Searches s w c (Enter c ∷ [])) (sym none) (record {
        answer = refl;
        due = (there, tt);
        vain = λ d h. absurd (false≢true h);
      }))

  -- a class was entered
  pub searched_entered : AreSound s → (c : ClassId) (old popped new : List Step) (seen : List ClassId) (d : ClassId)
      → Searches s w c old seen → old ≡ popped ++ Enter d ∷ [] → IsEntered s w seen d popped new → Searches s w c new seen
  searched_entered sound c old popped new seen d h e went = elim went [
    | inl i ↦ subst (λ (xs : List Step). Searches s w c xs seen) (sym i.1) (searched_vain c popped seen d (subst (λ (xs : List Step). Searches s w c xs seen) e h) i.0)
    | inr i ↦ subst (λ (xs : List Step). Searches s w c xs seen) (sym i.1) (searched_opened sound c popped seen d (subst (λ (xs : List Step). Searches s w c xs seen) e h) i.0)
  ]

  pub enters_class : (c : ClassId) (old popped : List Step) (seen : List ClassId) (d : ClassId) → Searches s w c old seen → old ≡ popped ++ Enter d ∷ [] → IsClass s d
  enters_class c old popped seen d h e = searched_there c popped seen d (subst (λ (xs : List Step). Searches s w c xs seen) e h)

  pub searched_found : AreSound s → (c : ClassId) (old popped : List Step) (seen : List ClassId) (d : ClassId) (m : Member)
      → Searches s w c old seen → old ≡ popped ++ Enter d ∷ [] → own_field s w d ≡ Some m → Some m ≡ field_of s c w
  searched_found sound c old popped seen d m h e own = searched_own sound c popped seen d m (subst (λ (xs : List Step). Searches s w c xs seen) e h) own

  pub searched_leaves : (c : ClassId) (old popped : List Step) (seen new : List ClassId) (d : ClassId)
      → Searches s w c old seen → old ≡ popped ++ Leave d ∷ [] → new ≡ seen ++ d ∷ [] → Searches s w c popped new
  searched_leaves c old popped seen new d h e more =
      subst (Searches s w c popped) (sym more) (searched_left c popped seen d (subst (λ (xs : List Step). Searches s w c xs seen) e h))

  pub searched_none : (c : ClassId) (steps : List Step) (seen : List ClassId) → Searches s w c steps seen → steps ≡ [] → None ≡ field_of s c w
  searched_none c steps seen h e = searched_all c seen (subst (λ (xs : List Step). Searches s w c xs seen) e h)
