use Rattle.std.proofs.Common.{◌≡◌, ap, ◌∙◌, [], sym}
use Rattle.std.proofs.lemmas.Result.{on_ok_weaker}
use Rattle.std.proofs.lemmas.List.{append-nil}
use Rattle.indexmap.specs.IndexMap.{get}
use Rattle.jl_classw.specs.declared.entries.Key.{Key}
use Rattle.jl_classw.specs.Keys.{is_key, is_keyed}
use Rattle.jl_classw.specs.Writing.{or_here}
use Rattle.jl_classw.proofs.KeyLaws.{other_noted}
use Rattle.jl_classw.proofs.entries.Firsts.note.Goals as goal

pub returns-in_default : goal.returns-in_default
returns-in_default c =
    let old = c.args.self.now.others in
    let new = c.note_other.new.others in
    record {
      ok = on_ok_weaker c.note_other.result (λ (h : (k : Key) → get is_key new k ≡ or_here (get is_key old k) (is_keyed k c.key_of.result) c.args.index).
          other_noted c.args.self.now.texts old new c.args.entry.now c.args.index c.in_default.not-Utf8
          (λ (k : Key). h k ∙ ap (λ o. or_here (get is_key old k) (is_keyed k o) c.args.index) c.key_of.ensures)) c.note_other.ensures.ok;
      texts = ([], sym (append-nil c.args.self.now.texts.entries));
      others = c.note_other.ensures.front;
      memory = c.note_other.ensures.memory;
    }
